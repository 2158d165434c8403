-- Two points of a zone, found one besides the other.
use Rattle.std.proofs.Common.{◌≡◌, ◌≢◌, ℕ, ◌==◌, not, Bool, true, false, List, Some, ◌∙◌, ap, arith}
use Rattle.std.proofs.lemmas.Bool.Decides.{nat_tests}
use Rattle.site_types.specs.declared.retained.Retained.{Retained}
use Rattle.site_types.specs.declared.site.Site.{Site}
use Rattle.site_types.specs.Done.{Done}
use Rattle.panel_rules.specs.Moments.{Moment}
use Rattle.coincidence_rules.specs.Places.{is_of}
use Rattle.zone_signals.specs.declared.kind.Kind.{Kind}
use Rattle.zone_signals.specs.Rounds.{HasHeldAfter, HasTwoHeldAfter, IsHeldAfter}

same : (n : ℕ) → (n == n) ≡ true
same n = grind (arith, nat_tests)

besides_differ : (one other : ℕ) → not (other == one) ≡ true → one ≢ other
besides_differ one other test is = never (other == one) (ap (λ n. other == n) is ∙ same other) test
  where
    never : (b : Bool) → b ≡ true → not b ≡ true → ⊥
    never true p q = cc
    never false p q = cc

differ_besides : (one other : ℕ) → one ≢ other → not (other == one) ≡ true
differ_besides one other apart = grind (arith, nat_tests, apart)

module _ (site : Site) (kept : Retained) (done : List Done) (moments : List Moment) (kind : Kind) (zone after later now : ℕ) where
  pub two_from : (second : ℕ) → is_of site zone second ≡ true → IsHeldAfter site kept done moments kind later now second
      → HasHeldAfter site kept done moments kind (Some second) zone after now → HasTwoHeldAfter site kept done moments kind zone after later now
  two_from second of_zone held has = record {
    first_point = has.point;
    second_point = second;
    first = has.is.0;
    second = held.0;
    differ = besides_differ has.point second has.other;
    first_of_zone = has.of_zone;
    second_of_zone = of_zone;
    one = has.is.1;
    two = held.1;
  }

  pub from_two : (two : HasTwoHeldAfter site kept done moments kind zone after later now) → IsHeldAfter site kept done moments kind later now two.second_point
      × HasHeldAfter site kept done moments kind (Some two.second_point) zone after now
  from_two two = (
    (two.second, two.two),
    record {
      point = two.first_point;
      of_zone = two.first_of_zone;
      other = differ_besides two.first_point two.second_point two.differ;
      is = (two.first, two.one);
    },
  )
