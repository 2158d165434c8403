-- Two points of a pair are two of the zone, or one of it and one of its partner.
use Rattle.std.proofs.Common.{◌≡◌, ◌≢◌, ◌⊎◌, inl, inr, ℕ, ◌<◌, ◌==◌, Bool, true, List, Option, Some, None, slice_get, refl, sym, ◌∙◌, ap, subst, arith}
use Rattle.std.proofs.lemmas.Bool.Decides.{nat_tests}
use Rattle.site_types.specs.declared.point.Point.{Point}
use Rattle.site_types.specs.declared.retained.Retained.{Retained}
use Rattle.site_types.specs.declared.site.Site.{Site}
use Rattle.site_types.specs.declared.zone.Zone.{Zone}
use Rattle.site_types.specs.Done.{Done}
use Rattle.site_types.specs.Valid.{IsValid}
use Rattle.panel_rules.specs.Moments.{Moment}
use Rattle.panel_rules.proofs.Bools.{both, parts, either, either_left, either_right}
use Rattle.coincidence_rules.specs.Places.{is_of, lies_in, on_partner, on_zone, partner_of}
use Rattle.coincidence_rules.proofs.ValidWired.{wired_of}
use Rattle.zone_signals.specs.declared.kind.Kind.{Kind}
use Rattle.zone_signals.specs.Pairs.{ArePairBars, HasOneOfEach, HasPairAcross}
use Rattle.zone_signals.specs.Rounds.{HasPairAfter, HasTwoHeldAfter, HeldAfter}

pub same_number : (a b : ℕ) → (a == b) ≡ true → a ≡ b
same_number a b h = grind (arith, nat_tests, h)

-- a point is of one zone
pub one_zone : (site : Site) (zone other point : ℕ) → is_of site zone point ≡ true → is_of site other point ≡ true → zone ≡ other
one_zone site zone other point one two = go (slice_get site.points point) one two
  where
    go : (o : Option Point) → lies_in zone o ≡ true → lies_in other o ≡ true → zone ≡ other
    go None p q = absurd cc
    go (Some x) p q = sym (same_number x.zone zone p) ∙ same_number x.zone other q

-- a partner is another zone
pub apart_of : (site : Site) (zone other : ℕ) → IsValid site → partner_of (slice_get site.zones zone) ≡ Some other → other ≢ zone
apart_of site zone other valid is = go (slice_get site.zones zone) refl is
  where
    go : (o : Option Zone) → slice_get site.zones zone ≡ o → partner_of o ≡ Some other → other ≢ zone
    go None at has = absurd cc
    go (Some plan) at has = ((wired_of site valid).partners zone other plan at has).apart

pub on_found : (test : ℕ → Bool) (partner : Option ℕ) → on_zone test partner ≡ true → (other : ℕ) × (partner ≡ Some other) × (test other ≡ true)
on_found test None h = cc
on_found test (Some other) h = (other, refl, h)

found_on : (test : ℕ → Bool) (partner : Option ℕ) (other : ℕ) → partner ≡ Some other → test other ≡ true → on_zone test partner ≡ true
found_on test partner other is h = ap (on_zone test) is ∙ h

module _ (site : Site) (kept : Retained) (done : List Done) (moments : List Moment) (kind : Kind) (zone later now : ℕ) (partner : Option ℕ) (bar : ℕ → ℕ)
    (own both_of : ℕ) (bars : ArePairBars site zone partner bar own both_of) where
  from_zero : (after point first : ℕ) → HeldAfter site kept done moments kind after now point first → HeldAfter site kept done moments kind 0 now point first
  from_zero after point first held =
      let since = held.since in
      record { fits = held.fits; since = omega (arith, since); held = held.held; ended = held.ended }

  pub pair_of_two : HasTwoHeldAfter site kept done moments kind zone own later now → HasPairAfter site kept done moments kind zone bar later now
  pair_of_two two = record {
    first_point = two.first_point;
    second_point = two.second_point;
    first = two.first;
    second = two.second;
    differ = two.differ;
    pairs = either_left _ _ (both _ _ two.first_of_zone (either_left _ _ two.second_of_zone));
    since = λ other of.
        let same : zone ≡ other =
        elim (either _ _ of) [
          | inl one ↦ one_zone site zone other two.first_point two.first_of_zone one
          | inr two' ↦ one_zone site zone other two.second_point two.second_of_zone two'
        ] in
        subst (λ z. bar z < two.first) same (let since = two.one.since in let alone = bars.alone in omega (arith, since, alone));
    one = from_zero own two.first_point two.first two.one;
    two = two.two;
  }

  pub pair_of_each : (valid : IsValid site) (other : ℕ) → partner ≡ Some other
      → HasOneOfEach site kept done moments kind zone other both_of later now ⊎ HasOneOfEach site kept done moments kind other zone both_of later now
      → HasPairAfter site kept done moments kind zone bar later now
  pair_of_each valid other is (inl each) = record {
    first_point = each.one.point;
    second_point = each.two.point;
    first = each.one.is.0;
    second = each.two.is.0;
    differ = λ same. apart_of site zone other valid (bars.is_partner ∙ is)
        (one_zone site other zone each.two.point each.two.of_zone (subst (λ p. is_of site zone p ≡ true) same each.one.of_zone));
    pairs = either_left _ _ (both _ _ each.one.of_zone (either_right _ _
        (found_on (λ z. is_of site z each.two.point) (partner_of (slice_get site.zones zone)) other (bars.is_partner ∙ is) each.two.of_zone)));
    since = λ third of. (
        let since = each.one.is.1.since in
        let across = bars.across other is in
        elim (either _ _ of) [
          | inl first ↦
              subst (λ z. bar z < each.one.is.0) (one_zone site zone third each.one.point each.one.of_zone first) (omega (arith, since, across))
          | inr second ↦
              subst (λ z. bar z < each.one.is.0) (one_zone site other third each.two.point each.two.of_zone second) (omega (arith, since, across))
        ]);
    one = from_zero both_of each.one.point each.one.is.0 each.one.is.1;
    two = each.two.is.1;
  }
  pair_of_each valid other is (inr each) = record {
    first_point = each.one.point;
    second_point = each.two.point;
    first = each.one.is.0;
    second = each.two.is.0;
    differ = λ same. apart_of site zone other valid (bars.is_partner ∙ is)
        (one_zone site other zone each.two.point (subst (λ p. is_of site other p ≡ true) same each.one.of_zone) each.two.of_zone);
    pairs = either_right _ _ (both _ _
        (found_on (λ z. is_of site z each.one.point) (partner_of (slice_get site.zones zone)) other (bars.is_partner ∙ is) each.one.of_zone) each.two.of_zone);
    since = λ third of. (
        let since = each.one.is.1.since in
        let across = bars.across other is in
        elim (either _ _ of) [
          | inl first ↦
              subst (λ z. bar z < each.one.is.0) (one_zone site other third each.one.point each.one.of_zone first) (omega (arith, since, across))
          | inr second ↦
              subst (λ z. bar z < each.one.is.0) (one_zone site zone third each.two.point each.two.of_zone second) (omega (arith, since, across))
        ]);
    one = from_zero both_of each.one.point each.one.is.0 each.one.is.1;
    two = each.two.is.1;
  }

  -- the other way: what a pair is found by
  module _ (pair : HasPairAfter site kept done moments kind zone bar later now) where
    raised : (after : ℕ) → after < pair.first → HeldAfter site kept done moments kind after now pair.first_point pair.first
    raised after less = record { fits = pair.one.fits; since = less; held = pair.one.held; ended = pair.one.ended }

    bar_first : (z : ℕ) → is_of site z pair.first_point ≡ true → bar z < pair.first
    bar_first z of = pair.since z (either_left _ _ of)

    bar_second : (z : ℕ) → is_of site z pair.second_point ≡ true → bar z < pair.first
    bar_second z of = pair.since z (either_right _ _ of)

    pub found : HasTwoHeldAfter site kept done moments kind zone own later now ⊎ HasPairAcross site kept done moments kind zone partner both_of later now
    found =
        elim (either _ _ pair.pairs) [
          | inl first_of ↦ first_own (parts _ _ first_of).0 (either _ _ (parts _ _ first_of).1)
          | inr second_of ↦
              (let p = parts _ _ second_of in
              across_back (on_found (λ z. is_of site z pair.first_point) (partner_of (slice_get site.zones zone)) p.0) p.1)
        ]
      where
        across_back : ((other : ℕ) × (partner_of (slice_get site.zones zone) ≡ Some other) × (is_of site other pair.first_point ≡ true))
            → is_of site zone pair.second_point ≡ true
            → HasTwoHeldAfter site kept done moments kind zone own later now ⊎ HasPairAcross site kept done moments kind zone partner both_of later now
        across_back (other, is, of) second =
            let low = bar_first other of in
            let high = bar_second zone second in
            let across = bars.across other (sym bars.is_partner ∙ is) in
            inr (record {
              other = other;
              is = sym bars.is_partner ∙ is;
              found = inr (record {
                one = record { point = pair.first_point; of_zone = of; other = refl; is = (pair.first, raised both_of (omega (arith, low, high, across))) };
                two = record { point = pair.second_point; of_zone = second; other = refl; is = (pair.second, pair.two) };
              });
            })

        across_on : is_of site zone pair.first_point ≡ true
            → ((other : ℕ) × (partner_of (slice_get site.zones zone) ≡ Some other) × (is_of site other pair.second_point ≡ true))
            → HasTwoHeldAfter site kept done moments kind zone own later now ⊎ HasPairAcross site kept done moments kind zone partner both_of later now
        across_on first (other, is, of) =
            let low = bar_first zone first in
            let high = bar_second other of in
            let across = bars.across other (sym bars.is_partner ∙ is) in
            inr (record {
              other = other;
              is = sym bars.is_partner ∙ is;
              found = inl (record {
                one = record { point = pair.first_point; of_zone = first; other = refl; is = (pair.first, raised both_of (omega (arith, low, high, across))) };
                two = record { point = pair.second_point; of_zone = of; other = refl; is = (pair.second, pair.two) };
              });
            })

        first_own : is_of site zone pair.first_point ≡ true
            → (is_of site zone pair.second_point ≡ true) ⊎ (on_partner site zone (λ other. is_of site other pair.second_point) ≡ true)
            → HasTwoHeldAfter site kept done moments kind zone own later now ⊎ HasPairAcross site kept done moments kind zone partner both_of later now
        first_own first (inl second) = inl (record {
          first_point = pair.first_point;
          second_point = pair.second_point;
          first = pair.first;
          second = pair.second;
          differ = pair.differ;
          first_of_zone = first;
          second_of_zone = second;
          one = raised own (let low = bar_first zone first in let alone = bars.alone in omega (arith, low, alone));
          two = pair.two;
        })
        first_own first (inr on) =
            across_on first (on_found (λ z. is_of site z pair.second_point) (partner_of (slice_get site.zones zone)) on)
