-- The points of a zone, found one after another.
use Rattle.std.proofs.Common.{◌≡◌, inl, inr, ℕ, zero, suc, ◌+◌, ◌≤◌, ◌<◌, true, false, List}
use Rattle.std.proofs.Common.{[], ◌∷◌, ◌++◌, Option, Some, None, length, slice_get, get_or, refl, sym, ◌∙◌, ap, subst, arith, length-append}
use Rattle.std.proofs.lemmas.Bool.{cases_lt}
use Rattle.std.proofs.lemmas.Option.{same_Some, slice_get-get_or, slice_get_within}
use Rattle.site_types.specs.declared.site.Site.{Site}
use Rattle.site_types.specs.declared.point.Point.{Point}
use Rattle.site_types.specs.Valid.{IsValid}
use Rattle.site_types.proofs.ValidSites.{zone_of_point}
use Rattle.coincidence_rules.specs.Places.{is_of, lies_in}
use Rattle.panel_rules.proofs.Places.{get_front, get_either}
use Rattle.zone_signals.specs.declared.members.Members.{Members}
use Rattle.zone_signals.specs.Kinds.{AreAllMembers, AreMembers}
use Rattle.zone_signals.proofs.HeldRounds.{differ}
use Rattle.zone_signals.proofs.PairsHeld.{same_number}
use Rattle.zone_signals.proofs.ZonePlaces.{point_within}

single : {X : Type 0} (P : X → Type 0) (x : X) (k : ℕ) (y : X) → P x → slice_get (x ∷ []) k ≡ Some y → P y
single P x zero y h at = subst P (same_Some x y at) h
single P x (suc k) y h at = absurd (cc)

at_end : {X : Type 0} (xs : List X) (x : X) → slice_get (xs ++ x ∷ []) (length xs) ≡ Some x
at_end [] x = refl
at_end (y ∷ xs) x = at_end xs x

-- those among the first points of the site
pub record AreFirstMembers (site : Site) (zone first : ℕ) (places : List ℕ) : Type 0 where
  pub each : (k point : ℕ) → slice_get places k ≡ Some point → is_of site zone point ≡ true
  pub all : (point : ℕ) → point < first → is_of site zone point ≡ true → (k : ℕ) × (slice_get places k ≡ Some point)

pub none_first : (site : Site) (zone : ℕ) → AreFirstMembers site zone 0 []
none_first site zone = record { each = λ k point at. absurd (cc); all = λ point less of. absurd (omega (arith, less)) }

pub first_skipped : (site : Site) (zone first : ℕ) (places : List ℕ) → is_of site zone first ≡ false → AreFirstMembers site zone first places
    → AreFirstMembers site zone (first + 1) places
first_skipped site zone first places off are = record {
  each = are.each;
  all = λ point less of.
      elim (cases_lt point first) [
        | inl before ↦ are.all point before of
        | inr here ↦
            absurd (differ (is_of site zone point) of
            (subst (λ p. is_of site zone p ≡ false) (let e : first ≡ point = omega (arith, less, here) in e) off))
      ];
}

pub first_taken : (site : Site) (zone first : ℕ) (places : List ℕ) → is_of site zone first ≡ true → AreFirstMembers site zone first places
    → AreFirstMembers site zone (first + 1) (places ++ first ∷ [])
first_taken site zone first places on are = record {
  each = λ k point at.
      elim (get_either places (first ∷ []) k point at) [
        | inl before ↦ are.each k point before
        | inr after ↦ single (λ p. is_of site zone p ≡ true) first after.place point on after.is
      ];
  all = λ point less of.
      elim (cases_lt point first) [
        | inl before ↦ (let is = are.all point before of in (is.0, get_front places (first ∷ []) is.0 point is.1))
        | inr here ↦ (length places, subst (λ p. slice_get (places ++ first ∷ []) (length places) ≡ Some p) (omega (arith, less, here)) (at_end places first))
      ];
}

pub all_found : (site : Site) (zone first : ℕ) (places : List ℕ) → length site.points ≤ first → AreFirstMembers site zone first places
    → AreMembers site zone places
all_found site zone first places past are = record {
  each = are.each;
  all = λ point of. are.all point (let within = point_within site zone point of in omega (arith, within, past)) of;
}

-- those of the first zones
pub record AreZonesMembers (site : Site) (zones : ℕ) (members : List Members) : Type 0 where
  pub many : length members ≡ zones
  pub each : (zone : ℕ) (of_zone : Members) → slice_get members zone ≡ Some of_zone → AreMembers site zone of_zone.places.items

pub no_zones : (site : Site) → AreZonesMembers site 0 []
no_zones site = record { many = refl; each = λ zone of_zone at. absurd (cc) }

pub more_zones : (site : Site) (zone : ℕ) (members : List Members) (own : Members) → AreMembers site zone own.places.items
    → AreZonesMembers site zone members → AreZonesMembers site (zone + 1) (members ++ own ∷ [])
more_zones site zone members own is are = record {
  many = (let many = are.many in omega (arith, many, length-append members (own ∷ [])));
  each = λ other of_zone at.
      elim (get_either members (own ∷ []) other of_zone at) [
        | inl before ↦ are.each other of_zone before
        | inr after ↦ (let many = are.many in let far = after.far in last own after.place zone other of_zone is (λ one. omega (arith, many, far, one)) after.is)
      ];
}
  where
    last : (x : Members) (k at other : ℕ) (y : Members) → AreMembers site at x.places.items → (k ≡ 0 → other ≡ at) → slice_get (x ∷ []) k ≡ Some y
        → AreMembers site other y.places.items
    last x zero at other y of here is =
        subst (λ (m : Members). AreMembers site other m.places.items) (same_Some x y is) (subst (λ z. AreMembers site z x.places.items) (sym (here refl)) of)
    last x (suc k) at other y of here is = absurd (cc)

-- a zone that the site hasn't has no points
pub no_members : (site : Site) (zone : ℕ) → IsValid site → length site.zones ≤ zone → AreMembers site zone []
no_members site zone valid past = record {
  each = λ k point at. absurd (cc);
  all = λ point of. go (slice_get site.points point) refl of;
}
  where
    go : {point : ℕ} (o : Option Point) → slice_get site.points point ≡ o → lies_in zone o ≡ true → (k : ℕ) × (slice_get [] k ≡ Some point)
    go None at of = absurd (cc)
    go {point} (Some p) at of =
        let has = zone_of_point site valid point p at in
        let within = slice_get_within site.zones p.zone has.zone has.is in
        absurd (omega (arith, within, past, same_number p.zone zone of))

-- the points of the zone at a place
pub members_at : (site : Site) (members : List Members) (zone : ℕ) (own : Members) → AreAllMembers site members → zone < length members
    → own ≡ get_or members zone own → AreMembers site zone own.places.items
members_at site members zone own are less is = are.each zone own (slice_get-get_or members zone own less ∙ ap Some (sym is))
