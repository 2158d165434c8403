-- Points of a zone, gone over one after another.
use Rattle.std.proofs.Common.{◌≡◌, ℕ, ◌+◌, ◌≤◌, ◌<◌, true, List, Option, Some, None, slice_get, get_or, length, inl, inr, refl, sym, subst, arith}
use Rattle.std.proofs.lemmas.Bool.{cases_lt}
use Rattle.std.proofs.lemmas.Option.{get_or_from_slice_get, slice_get-get_or, slice_get_within}
use Rattle.site_types.specs.declared.point.Point.{Point}
use Rattle.site_types.specs.declared.site.Site.{Site}
use Rattle.coincidence_rules.specs.Places.{is_of, lies_in}
use Rattle.zone_signals.specs.Kinds.{AreMembers}

-- a point of a zone is one of the site
pub point_within : (site : Site) (zone point : ℕ) → is_of site zone point ≡ true → point < length site.points
point_within site zone point of_zone = go (slice_get site.points point) (λ p at. slice_get_within site.points point p at) of_zone
  where
    go : (o : Option Point) → ((p : Point) → o ≡ Some p → point < length site.points) → lies_in zone o ≡ true → point < length site.points
    go None within h = absurd cc
    go (Some p) within h = within p refl

module _ (Holds : ℕ → Type 0) (places : List ℕ) where
  -- of the first places none holds
  abbrev pub NoneBefore : ℕ → Type 0
  NoneBefore k = (j point : ℕ) → j < k → slice_get places j ≡ Some point → Holds point → ⊥

  pub none_more : (k other : ℕ) → NoneBefore k → (Holds (get_or places k other) → ⊥) → NoneBefore (k + 1)
  none_more k other none not j point less at holds =
      elim (cases_lt j k) [
        | inl before ↦ none j point before at holds
        | inr here ↦
            (let same : j ≡ k = omega (arith, less, here) in
            not (subst Holds (sym (get_or_from_slice_get places k point other (subst (λ n. slice_get places n ≡ Some point) same at))) holds))
      ]

module _ (site : Site) (zone : ℕ) (places : List ℕ) (members : AreMembers site zone places) where
  -- each place of the list is of a point of the zone
  pub member_at : (k other : ℕ) → k < length places → is_of site zone (get_or places k other) ≡ true
  member_at k other less = members.each k (get_or places k other) (slice_get-get_or places k other less)

  pub member_within : (k other : ℕ) → k < length places → get_or places k other < length site.points
  member_within k other less = point_within site zone (get_or places k other) (member_at k other less)

  -- where none of the list holds, none of the zone does
  pub none_of_zone : (Holds : ℕ → Type 0) (k : ℕ) → length places ≤ k → NoneBefore Holds places k → (point : ℕ) → is_of site zone point ≡ true → Holds point
      → ⊥
  none_of_zone Holds k all none point of_zone holds =
      let is = members.all point of_zone in
      let within = slice_get_within places is.0 point is.1 in
      none is.0 point (omega (arith, within, all)) is.1 holds
