-- The markers that couldn't be placed are those from which one comes to a cycle.
use Rattle.std.proofs.Common.{◌≡◌, ◌<◌, ◌==◌, ◌+◌, ◌&&◌, ◌⊎◌, inl, inr, ℕ, zero, suc, Bool, true, false, List, [], ◌∷◌, Some, length, refl, sym, ap, subst, ◌∙◌, arith}
use Rattle.std.specs.Prelude.{slice_get}
use Rattle.std.specs.List.{list_all, list_any}
use Rattle.site_types.specs.Valid.{IsValid}
use Rattle.site_types.specs.declared.site.Site.{Site}
use Rattle.site_types.specs.declared.term.Term.{Term}
use Rattle.site_types.specs.declared.term.Term.TheVariants.{Zone as ZoneTerm, Manual as ManualTerm, Fault as FaultTerm, Marker as MarkerTerm}
use Rattle.site_types.proofs.ValidSites.{term_of_marker}
use Rattle.marker_table.proofs.Rows.{item_at}
use Rattle.cause_effect.specs.declared.arranged.Arranged.{Arranged}
use Rattle.cause_effect.specs.Cycles.{is_among, is_marker, terms_of, has_term, Depends, directly, MeetsCycle}
use Rattle.cause_effect.specs.Placed.{Arranges, IsLeft, IsStuck, LeavesCycles, is_placed, is_term_placed}
use Rattle.cause_effect.proofs.Depths.{Chain, chain_fits, chain_on, no_chain, and_on}
use Rattle.cause_effect.proofs.Orders.{closed_among, depends_within, free_among}
use Rattle.cause_effect.proofs.Truths.{any_at, equal_number, number_is, one_passes}

-- a marker among some terms that hasn't been placed
record LeftTerm (placed : List Bool) (terms : List Term) : Type 0 where
  place : ℕ
  other : ℕ
  at : slice_get terms place ≡ Some (MarkerTerm other)
  fresh : is_placed placed other ≡ false

later : (placed : List Bool) (term : Term) (terms : List Term) → LeftTerm placed terms → LeftTerm placed (term ∷ terms)
later placed term terms w = record { place = suc w.place; other = w.other; at = w.at; fresh = w.fresh }

left_here : (placed : List Bool) (m : ℕ) (terms : List Term) (b : Bool) → is_placed placed m ≡ b
    → (list_all (is_term_placed placed) terms ≡ false → LeftTerm placed terms) →
    (b && list_all (is_term_placed placed) terms) ≡ false → LeftTerm placed (MarkerTerm m ∷ terms)
left_here placed m terms true e more h = later placed (MarkerTerm m) terms (more h)
left_here placed m terms false e more h = record { place = 0; other = m; at = refl; fresh = e }

not_ready : (placed : List Bool) (terms : List Term) → list_all (is_term_placed placed) terms ≡ false → LeftTerm placed terms
not_ready placed [] h = cc
not_ready placed (ZoneTerm place ∷ terms) h = later placed (ZoneTerm place) terms (not_ready placed terms h)
not_ready placed (ManualTerm place ∷ terms) h = later placed (ManualTerm place) terms (not_ready placed terms h)
not_ready placed (FaultTerm panel ∷ terms) h = later placed (FaultTerm panel) terms (not_ready placed terms h)
not_ready placed (MarkerTerm m ∷ terms) h = left_here placed m terms (is_placed placed m) refl (not_ready placed terms) h

is_that_marker : (m : ℕ) (term : Term) → is_marker m term ≡ true → term ≡ MarkerTerm m
is_that_marker m (ZoneTerm place) h = cc
is_that_marker m (ManualTerm place) h = cc
is_that_marker m (FaultTerm panel) h = cc
is_that_marker m (MarkerTerm place) h = ap MarkerTerm (sym (number_is m place h))

-- a marker that is a term is there
pub term_there : (site : Site) → IsValid site → (m other : ℕ) → m < length site.markers → has_term site m other ≡ true → other < length site.markers
term_there site valid m other within h =
    let at = item_at site.markers m within in
    let w = one_passes (is_marker other) at.0.terms (sym (ap (λ o. list_any (is_marker other) (terms_of o)) at.1) ∙ h) in
    term_of_marker site valid m at.0 w.place (MarkerTerm other) at.1 (w.at ∙ ap Some (is_that_marker other w.item w.passes))

-- a marker that is left has a term that is left
record GoesOnLeft (site : Site) (placed : List Bool) (m : ℕ) : Type 0 where
  next : ℕ
  term : has_term site m next ≡ true
  left : IsLeft site placed next

left_next : (site : Site) → IsValid site → (placed : List Bool) → IsStuck site placed → (m : ℕ) → IsLeft site placed m → GoesOnLeft site placed m
left_next site valid placed stuck m left =
    let at = item_at site.markers m left.within in
    let w = not_ready placed at.0.terms (sym (ap (λ o. list_all (is_term_placed placed) (terms_of o)) at.1) ∙ stuck m left.within left.fresh) in
    record {
      next = w.other;
      term = ap (λ o. list_any (is_marker w.other) (terms_of o)) at.1 ∙ any_at (is_marker w.other) at.0.terms w.place (MarkerTerm w.other) w.at
          (equal_number w.other);
      left = record { within = term_of_marker site valid m at.0 w.place (MarkerTerm w.other) at.1 w.at; fresh = w.fresh };
    }

comes_on : (site : Site) (start m next : ℕ) → (start ≡ m) ⊎ Depends site start m → has_term site m next ≡ true
    → (start ≡ next) ⊎ Depends site start next
comes_on site start m next comes term = elim comes [
  | inl same ↦ inr (subst (λ n. Depends site n next) (sym same) (directly m next term))
  | inr far ↦ inr (and_on site start m next far term)
]

meets_or : (site : Site) (start m : ℕ) (seen : List ℕ) → Chain site m seen → (start ≡ m) ⊎ Depends site start m →
    (b : Bool) → list_any (λ x. m == x) seen ≡ b → (list_any (λ x. m == x) seen ≡ false → MeetsCycle site start) → MeetsCycle site start
meets_or site start m seen chain comes true e more = record { met = m; comes = comes; round = chain.leads m e }
meets_or site start m seen chain comes false e more = more e

meets_along : (site : Site) → IsValid site → (placed : List Bool) → IsStuck site placed → (start fuel m : ℕ) (seen : List ℕ) → Chain site m seen
    → (start ≡ m) ⊎ Depends site start m →
    IsLeft site placed m → length site.markers < fuel + length seen → MeetsCycle site start
meets_along site valid placed stuck start zero m seen chain comes left far = absurd (chain_fits site m seen chain (omega (arith, far)))
meets_along site valid placed stuck start (suc fuel) m seen chain comes left far =
    let on = left_next site valid placed stuck m left in
    meets_or site start m seen chain comes (list_any (λ x. m == x) seen) refl
    (λ fresh. meets_along site valid placed stuck start fuel on.next (m ∷ seen) (chain_on site m on.next seen chain fresh on.term)
    (comes_on site start m on.next comes on.term) on.left (omega (arith, far)))

left_meets : (site : Site) → IsValid site → (placed : List Bool) → IsStuck site placed → (m : ℕ) → IsLeft site placed m → MeetsCycle site m
left_meets site valid placed stuck m left =
    meets_along site valid placed stuck m (suc (length site.markers)) m [] (no_chain site m) (inl refl) left (omega arith)

meets_within : (site : Site) (m : ℕ) → MeetsCycle site m → m < length site.markers
meets_within site m w = elim w.comes [
  | inl same ↦ subst (λ n. n < length site.markers) (sym same) (depends_within site w.met w.met w.round)
  | inr far ↦ depends_within site m w.met far
]

placed_meets_none : (site : Site) (arranged : Arranged) → Arranges site arranged → (m : ℕ) → is_placed arranged.placed m ≡ true → MeetsCycle site m
    → ⊥
placed_meets_none site arranged is m placed w =
    let among : is_among m arranged.order ≡ true = sym (is.same m) ∙ placed in
    free_among site arranged.order is.rising w.met (elim w.comes [
      | inl same ↦ subst (λ n. is_among n arranged.order ≡ true) same among
      | inr far ↦ closed_among site arranged.order is.rising m w.met among far
    ]) w.round

not_true : (b : Bool) → (b ≡ true → ⊥) → b ≡ false
not_true true h = absurd (h refl)
not_true false h = refl

pub leaves_cycles : (site : Site) (arranged : Arranged) → IsValid site → Arranges site arranged → LeavesCycles site arranged.placed
leaves_cycles site arranged valid is = record {
  meets = λ m left. left_meets site valid arranged.placed is.stuck m left;
  left =
      λ m meets. record {
        within = meets_within site m meets;
        fresh =
            not_true (is_placed arranged.placed m) (λ placed. placed_meets_none site arranged is m placed meets);
      };
}
