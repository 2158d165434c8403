-- Groups of points that follow one another in the site.
use Rattle.std.proofs.Common.{IfSome, slice_set, append-nil, ◌≡◌, ℕ, ◌+◌, ◌*◌, ◌<◌, List, [], ◌∷◌, ◌++◌, length, Option, Some}
use Rattle.std.proofs.Common.{None, sym, ◌∙◌, ap, subst, arith, inl, inr}
use Rattle.std.proofs.lemmas.Bool.{cases_eq}
use Rattle.std.proofs.lemmas.List.Elements.{filter_map-append}
use Rattle.std.specs.Prelude.{replicate}
use Rattle.std.proofs.lemmas.List.{get_or-replicate, length-replicate}
use Rattle.std.proofs.lemmas.Option.{slice_get-get_or, slice_get_within}
use Rattle.std.specs.List.{cons_option, filter_map, range_with_len}
use Rattle.loop_poller.specs.declared.group.Group.{Group}
use Rattle.loop_poller.specs.Groups.{AreGroups, FollowFrom}
use Rattle.loop_poller.proofs.Lines.{set_at, set_past}
use Rattle.loop_poller.proofs.Windows.{range-more}

-- one address more was looked at, and the point there follows the others
pub found_next : (f : ℕ → Option ℕ) (first n begin count point : ℕ) → filter_map f (range_with_len first n) ≡ range_with_len begin count
    → f (first + n) ≡ Some point → point ≡ begin + count → filter_map f (range_with_len first (n + 1)) ≡ range_with_len begin (count + 1)
found_next f first n begin count point found at next =
    let here : filter_map f ((first + n) ∷ []) ≡ (begin + count) ∷ [] = ap (λ o. cons_option o []) at ∙ ap (λ k. k ∷ []) next in
    ap (filter_map f) (range-more first n) ∙ filter_map-append f (range_with_len first n) ((first + n) ∷ [])
    ∙ ap (λ xs. xs ++ filter_map f ((first + n) ∷ [])) found ∙ ap (λ xs. range_with_len begin count ++ xs) here ∙ sym (range-more begin count)

-- or is the first one
pub found_first : (f : ℕ → Option ℕ) (first n begin count point : ℕ) → filter_map f (range_with_len first n) ≡ range_with_len begin count
    → f (first + n) ≡ Some point → count ≡ 0 → filter_map f (range_with_len first (n + 1)) ≡ range_with_len point (count + 1)
found_first f first n begin count point found at none =
    let empty : range_with_len begin count ≡ range_with_len point count = ap (range_with_len begin) none ∙ ap (range_with_len point) (sym none) in
    found_next f first n point count point (found ∙ empty) at (omega (arith, none))

-- or there is none
pub found_gone : (f : ℕ → Option ℕ) (first n begin count : ℕ) → filter_map f (range_with_len first n) ≡ range_with_len begin count
    → f (first + n) ≡ None → filter_map f (range_with_len first (n + 1)) ≡ range_with_len begin count
found_gone f first n begin count found gone =
    let here : filter_map f ((first + n) ∷ []) ≡ [] = ap (λ o. cons_option o []) gone in
    ap (filter_map f) (range-more first n) ∙ filter_map-append f (range_with_len first n) ((first + n) ∷ [])
    ∙ ap (λ xs. xs ++ filter_map f ((first + n) ∷ [])) found ∙ ap (λ xs. range_with_len begin count ++ xs) here ∙ append-nil (range_with_len begin count)

pub if_some : {X : Type 0} (P : X → Type 0) (o : Option X) (x : X) → IfSome o P → o ≡ Some x → P x
if_some P None x p e = absurd (cc)
if_some P (Some y) x p e = let same : y ≡ x = cc in subst P same p

-- one group more was found
pub groups_more : (points : List (Option ℕ)) (groups : List (Option Group)) (number : ℕ) (made : Option Group) → number < length groups
    → IfSome made (λ group. FollowFrom points (8 * number + 1) group) → AreGroups points groups → AreGroups points (slice_set groups number made)
groups_more points groups number made within is groups_are k group at =
    elim (cases_eq k number) [
      | inl same ↦ subst (λ n. FollowFrom points (8 * n + 1) group) (sym same)
          (if_some (λ g. FollowFrom points (8 * number + 1) g) made group is (set_at groups number k made (Some group) at within same))
      | inr other ↦ groups_are k group (set_past groups number k made (Some group) at other)
    ]

-- at the start there is none
pub no_groups : (points : List (Option ℕ)) (count : ℕ) → AreGroups points (replicate count None)
no_groups points count number group at =
    let within = slice_get_within (replicate count None) number (Some group) at in
    let size = length-replicate {A = Option Group} count None in
    let read = slice_get-get_or (replicate {A = Option Group} count None) number None within in
    let none = get_or-replicate {A = Option Group} count number None None (omega (arith, within, size)) in
    absurd (cc)
