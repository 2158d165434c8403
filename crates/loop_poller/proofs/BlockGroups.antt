-- Which groups of a panel's loops are kept as blocks.
use Rattle.std.proofs.Common.{◌≡◌, ℕ, zero, suc, ◌<◌, List, [], ◌∷◌, length, Option, Some, None, IfSome}
use Rattle.std.proofs.Common.{slice_get, slice_set, refl, sym, ◌∙◌, ap, subst, arith, inl, inr, get_or}
use Rattle.std.proofs.lemmas.Bool.{cases_eq}
use Rattle.std.proofs.lemmas.List.{get_or-replicate, get_or-set_other, get_or-set_same, length-replicate, length-set}
use Rattle.std.proofs.lemmas.Option.{slice_get-get_or, slice_get_within}
use Rattle.std.specs.Prelude.{replicate}
use Rattle.loop_poller.specs.declared.group.Group.{Group}
use Rattle.loop_poller.specs.declared.polled_line.PolledLine.{PolledLine}
use Rattle.loop_poller.specs.Blocks.{AreBlocks, HasWholeGroup, HaveGroups, IsWholeGroup}
use Rattle.loop_poller.proofs.FollowingPoints.{if_some}
use Rattle.loop_poller.proofs.Lines.{set_at, set_past}

each_of_four : (lines : List PolledLine) (number : ℕ) (a b c d : Group) → HasWholeGroup lines 0 number a → HasWholeGroup lines 1 number b
    → HasWholeGroup lines 2 number c → HasWholeGroup lines 3 number d → (place : ℕ) (group : Group) → slice_get (a ∷ b ∷ c ∷ d ∷ []) place ≡ Some group
    → HasWholeGroup lines place number group
each_of_four lines number a b c d p q r s zero group is = let e : a ≡ group = cc in subst (HasWholeGroup lines 0 number) e p
each_of_four lines number a b c d p q r s (suc zero) group is = let e : b ≡ group = cc in subst (HasWholeGroup lines 1 number) e q
each_of_four lines number a b c d p q r s (suc (suc zero)) group is = let e : c ≡ group = cc in subst (HasWholeGroup lines 2 number) e r
each_of_four lines number a b c d p q r s (suc (suc (suc zero))) group is = let e : d ≡ group = cc in subst (HasWholeGroup lines 3 number) e s
each_of_four lines number a b c d p q r s (suc (suc (suc (suc place)))) group is = absurd cc

-- the groups of four loops
pub four_groups : (lines : List PolledLine) (number : ℕ) (a b c d : Group) → HasWholeGroup lines 0 number a → HasWholeGroup lines 1 number b
    → HasWholeGroup lines 2 number c → HasWholeGroup lines 3 number d → HaveGroups lines number (a ∷ b ∷ c ∷ d ∷ [])
four_groups lines number a b c d p q r s = record { size = refl; each = each_of_four lines number a b c d p q r s }

-- a loop at a place, and its group
pub at_place : (lines : List PolledLine) (place number : ℕ) (polled : PolledLine) (group : Group) → place < length lines
    → IsWholeGroup (get_or lines place polled) number group → HasWholeGroup lines place number group
at_place lines place number polled group within has =
    record { polled = get_or lines place polled; there = slice_get-get_or lines place polled within; has = has }

-- the groups of one number more were looked for
pub blocks_more : (lines : List PolledLine) (blocks : List (Option (List Group))) (number : ℕ) (made : Option (List Group)) → number < length blocks
    → IfSome made (λ groups. HaveGroups lines number groups) → AreBlocks lines blocks → AreBlocks lines (slice_set blocks number made)
blocks_more lines blocks number made within is are k groups at =
    elim (cases_eq k number) [
      | inl same ↦ subst (λ n. HaveGroups lines n groups) (sym same)
          (if_some (λ g. HaveGroups lines number g) made groups is (set_at blocks number k made (Some groups) at within same))
      | inr other ↦ are k groups (set_past blocks number k made (Some groups) at other)
    ]

-- at the start there is none
pub no_blocks : (lines : List PolledLine) (count : ℕ) → AreBlocks lines (replicate count None)
no_blocks lines count number groups at =
    let within = slice_get_within (replicate count None) number (Some groups) at in
    let size = length-replicate {A = Option (List Group)} count None in
    let read = slice_get-get_or (replicate {A = Option (List Group)} count None) number None within in
    let none = get_or-replicate {A = Option (List Group)} count number None None (omega (arith, within, size)) in
    absurd (cc)

same_groups : (line new : PolledLine) (number : ℕ) (group : Group) → new.groups ≡ line.groups → IsWholeGroup line number group
    → IsWholeGroup new number group
same_groups line new number group same has =
    record { is = ap (λ groups. slice_get groups.items number) same ∙ has.is; whole = has.whole }

group_kept : (lines : List PolledLine) (at : ℕ) (line new : PolledLine) (place number : ℕ) (group : Group) → slice_get lines at ≡ Some line
    → new.groups ≡ line.groups → HasWholeGroup lines place number group → HasWholeGroup (slice_set lines at new) place number group
group_kept lines at line new place number group is same before =
    let size = length-set lines at new in
    let within = slice_get_within lines place before.polled before.there in
    elim (cases_eq place at) [
      | inl here ↦ (let line_is : before.polled ≡ line = (let e = before.there in cc) in
          at_place (slice_set lines at new) place number new group (omega (arith, size, within))
          (subst (λ l. IsWholeGroup l number group)
          (sym (ap (λ k. get_or (slice_set lines at new) k new) here ∙ get_or-set_same lines at new new (omega (arith, within, here))))
          (same_groups line new number group same (subst (λ l. IsWholeGroup l number group) line_is before.has))))
      | inr other ↦ record {
        polled = before.polled;
        there = slice_get-get_or (slice_set lines at new) place before.polled (omega (arith, size, within))
            ∙ ap Some (get_or-set_other lines at place new before.polled other)
            ∙ sym (slice_get-get_or lines place before.polled within) ∙ before.there;
        has = before.has;
      }
    ]

-- another loop at one place, which has the same groups
pub blocks_kept : (lines : List PolledLine) (blocks : List (Option (List Group))) (at : ℕ) (line new : PolledLine) → slice_get lines at ≡ Some line
    → new.groups ≡ line.groups → AreBlocks lines blocks → AreBlocks (slice_set lines at new) blocks
blocks_kept lines blocks at line new is same are number groups there = record {
  size = (are number groups there).size;
  each = λ place group group_is. group_kept lines at line new place number group is same ((are number groups there).each place group group_is);
}
