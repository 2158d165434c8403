-- A change in its form can be made.
use Rattle.std.proofs.Common.{◌≡◌, ◌+◌, ◌*◌, ◌<◌, ◌≤◌, ℕ, zero, suc, Bool, true, false, List, [], ◌∷◌, ◌++◌, slice_index, refl, sym, ◌∙◌, subst, arith, add-zero, zero-add}
use Rattle.std.specs.Prelude.{Some, None, ◌&&◌, nat_le, if◌then◌else◌}
use Rattle.std.proofs.lemmas.Bool.Decides.{nat_tests}
use Rattle.std.proofs.lemmas.List.FromFn.{map-range_with_len_more}
use Rattle.site_types.specs.declared.retained.Retained.{Retained}
use Rattle.site_types.specs.Changes.{CanApply, changed, changed_by}
use Rattle.site_types.proofs.Changes.{changed_by-append}
use Rattle.retained_journal.specs.Fields.{first_in, is_within}
use Rattle.retained_journal.specs.Places.{most_changes}
use Rattle.retained_journal.specs.Cells.{cell_count, change_at, change_by, changes_at, greatest_address, is_in_form, wrong_byte, wrong_in_cell, wrong_in_change}
use Rattle.retained_journal.proofs.Finding.{none_each}

pub within : (least most byte : ℕ) → is_within least most byte ≡ true → (least ≤ byte) × (byte ≤ most)
within least most byte h = go (nat_le least byte) (nat_le byte most) refl refl h
  where
    go : (a b : Bool) → nat_le least byte ≡ a → nat_le byte most ≡ b → a && b ≡ true → (least ≤ byte) × (byte ≤ most)
    go true true low high e = (grind (arith, nat_tests), grind (arith, nat_tests))
    go false b low high e = absurd (cc)
    go true false low high e = absurd (cc)

one_to_seven : (P : ℕ → Type 0) → P 1 → P 2 → P 3 → P 4 → P 5 → P 6 → P 7 → (n : ℕ) → 1 ≤ n → n ≤ 7 → P n
one_to_seven P a b c d e f g zero low high = absurd (omega (arith, low))
one_to_seven P a b c d e f g (suc zero) low high = a
one_to_seven P a b c d e f g (suc (suc zero)) low high = b
one_to_seven P a b c d e f g (suc (suc (suc zero))) low high = c
one_to_seven P a b c d e f g (suc (suc (suc (suc zero)))) low high = d
one_to_seven P a b c d e f g (suc (suc (suc (suc (suc zero))))) low high = e
one_to_seven P a b c d e f g (suc (suc (suc (suc (suc (suc zero)))))) low high = f
one_to_seven P a b c d e f g (suc (suc (suc (suc (suc (suc (suc zero))))))) low high = g
one_to_seven P a b c d e f g (suc (suc (suc (suc (suc (suc (suc (suc n)))))))) low high = absurd (omega (arith, high))

-- the bytes of a kind that are in their form make a change that can be made
abbrev CanMake : Bool → ℕ → Type 0
CanMake wide kind = (panel line number last entries : ℕ) → is_in_form wide kind 1 panel ≡ true → is_in_form wide kind 2 line ≡ true
    → is_in_form wide kind 3 number ≡ true → CanApply (change_by kind panel line number last entries)

address_fits : (wide : Bool) (n : ℕ) → is_within 1 (greatest_address wide) n ≡ true → (1 ≤ n) × (n ≤ 192)
address_fits true n h = within 1 192 n h
address_fits false n h = let w = within 1 96 n h in (w.0, omega (arith, w.1))

can_point : (wide : Bool) → CanMake wide 1
unfolding is_in_form
can_point wide panel line number last entries p l n = let a = within 1 4 line l in let b = address_fits wide number n in
    (within 1 8 panel p, (a.0, a.1, b.0, b.1))

can_zone : (wide : Bool) → CanMake wide 2
unfolding is_in_form
can_zone wide panel line number last entries p l n = (within 1 8 panel p, within 1 32 number n)

can_output : (wide : Bool) → CanMake wide 3
unfolding is_in_form
can_output wide panel line number last entries p l n = (within 1 8 panel p, within 1 32 number n)

can_delays : (wide : Bool) → CanMake wide 4
unfolding is_in_form
can_delays wide panel line number last entries p l n = within 1 8 panel p

can_count : (wide : Bool) → CanMake wide 5
unfolding is_in_form
can_count wide panel line number last entries p l n = within 1 8 panel p

can_clear : (wide : Bool) → CanMake wide 6
unfolding is_in_form
can_clear wide panel line number last entries p l n = within 1 8 panel p

can_test : (wide : Bool) → CanMake wide 7
unfolding is_in_form
can_test wide panel line number last entries p l n = (within 1 8 panel p, within 1 32 number n)

kind_within : (wide : Bool) (kind : ℕ) → is_in_form wide kind 0 kind ≡ true → (1 ≤ kind) × (kind ≤ 7)
unfolding is_in_form
kind_within wide kind h = within 1 7 kind h

-- where no byte is wrong, each is in its form
pub right_byte : (wide : Bool) (at : ℕ) (file : List ℕ) (place : ℕ) → wrong_byte wide at file place ≡ None
    → is_in_form wide (slice_index file at) place (slice_index file (at + place)) ≡ true
right_byte wide at file place none = go (is_in_form wide (slice_index file at) place (slice_index file (at + place))) refl none
  where
    go : (b : Bool) → is_in_form wide (slice_index file at) place (slice_index file (at + place)) ≡ b → (if b then None else Some (at + place)) ≡ None
        → is_in_form wide (slice_index file at) place (slice_index file (at + place)) ≡ true
    go true is e = is
    go false is e = absurd (cc)

-- the kind of a change in which no byte is wrong
pub kind_at : (wide : Bool) (at : ℕ) (file : List ℕ) → wrong_in_change wide at file ≡ None → (1 ≤ slice_index file at) × (slice_index file at ≤ 7)
kind_at wide at file none =
    kind_within wide (slice_index file at)
    (subst (λ (k : ℕ). is_in_form wide (slice_index file at) 0 (slice_index file k) ≡ true) (add-zero at)
    (right_byte wide at file 0 (none_each (wrong_byte wide at file) 8 none 0 (omega arith))))

pub can_apply_at : (wide : Bool) (at : ℕ) (file : List ℕ) → wrong_in_change wide at file ≡ None → CanApply (change_at at file)
unfolding change_at
can_apply_at wide at file none =
    let kind = slice_index file at in
    let each = none_each (wrong_byte wide at file) 8 none in
    let in_range = kind_at wide at file none in
    one_to_seven (CanMake wide) (can_point wide) (can_zone wide) (can_output wide) (can_delays wide) (can_count wide) (can_clear wide) (can_test wide)
    kind in_range.0 in_range.1
    (slice_index file (at + 1)) (slice_index file (at + 2)) (slice_index file (at + 3)) _ _
    (right_byte wide at file 1 (each 1 (omega arith))) (right_byte wide at file 2 (each 2 (omega arith)))
    (right_byte wide at file 3 (each 3 (omega arith)))

-- one change more
pub changes_at-more : (count at : ℕ) (file : List ℕ) → changes_at (count + 1) at file ≡ changes_at count at file ++ change_at (at + 8 * count) file
    ∷ []
unfolding changes_at
changes_at-more count at file = map-range_with_len_more (λ k. change_at (at + 8 * k) file) 0 count count (zero-add count)

pub made_more : (count at : ℕ) (file : List ℕ) (initial now' : Retained) → now' ≡ changed_by (changes_at count at file) initial
    → changed (change_at (at + 8 * count) file) now' ≡ changed_by (changes_at (count + 1) at file) initial
made_more count at file initial now' e =
    rw (e, changes_at-more count at file) (sym (changed_by-append (changes_at count at file) (change_at (at + 8 * count) file ∷ []) initial))

pub made_none : (at : ℕ) (file : List ℕ) (initial : Retained) → initial ≡ changed_by (changes_at 0 at file) initial
unfolding changes_at
made_none at file initial = refl

-- what is wrong in a cell
pub wrong_count : (wide : Bool) (at : ℕ) (file : List ℕ) → is_within 1 most_changes (cell_count at file) ≡ false
    → wrong_in_cell wide at file ≡ Some (at + 9)
unfolding wrong_in_cell
wrong_count wide at file out = rw out refl

pub wrong_change : (wide : Bool) (at : ℕ) (file : List ℕ) → is_within 1 most_changes (cell_count at file) ≡ true
    → wrong_in_cell wide at file ≡ first_in (λ k. wrong_in_change wide (at + 10 + 8 * k) file) (cell_count at file)
unfolding wrong_in_cell
wrong_change wide at file within' = rw within' refl

-- a cell in its form
pub record CellInForm (wide : Bool) (at : ℕ) (file : List ℕ) : Type 0 where
  pub some : 1 ≤ cell_count at file
  pub few : cell_count at file ≤ most_changes
  pub each : (k : ℕ) → k < cell_count at file → wrong_in_change wide (at + 10 + 8 * k) file ≡ None

pub cell_in_form : (wide : Bool) (at : ℕ) (file : List ℕ) → wrong_in_cell wide at file ≡ None → CellInForm wide at file
cell_in_form wide at file none = go (is_within 1 most_changes (cell_count at file)) refl
  where
    go : (b : Bool) → is_within 1 most_changes (cell_count at file) ≡ b → CellInForm wide at file
    go true is = record {
      some = (within 1 most_changes (cell_count at file) is).0;
      few = (within 1 most_changes (cell_count at file) is).1;
      each = none_each (λ k. wrong_in_change wide (at + 10 + 8 * k) file) (cell_count at file) (sym (wrong_change wide at file is) ∙ none);
    }
    go false is = let e = wrong_count wide at file is in absurd (cc)
