-- A change that a journal can keep leaves a state that a slot can keep.
use Rattle.std.proofs.Common.{inl, inr, ◌≡◌, ◌≢◌, ◌⊎◌, ◌+◌, ◌-◌, ◌*◌, ◌%◌, ◌^◌, ◌<◌, ◌≤◌, ◌==◌, ℕ, zero, suc, Bool}
use Rattle.std.proofs.Common.{true, false, List, [], ◌∷◌, set, get_or, get_or-set_other, slice_index, length, refl}
use Rattle.std.proofs.Common.{sym, ◌∙◌, subst, arith}
use Rattle.std.specs.Prelude.{Some, None, map, nat_lt, nat_le, if◌then◌else◌}
use Rattle.std.specs.List.{range_with_len}
use Rattle.std.proofs.Common.{zero-add}
use Rattle.std.proofs.lemmas.List.{get_or_past}
use Rattle.std.proofs.lemmas.List.FromFn.{get_or-map-range_with_len, length-map-range_with_len}
use Rattle.byteorder.specs.Numbers.{little_from-lt}
use Rattle.site_types.specs.Limits.{greatest_count}
use Rattle.std.specs.Int.{w128, bit_not}
use Rattle.std.proofs.lemmas.Bool.Decides.{eqb_tells, leb_tells, nat_tests}
use Rattle.std.proofs.lemmas.Nat.{or_lt, and_le_l}
use Rattle.std.proofs.Math.Nat.{mod-eq_of_lt}
use Rattle.std.proofs.Math.Pow.{pow-lt}
use Rattle.site_types.specs.Bits.{IsPlace, bit_of, half_of, with_bit, with_point}
use Rattle.site_types.specs.Done.{no_points}
use Rattle.site_types.specs.Changes.{AreCounters, changed, changed_by}
use Rattle.site_types.proofs.Changes.{counters-changed}
use Rattle.site_types.specs.declared.point_set.PointSet.{PointSet}
use Rattle.site_types.specs.declared.retained.Retained.{Retained}
use Rattle.site_types.specs.declared.change.Change.{Change}
use Rattle.site_types.specs.declared.change.Change.TheVariants.{Point, Zone, Output, Delays, Count, Clear, Test}
use Rattle.retained_journal.specs.Batches.{CanKeep, CanKeepAll, HasAddress}
use Rattle.retained_journal.specs.Slots.{AreNarrow, FitHalves, FitLoops, FitPoints, HasNarrowLoops, HasNarrowPoints, IsKeepable, counters_at, loop_at, panel_points, points_at, retained_at}
use Rattle.retained_journal.specs.Fields.{first_in, mask_at, number_at, numbers_at}
use Rattle.retained_journal.specs.Cells.{cell_changes, cell_count, change_at, change_by, changes_at, greatest_address, is_in_form, wrong_byte, wrong_in_cell, wrong_in_change}
use Rattle.retained_journal.specs.Opening.{great_counter}
use Rattle.retained_journal.proofs.Finding.{none_each}
use Rattle.retained_journal.proofs.Forms.{can_apply_at, cell_in_form, right_byte, within}
use Rattle.retained_journal.proofs.NewFiles.{counter_of}
use Rattle.retained_journal.specs.Places.{counters_place, wide_points_place, points_place}

-- an item of a list in which one was set is that one or the old one
set_either : {X : Type 0} (P : X → Type 0) (xs : List X) (i k : ℕ) (y d : X) → P y → P (get_or xs k d) → P (get_or (set xs i y) k d)
set_either P [] i k y d new old = old
set_either P (x ∷ xs) zero zero y d new old = new
set_either P (x ∷ xs) zero (suc k) y d new old = old
set_either P (x ∷ xs) (suc i) zero y d new old = old
set_either P (x ∷ xs) (suc i) (suc k) y d new old = set_either P xs i k y d new old

bit_fits : (mask k : ℕ) (on : Bool) → mask < 2 ^ 96 → k < 96 → with_bit w128 mask k on < 2 ^ 96
bit_fits mask k true fits less =
    or_lt 96 mask (1 * 2 ^ k % 2 ^ 128) fits (subst (λ (n : ℕ). n < 2 ^ 96) (sym same) (let h = pow-lt less in omega (arith, h)))
  where
    same : 1 * 2 ^ k % 2 ^ 128 ≡ 2 ^ k
    same = mod-eq_of_lt (let h = pow-lt {i = k} {j = 128} (omega (arith, less)) in omega (arith, h)) ∙ omega arith
bit_fits mask k false fits less = let h = and_le_l mask (bit_not w128 (1 * 2 ^ k % 2 ^ 128)) in omega (arith, h, fits)

pub fits_point : (points : List PointSet) (panel line address : ℕ) (off : Bool) → (1 ≤ panel) × (panel ≤ 8) → IsPlace line address → FitPoints points
    → FitPoints (set points (panel - 1) (with_point (get_or points (panel - 1) no_points) line address off))
fits_point points panel line address off here place fits k less =
    set_either (λ (s : PointSet). FitLoops s.loops) points (panel - 1) k (with_point (get_or points (panel - 1) no_points) line address off) no_points
    loops (fits k less)
  where
    old_halves : FitHalves (get_or (get_or points (panel - 1) no_points).loops (line - 1) [])
    old_halves = fits (panel - 1) (omega (arith, here.0, here.1)) (line - 1) (omega (arith, place.0, place.1))

    new_halves :
        FitHalves (set (get_or (get_or points (panel - 1) no_points).loops (line - 1) []) (half_of address)
        (with_bit w128 (slice_index (get_or (get_or points (panel - 1) no_points).loops (line - 1) []) (half_of address)) (bit_of address) off))
    new_halves half few =
        set_either (λ (n : ℕ). n < 2 ^ 96) (get_or (get_or points (panel - 1) no_points).loops (line - 1) []) (half_of address) half _ 0
        (bit_fits _ (bit_of address) off (old_halves (half_of address) (omega (arith, place.2, place.3))) (omega arith)) (old_halves half few)

    loops : FitLoops (with_point (get_or points (panel - 1) no_points) line address off).loops
    loops l few =
        set_either FitHalves (get_or points (panel - 1) no_points).loops (line - 1) l _ [] new_halves
        (fits (panel - 1) (omega (arith, here.0, here.1)) l few)

narrow_point : (wide : Bool) (points : List PointSet) (panel line address : ℕ) (off : Bool) → (1 ≤ panel) × (panel ≤ 8) → IsPlace line address
    → HasAddress wide (Point panel line address off) → HasNarrowPoints wide points
    → HasNarrowPoints wide (set points (panel - 1) (with_point (get_or points (panel - 1) no_points) line address off))
narrow_point true points panel line address off here place low narrow = λ k less l few. tt
narrow_point false points panel line address off here place low narrow = λ k less.
    set_either (λ (s : PointSet). HasNarrowLoops false s.loops) points (panel - 1) k
    (with_point (get_or points (panel - 1) no_points) line address off) no_points loops (narrow k less)
  where
    old_halves : AreNarrow false (get_or (get_or points (panel - 1) no_points).loops (line - 1) [])
    old_halves = narrow (panel - 1) (omega (arith, here.0, here.1)) (line - 1) (omega (arith, place.0, place.1))

    first : half_of address ≡ 0
    first = omega (arith, low, place.2)

    new_halves :
        AreNarrow false (set (get_or (get_or points (panel - 1) no_points).loops (line - 1) []) (half_of address)
        (with_bit w128 (slice_index (get_or (get_or points (panel - 1) no_points).loops (line - 1) []) (half_of address)) (bit_of address) off))
    new_halves = get_or-set_other _ (half_of address) 1 _ 0 (λ same. omega (arith, same, first)) ∙ old_halves

    loops : HasNarrowLoops false (with_point (get_or points (panel - 1) no_points) line address off).loops
    loops l few =
        set_either (AreNarrow false) (get_or points (panel - 1) no_points).loops (line - 1) l _ [] new_halves
        (narrow (panel - 1) (omega (arith, here.0, here.1)) l few)

pub keeps-changed : (wide : Bool) (change : Change) (state : Retained) → CanKeep wide change → IsKeepable wide state
    → IsKeepable wide (changed change state)
keeps-changed wide (Point panel line address off) state can keeps = record {
  fits = fits_point state.points panel line address off can.0.0 can.0.1 keeps.fits;
  narrow = narrow_point wide state.points panel line address off can.0.0 can.0.1 can.1 keeps.narrow;
  small = keeps.small;
}
keeps-changed wide (Zone panel number off) state can keeps = record { fits = keeps.fits; narrow = keeps.narrow; small = keeps.small }
keeps-changed wide (Output panel number off) state can keeps = record { fits = keeps.fits; narrow = keeps.narrow; small = keeps.small }
keeps-changed wide (Delays panel off) state can keeps = record { fits = keeps.fits; narrow = keeps.narrow; small = keeps.small }
keeps-changed wide (Count panel entries) state can keeps =
    record { fits = keeps.fits; narrow = keeps.narrow; small = counters-changed (Count panel entries) state keeps.small }
keeps-changed wide (Clear panel) state can keeps =
    record { fits = keeps.fits; narrow = keeps.narrow; small = counters-changed (Clear panel) state keeps.small }
keeps-changed wide (Test panel number on) state can keeps = record { fits = keeps.fits; narrow = keeps.narrow; small = keeps.small }

pub keeps-batch : (wide : Bool) (batch : List Change) (state : Retained) → CanKeepAll wide batch → IsKeepable wide state
    → IsKeepable wide (changed_by batch state)
keeps-batch wide [] state all keeps = keeps
keeps-batch wide (x ∷ rest) state all keeps = keeps-batch wide rest (changed x state) all.1 (keeps-changed wide x state all.0 keeps)

-- the changes of a cell that is in its form can be kept
keep_point : (wide : Bool) (panel line number last entries : ℕ) → is_in_form wide 1 3 number ≡ true → number ≤ greatest_address wide
unfolding is_in_form
keep_point wide panel line number last entries h = (within 1 (greatest_address wide) number h).1

address_at : (wide : Bool) (kind panel line number last entries : ℕ) → is_in_form wide kind 3 number ≡ true
    → HasAddress wide (change_by kind panel line number last entries)
address_at wide kind panel line number last entries h = go (eqb_tells kind 1)
  where
    rest : (b2 b3 b4 b5 b6 : Bool)
        → HasAddress wide (if b2 then Zone panel number (last == 1) else if b3 then Output panel number (last == 1) else if b4 then Delays panel
        (last == 1) else if b5 then Count panel entries else if b6 then Clear panel else Test panel number (last == 1))
    rest true b3 b4 b5 b6 = tt
    rest false true b4 b5 b6 = tt
    rest false false true b5 b6 = tt
    rest false false false true b6 = tt
    rest false false false false true = tt
    rest false false false false false = tt

    go : (((kind == 1) ≡ true) × (kind ≡ 1)) ⊎ (((kind == 1) ≡ false) × (kind ≢ 1)) → HasAddress wide (change_by kind panel line number last entries)
    go (inl one) = rw one.0 (keep_point wide panel line number last entries (subst (λ (k : ℕ). is_in_form wide k 3 number ≡ true) one.1 h))
    go (inr other) = rw other.0 (rest (kind == 2) (kind == 3) (kind == 4) (kind == 5) (kind == 6))

can_keep_at : (wide : Bool) (at : ℕ) (file : List ℕ) → wrong_in_change wide at file ≡ None → CanKeep wide (change_at at file)
unfolding change_at
can_keep_at wide at file none = (
  can_apply_at wide at file none,
  address_at wide (slice_index file at) (slice_index file (at + 1)) (slice_index file (at + 2)) (slice_index file (at + 3)) _ _
      (right_byte wide at file 3 (none_each (wrong_byte wide at file) 8 none 3 (omega arith))),
)

can_keep_changes : (wide : Bool) (first count at : ℕ) (file : List ℕ)
    → ((k : ℕ) → first ≤ k → k < first + count → wrong_in_change wide (at + 8 * k) file ≡ None)
    → CanKeepAll wide (map (λ k. change_at (at + 8 * k) file) (range_with_len first count))
can_keep_changes wide first zero at file each = tt
can_keep_changes wide first (suc count) at file each = (
  can_keep_at wide (at + 8 * first) file (each first (omega arith) (omega arith)),
  can_keep_changes wide (first + 1) count at file (λ k low high. each k (omega (arith, low)) (omega (arith, high))),
)

pub can_keep_cell : (wide : Bool) (at : ℕ) (cell : List ℕ) → wrong_in_cell wide at cell ≡ None → CanKeepAll wide (cell_changes at cell)
unfolding changes_at
can_keep_cell wide at cell none =
    let form = cell_in_form wide at cell none in
    can_keep_changes wide 0 (cell_count at cell) (at + 10) cell (λ k low high. form.each k (omega (arith, high)))

-- ---- what a slot holds can be kept

module _ (wide : Bool) (at : ℕ) (file : List ℕ) (bytes : (i : ℕ) → slice_index file i < 256) where
  mask_small : (k : ℕ) → mask_at 12 k file < 2 ^ 96
  unfolding mask_at
  mask_small k = little_from-lt k 12 file bytes

  halves_fit : (b : Bool) (loop : ℕ) → FitHalves (loop_at b at loop file)
  halves_fit b loop zero less = mask_small (at + points_place + 12 * loop)
  halves_fit true loop (suc zero) less = mask_small (at + wide_points_place + 12 * loop)
  halves_fit false loop (suc zero) less = omega arith
  halves_fit b loop (suc (suc n)) less = absurd (omega (arith, less))

  halves_narrow : (b : Bool) (loop : ℕ) → AreNarrow b (loop_at b at loop file)
  halves_narrow true loop = tt
  halves_narrow false loop = refl

  loops_of : (P : List ℕ → Type 0) → ((loop : ℕ) → P (loop_at wide at loop file)) → (panel line : ℕ) → line < 4
      → P (get_or (panel_points wide at panel file).loops line [])
  unfolding panel_points
  loops_of P each panel line less =
      subst P (sym (get_or-map-range_with_len (λ l. loop_at wide at (4 * panel + l) file) 0 4 line line [] less (zero-add line)))
      (each (4 * panel + line))

  panels_of : (P : PointSet → Type 0) → ((panel : ℕ) → P (panel_points wide at panel file)) → (panel : ℕ) → panel < 8
      → P (get_or (points_at wide at file) panel no_points)
  unfolding points_at
  panels_of P each panel less =
      subst P (sym (get_or-map-range_with_len (λ p. panel_points wide at p file) 0 8 panel panel no_points less (zero-add panel))) (each panel)

  pub keeps_slot : AreCounters (counters_at at file) → IsKeepable wide (retained_at wide at file)
  keeps_slot small = record {
    fits = panels_of (λ s. FitLoops s.loops) (λ panel line less. loops_of FitHalves (halves_fit wide) panel line less);
    narrow = panels_of (λ s. HasNarrowLoops wide s.loops) (λ panel line less. loops_of (AreNarrow wide) (halves_narrow wide) panel line less);
    small = small;
  }

numbers-length : (at : ℕ) (file : List ℕ) → length (numbers_at at file) ≡ 8
unfolding numbers_at
numbers-length at file = length-map-range_with_len (λ k. number_at 4 (at + 4 * k) file) 0 8

-- counters that aren't too great
pub small_counters : (at : ℕ) (file : List ℕ) → first_in (great_counter at file) 8 ≡ None → AreCounters (counters_at at file)
small_counters at file none k = go (leb_tells 8 k)
  where
    test : (less : k < 8) → (b : Bool) → nat_lt greatest_count (number_at 4 (at + counters_place + 4 * k) file) ≡ b
        → (if b then Some (at + counters_place + 4 * k) else None) ≡ None → number_at 4 (at + counters_place + 4 * k) file ≤ greatest_count
    test less true is h = absurd (cc)
    test less false is h = grind (arith, nat_tests)

    go : ((nat_le 8 k ≡ true) × (8 ≤ k)) ⊎ ((nat_le 8 k ≡ false) × (k < 8)) → slice_index (counters_at at file) k ≤ greatest_count
    go (inl past) =
        subst (λ (n : ℕ). n ≤ greatest_count)
        (sym (get_or_past (counters_at at file) k 0 (let l = numbers-length (at + counters_place) file in let p = past.1 in omega (arith, l, p)))) (omega arith)
    go (inr within') =
        subst (λ (n : ℕ). n ≤ greatest_count) (sym (counter_of (at + counters_place) file k within'.1))
        (test within'.1 _ refl (none_each (great_counter at file) 8 none k within'.1))
