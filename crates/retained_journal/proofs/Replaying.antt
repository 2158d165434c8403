-- How the cells that count are read one after the other.
use Rattle.std.proofs.Common.{inl, inr, ◌≡◌, ◌⊎◌, ◌+◌, ◌<◌, ◌≤◌, ◌==◌, ℕ, zero, suc, Bool, true, false, List, [], ◌++◌, slice_index, refl, sym, ap, ◌∙◌, subst, arith, add-zero, zero-add, add-one}
use Rattle.std.specs.Prelude.{Option, Some, None, if◌then◌else◌, ◌&&◌, nat_le, nat_lt}
use Rattle.std.proofs.lemmas.Bool.Decides.{leb_tells, nat_tests}
use Rattle.site_types.specs.Changes.{changed_by}
use Rattle.site_types.proofs.Changes.{changed_by-append}
use Rattle.retained_journal.specs.declared.open_refusal.OpenRefusal.TheVariants.{Damaged}
use Rattle.retained_journal.specs.declared.replay.Replay.{Replay}
use Rattle.retained_journal.specs.Fields.{Agrees, run_length}
use Rattle.retained_journal.specs.Places.{cell_place, most_cells}
use Rattle.retained_journal.specs.Places.{bytes_of_cell}
use Rattle.retained_journal.specs.Cells.{cell_changes, changes_of_cells, is_next, wrong_in_cell}
use Rattle.retained_journal.specs.Opening.{is_open}
use Rattle.retained_journal.specs.Replays.{EndsReplay, HasReplayed, RefusesReplay, counted_behind}
use Rattle.retained_journal.proofs.Agreement.{first_byte, turned}
use Rattle.retained_journal.proofs.CellAgreement.{cell_changes-agree, is_next-agrees, moved, wrong_in_cell-moved}
use Rattle.retained_journal.proofs.Finding.{found-first, found-none, nothing_more}
use Rattle.retained_journal.proofs.Forms.{cell_in_form}

-- how many tests hold before the first that doesn't
run_is_from : (test : ℕ → Bool) (from n k : ℕ) → ((i : ℕ) → i < k → test (from + i) ≡ true) → (k ≡ n) ⊎ ((k < n) × (test (from + k) ≡ false))
    → run_length test from n ≡ k
unfolding run_length
run_is_from test from zero zero all end = refl
run_is_from test from zero (suc k) all (inl same) = absurd (omega (arith, same))
run_is_from test from zero (suc k) all (inr past) = absurd (let h = past.0 in omega (arith, h))
run_is_from test from (suc n) zero all (inl same) = absurd (omega (arith, same))
run_is_from test from (suc n) zero all (inr past) = let e = subst (λ (j : ℕ). test j ≡ false) (add-zero from) past.1 in rw e refl
run_is_from test from (suc n) (suc k) all end =
    let here = subst (λ (j : ℕ). test j ≡ true) (add-zero from) (all 0 (omega arith)) in
    let rest = run_is_from test (suc from) n k (λ i less. subst (λ (j : ℕ). test j ≡ true) (omega arith) (all (suc i) (omega arith))) (later end) in
    rw (here, rest) refl
  where
    later : (suc k ≡ suc n) ⊎ ((suc k < suc n) × (test (from + suc k) ≡ false)) → (k ≡ n) ⊎ ((k < n) × (test (suc from + k) ≡ false))
    later (inl same) = inl (omega (arith, same))
    later (inr past) = inr (let h = past.0 in omega (arith, h), subst (λ (j : ℕ). test j ≡ false) (omega arith) past.1)

pub run_is : (test : ℕ → Bool) (n k : ℕ) → ((i : ℕ) → i < k → test i ≡ true) → (k ≡ n) ⊎ ((k < n) × (test k ≡ false)) → run_length test 0 n ≡ k
run_is test n k all end = run_is_from test 0 n k (λ i less. subst (λ (j : ℕ). test j ≡ true) (omega arith) (all i less)) (ends end)
  where
    ends : (k ≡ n) ⊎ ((k < n) × (test k ≡ false)) → (k ≡ n) ⊎ ((k < n) × (test (0 + k) ≡ false))
    ends (inl same) = inl same
    ends (inr past) = inr (past.0, subst (λ (j : ℕ). test j ≡ false) (omega arith) past.1)

-- and the other way round
run_holds_from : (test : ℕ → Bool) (from n i : ℕ) → i < run_length test from n → test (from + i) ≡ true
unfolding run_length
run_holds_from test from zero i less = absurd (omega (arith, less))
run_holds_from test from (suc n) i less = go (test from) refl i less (λ j few. run_holds_from test (suc from) n j few)
  where
    go : (b : Bool) → test from ≡ b → (j : ℕ) → j < (if b then suc (run_length test (suc from) n) else 0)
        → ((k : ℕ) → k < run_length test (suc from) n → test (suc from + k) ≡ true) → test (from + j) ≡ true
    go true is zero few more = subst (λ (k : ℕ). test k ≡ true) (sym (add-zero from)) is
    go true is (suc j) few more = subst (λ (k : ℕ). test k ≡ true) (omega arith) (more j (omega (arith, few)))
    go false is j few more = absurd (omega (arith, few))

pub run_holds : (test : ℕ → Bool) (n i : ℕ) → i < run_length test 0 n → test i ≡ true
run_holds test n i less = subst (λ (j : ℕ). test j ≡ true) (omega arith) (run_holds_from test 0 n i less)

pub run_bound : (test : ℕ → Bool) (from n : ℕ) → run_length test from n ≤ n
unfolding run_length
run_bound test from zero = omega arith
run_bound test from (suc n) = go (test from) (run_bound test (suc from) n)
  where
    go : (b : Bool) → run_length test (suc from) n ≤ n → (if b then suc (run_length test (suc from) n) else 0) ≤ suc n
    go true le = omega (arith, le)
    go false le = omega arith

run_past_from : (test : ℕ → Bool) (from n : ℕ) → run_length test from n < n → test (from + run_length test from n) ≡ false
unfolding run_length
run_past_from test from zero less = absurd (omega (arith, less))
run_past_from test from (suc n) less = go (test from) refl less (λ few. run_past_from test (suc from) n few)
  where
    go : (b : Bool) → test from ≡ b → (if b then suc (run_length test (suc from) n) else 0) < suc n
        → (run_length test (suc from) n < n → test (suc from + run_length test (suc from) n) ≡ false)
        → test (from + (if b then suc (run_length test (suc from) n) else 0)) ≡ false
    go true is few more = subst (λ (k : ℕ). test k ≡ false) (omega arith) (more (omega (arith, few)))
    go false is few more = subst (λ (k : ℕ). test k ≡ false) (sym (add-zero from)) is

pub run_past : (test : ℕ → Bool) (n : ℕ) → run_length test 0 n < n → test (run_length test 0 n) ≡ false
run_past test n less = subst (λ (j : ℕ). test j ≡ false) (omega arith) (run_past_from test 0 n less)

pub cells-none : (file : List ℕ) → changes_of_cells file 0 ≡ []
unfolding changes_of_cells
cells-none file = refl

pub cells-more : (file : List ℕ) (n : ℕ) → changes_of_cells file (n + 1) ≡ changes_of_cells file n ++ cell_changes (cell_place n) file
unfolding changes_of_cells
cells-more file n = rw add-one refl

-- nothing was replayed yet
pub replayed_none : (file : List ℕ) (begun : Replay) → begun.cells ≡ 0 → HasReplayed file begun begun 0
replayed_none file begun cells = record {
  wide = refl;
  cells = cells;
  number = omega arith;
  kept = rw (cells-none file) refl;
  count = λ i less. absurd (omega (arith, less));
  form = found-none (λ i. wrong_in_cell begun.wide (cell_place i) file);
}

-- One cell more.
module _ (file cell : List ℕ) (begun replay : Replay) (n : ℕ) (replayed : HasReplayed file begun replay n) (agrees :
    Agrees bytes_of_cell cell 0 file (cell_place n)) where
  number_next : replay.number + 1 ≡ begun.number + 1 + n
  number_next = omega (arith, replayed.number)

  next_there : (b : Bool) → is_next (replay.number + 1) 0 cell ≡ b → is_next (begun.number + 1 + n) (cell_place n) file ≡ b
  next_there b is = sym (is_next-agrees (begun.number + 1 + n) cell 0 file (cell_place n) agrees) ∙ ap (λ (k : ℕ). is_next k 0 cell) (sym number_next)
      ∙ is

  there : Agrees bytes_of_cell file (cell_place n) cell 0
  there = turned bytes_of_cell cell 0 file (cell_place n) agrees

  wrong_there : (found : Option ℕ) → wrong_in_cell replay.wide 0 cell ≡ found
      → wrong_in_cell begun.wide (cell_place n) file ≡ moved (cell_place n) found
  wrong_there found is =
      wrong_in_cell-moved begun.wide (cell_place n) file (cell_place n) cell 0 (omega arith) there ∙ ap
      (λ w. moved (cell_place n) (wrong_in_cell w 0 cell)) (sym replayed.wide) ∙ ap (moved (cell_place n)) is

  pub replayed_more : is_next (replay.number + 1) 0 cell ≡ true → wrong_in_cell replay.wide 0 cell ≡ None
      → HasReplayed file begun (record replay {
        kept = changed_by (cell_changes 0 cell) replay.kept;
        number = replay.number + 1;
        cells =
            replay.cells + 1;
      }) (n + 1)
  replayed_more next right = record {
    wide = replayed.wide;
    cells = omega (arith, replayed.cells);
    number = omega (arith, replayed.number);
    kept =
        rw (cells-more file n) (
        ap (changed_by (cell_changes 0 cell)) replayed.kept
        ∙ ap (λ changes. changed_by changes (changed_by (changes_of_cells file n) begun.kept))
        (sym (cell_changes-agree file (cell_place n) cell 0 there (cell_in_form replay.wide 0 cell right).few))
        ∙ sym (changed_by-append (changes_of_cells file n) (cell_changes (cell_place n) file) begun.kept));
    count = λ i less. at_or_below i less (leb_tells n i);
    form = nothing_more (λ i. wrong_in_cell begun.wide (cell_place i) file) n replayed.form (wrong_there None right);
  }
    where
      at_or_below : (i : ℕ) → i < n + 1 → ((nat_le n i ≡ true) × (n ≤ i)) ⊎ ((nat_le n i ≡ false) × (i < n))
          → is_next (begun.number + 1 + i) (cell_place i) file ≡ true
      at_or_below i less (inl at) =
          subst (λ (k : ℕ). is_next (begun.number + 1 + k) (cell_place k) file ≡ true) (let h = at.1 in omega (arith, h, less)) (next_there true next)
      at_or_below i less (inr below) = replayed.count i below.1

  pub replay_stops : n < most_cells → is_next (replay.number + 1) 0 cell ≡ false
      → EndsReplay file begun (record replay { is_next_open = slice_index cell 0 == 1 })
  replay_stops less next =
      let run = run_is (λ i. is_next (begun.number + 1 + i) (cell_place i) file) most_cells n replayed.count (inr (less, next_there false next)) in
      let gate = first_byte bytes_of_cell cell 0 file (cell_place n) agrees (omega arith) in
      record {
        replayed = subst (λ (k : ℕ). HasReplayed file begun (record replay { is_next_open = slice_index cell 0 == 1 }) k) (sym run)
            (record {
              wide = replayed.wide;
              cells = replayed.cells;
              number = replayed.number;
              kept = replayed.kept;
              count = replayed.count;
              form =
                  replayed.form;
            });
        next = rw (gate, replayed.cells) (before n less (is_open (cell_place n) file));
      }
    where
      before : (k : ℕ) → k < most_cells → (b : Bool) → b ≡ (nat_lt k most_cells && b)
      before k few b = let test : nat_lt k most_cells ≡ true = grind (arith, nat_tests) in rw test refl

  pub replay_refuses : n < most_cells → is_next (replay.number + 1) 0 cell ≡ true → (place : ℕ) → place < bytes_of_cell → wrong_in_cell replay.wide 0 cell ≡ Some place
      → RefusesReplay file begun (Damaged (cell_place replay.cells + place) (slice_index cell place))
  replay_refuses less next place within' wrong =
      let here = wrong_there (Some place) wrong in
      let counts : n < counted_behind file begun.number = counts_more in
      let byte = subst (λ (k : ℕ). slice_index cell k ≡ slice_index file (cell_place n + place)) (zero-add place) (agrees.same place within') in
      rw (
        replayed.cells,
        found-first (λ i. wrong_in_cell begun.wide (cell_place i) file) n (cell_place n + place) (counted_behind file begun.number)
            replayed.form here counts,
        byte,
      ) refl
    where
      counts_more : n < counted_behind file begun.number
      counts_more = longer (counted_behind file begun.number) refl (leb_tells (counted_behind file begun.number) n)
        where
          test : ℕ → Bool
          test i = is_next (begun.number + 1 + i) (cell_place i) file

          longer : (k : ℕ) → counted_behind file begun.number ≡ k
              → ((nat_le (counted_behind file begun.number) n ≡ true) × (counted_behind file begun.number ≤ n))
              ⊎ ((nat_le (counted_behind file begun.number) n ≡ false) × (n < counted_behind file begun.number))
              → n < counted_behind file begun.number
          longer k is (inr more) = more.1
          longer k is (inl le) = absurd (no_end (leb_tells n (counted_behind file begun.number)))
            where
              past : test (counted_behind file begun.number) ≡ false
              past = run_past (λ i. is_next (begun.number + 1 + i) (cell_place i) file) most_cells (let h = le.1 in omega (arith, h, less))

              no_end : ((nat_le n (counted_behind file begun.number) ≡ true) × (n ≤ counted_behind file begun.number))
                  ⊎ ((nat_le n (counted_behind file begun.number) ≡ false) × (counted_behind file begun.number < n)) → ⊥
              no_end (inl same) =
                  let e : counted_behind file begun.number ≡ n = (let h = le.1 in let m = same.1 in omega (arith, h, m)) in
                  let f = subst (λ (i : ℕ). test i ≡ false) e past in
                  let t = next_there true next in
                  cc
              no_end (inr fewer) = let f = past in let t = replayed.count (counted_behind file begun.number) fewer.1 in cc

pub replay_ends : (file : List ℕ) (begun replay : Replay) → HasReplayed file begun replay most_cells → replay.is_next_open ≡ false
    → EndsReplay file begun replay
replay_ends file begun replay replayed shut =
    let run = run_is (λ i. is_next (begun.number + 1 + i) (cell_place i) file) most_cells most_cells replayed.count (inl refl) in
    record {
      replayed = subst (λ (k : ℕ). HasReplayed file begun replay k) (sym run) replayed;
      next = shut ∙ rw replayed.cells refl;
    }
