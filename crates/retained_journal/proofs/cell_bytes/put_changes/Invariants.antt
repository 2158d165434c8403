use Rattle.std.proofs.Common.{◌≡◌, ◌⊎◌, ◌+◌, ◌*◌, ◌<◌, ◌≤◌, ℕ, Bool, slice_index, take}
use Rattle.std.specs.Prelude.{None}
use Rattle.retained_journal.specs.Batches.{CanKeepAll}
use Rattle.retained_journal.specs.Cells.{changes_at, wrong_in_change}
use Rattle.retained_journal.proofs.cell_bytes.put_changes.Given as goal

abbrev pub invariant-loop-place : goal.invariant-loop-place
invariant-loop-place l = record {
  changes : changes_at l.place 10 l.bytes ≡ take l.place l.batch;
  form : (wide : Bool) → CanKeepAll wide l.batch → (k : ℕ) → k < l.place → wrong_in_change wide (10 + 8 * k) l.bytes ≡ None;
  outside : (i : ℕ) → (i < 10) ⊎ (10 + 8 * l.place ≤ i) → slice_index l.bytes i ≡ slice_index l.initial.bytes i;
}
