use Rattle.std.proofs.Common.{◌≡◌, ◌⊎◌, ◌+◌, ◌*◌, ◌<◌, ◌≤◌, ℕ, inl, inr, refl, ◌∙◌, length, slice_index, subst, arith}
use Rattle.std.proofs.lemmas.List.{take_all}
use Rattle.retained_journal.specs.Cells.{changes_at}
use Rattle.retained_journal.proofs.WrittenCells.{form_more, keep_at, none_written, written_more}
use Rattle.retained_journal.proofs.WrittenSlots.{sized}
use Rattle.retained_journal.proofs.cell_bytes.put_changes.Goals as goal

pub loop-place-init : goal.loop-place-init
loop-place-init c = record {
  changes = none_written c.args.bytes.now;
  form = λ wide all k less. absurd (omega (arith, less));
  outside = λ i apart. refl;
}

pub loop-place-preserved : goal.loop-place-preserved
loop-place-preserved c =
    let k = c.loop-place.place in
    let before = c.loop-place.invariant in
    let size : length c.change_bytes.result ≡ 8 = omega arith in
    let there = sized 8 (length c.change_bytes.result) c.put.new.bytes (10 + 8 * k) c.change_bytes.result size c.put.ensures.inside in
    let outside =
    subst (λ (n : ℕ). (i : ℕ) → (i < 10 + 8 * k) ⊎ (10 + 8 * k + n ≤ i) → slice_index c.put.new.bytes i ≡ slice_index c.loop-place.bytes i) size
    c.put.ensures.outside in
    record {
      changes =
          written_more c.put.new.bytes c.loop-place.bytes c.change_bytes.result c.args.batch.now k _ c.loop-place-test.true there
          c.change_bytes.ensures.reads outside before.changes;
      form =
          λ wide all. form_more wide c.put.new.bytes c.loop-place.bytes c.change_bytes.result k there
          (c.change_bytes.ensures.form wide (keep_at wide c.args.batch.now k _ all c.loop-place-test.true)) outside (before.form wide all);
      outside = λ i apart. outside i (elim apart [ inl low ↦ inl (omega (arith, low)) | inr high ↦ inr (omega (arith, high)) ]) ∙ before.outside i
          (elim apart [ inl low ↦ inl low | inr high ↦ inr (omega (arith, high)) ]);
    }

pub returns-clause-changes : goal.returns-clause-changes
returns-clause-changes c =
    let k = c.loop-place.place in
    let all : k ≡ length c.args.batch.now = omega arith in
    subst (λ (n : ℕ). changes_at n 10 c.loop-place.bytes ≡ c.args.batch.now) all
    (c.loop-place.invariant.changes ∙ take_all k c.args.batch.now (omega arith))
