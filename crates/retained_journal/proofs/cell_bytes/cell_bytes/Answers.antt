use Rattle.std.proofs.Common.{◌≡◌, ◌*◌, ℕ, [], ◌∷◌, inl, ap, ◌∙◌, length, arith}
use Rattle.retained_journal.specs.Fields.{number_at}
use Rattle.retained_journal.specs.Cells.{cell_count, changes_at}
use Rattle.retained_journal.proofs.Agreement.{first_byte, number-agrees}
use Rattle.retained_journal.proofs.Writing.{number_back}
use Rattle.retained_journal.proofs.WrittenCells.{whole_cell}
use Rattle.retained_journal.proofs.WrittenSlots.{sized, still}
use Rattle.retained_journal.proofs.cell_bytes.cell_bytes.Goals as goal

pub returns-clause-number : goal.returns-clause-number
returns-clause-number c =
    let batch = c.args.batch.now in
    number-agrees 8 c.put_changes.new.bytes 1 c.write_u64.new.buf 0
    (still 8 1 10 (8 * length batch) c.write_u64.new.buf c.put-2.new.bytes c.put_changes.new.bytes
    (still 8 1 9 1 c.write_u64.new.buf c.put.new.bytes c.put-2.new.bytes
    (sized 8 (length c.write_u64.new.buf) c.put.new.bytes 1 c.write_u64.new.buf (omega arith) c.put.ensures.inside) c.put-2.ensures.outside
    (inl (omega arith)))
    c.put_changes.ensures.outside (inl (omega arith)))
    ∙ ap (number_at 8 0) c.write_u64.ensures ∙ number_back c.args.number _ (let h = c.ranges.number in omega (arith, h.fits))

pub returns-clause-changes : goal.returns-clause-changes
returns-clause-changes c =
    let batch = c.args.batch.now in
    let count : cell_count 0 c.put_changes.new.bytes ≡ length batch =
    c.put_changes.ensures.outside 9 (inl (omega arith)) ∙ first_byte 1 c.put-2.new.bytes 9 (length batch ∷ []) 0 c.put-2.ensures.inside
    (omega arith) in
    ap (λ (n : ℕ). changes_at n 10 c.put_changes.new.bytes) count ∙ c.put_changes.ensures.changes

pub returns-clause-form : goal.returns-clause-form
returns-clause-form c wide is =
    let batch = c.args.batch.now in
    let count : cell_count 0 c.put_changes.new.bytes ≡ length batch =
    c.put_changes.ensures.outside 9 (inl (omega arith)) ∙ first_byte 1 c.put-2.new.bytes 9 (length batch ∷ []) 0 c.put-2.ensures.inside
    (omega arith) in
    whole_cell wide c.put_changes.new.bytes batch count is (c.put_changes.ensures.form wide is.keeps)
