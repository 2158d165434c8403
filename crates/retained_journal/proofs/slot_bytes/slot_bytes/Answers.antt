use Rattle.std.proofs.Common.{[], ◌∷◌, length, inl, inr, ap, ◌∙◌, arith}
use Rattle.retained_journal.specs.Fields.{number_at}
use Rattle.retained_journal.proofs.Agreement.{number-agrees, numbers-agree}
use Rattle.retained_journal.proofs.Writing.{number_back}
use Rattle.retained_journal.proofs.WrittenSlots.{points-kept, sized, slot_reads, still, still_points}
use Rattle.retained_journal.specs.Places.{zones_place, outputs_place, delays_place, counters_place, tests_place}
use Rattle.retained_journal.proofs.slot_bytes.slot_bytes.Goals as goal

pub returns-clause-gate : goal.returns-clause-gate
returns-clause-gate c =
    c.put-6.ensures.outside 0 (inl (omega arith))
    ∙ c.put-5.ensures.outside 0 (inl (omega arith))
    ∙ c.put-4.ensures.outside 0 (inl (omega arith))
    ∙ c.put-3.ensures.outside 0 (inl (omega arith))
    ∙ c.put-2.ensures.outside 0 (inl (omega arith))
    ∙ c.put_points.ensures.others 0 (inl (omega arith)) (inl (omega arith))
    ∙ c.put.ensures.outside 0 (inl (omega arith))

pub returns-clause-number : goal.returns-clause-number
returns-clause-number c =
    number-agrees 8 c.put-6.new.bytes 1 c.write_u64.new.buf 0
    (still 8 1 tests_place (length c.numbers_bytes-4.result) c.write_u64.new.buf c.put-5.new.bytes c.put-6.new.bytes
    (still 8 1 counters_place (length c.numbers_bytes-3.result) c.write_u64.new.buf c.put-4.new.bytes c.put-5.new.bytes
    (still 8 1 delays_place (length (c.args.state.now.delays_off ∷ [])) c.write_u64.new.buf c.put-3.new.bytes c.put-4.new.bytes
    (still 8 1 outputs_place (length c.numbers_bytes-2.result) c.write_u64.new.buf c.put-2.new.bytes c.put-3.new.bytes
    (still 8 1 zones_place (length c.numbers_bytes.result) c.write_u64.new.buf c.put_points.new.slot c.put-2.new.bytes
    (still_points 8 1 c.write_u64.new.buf c.put.new.bytes c.put_points.new.slot
    (sized 8 (length c.write_u64.new.buf) c.put.new.bytes 1 c.write_u64.new.buf (omega arith) c.put.ensures.inside) c.put_points.ensures.others
    (omega arith)) c.put-2.ensures.outside (inl (omega arith))) c.put-3.ensures.outside (inl (omega arith))) c.put-4.ensures.outside
    (inl (omega arith))) c.put-5.ensures.outside (inl (omega arith))) c.put-6.ensures.outside (inl (omega arith)))
    ∙ ap (number_at 8 0) c.write_u64.ensures ∙ number_back c.args.number _ (let h = c.ranges.number in omega (arith, h.fits))

pub returns-clause-state : goal.returns-clause-state
returns-clause-state c wide narrow =
    let byte =
    (still 1 delays_place tests_place (length c.numbers_bytes-4.result) (c.args.state.now.delays_off ∷ []) c.put-5.new.bytes c.put-6.new.bytes
    (still 1 delays_place counters_place (length c.numbers_bytes-3.result) (c.args.state.now.delays_off ∷ []) c.put-4.new.bytes c.put-5.new.bytes
    (sized 1 (length (c.args.state.now.delays_off ∷ [])) c.put-4.new.bytes delays_place (c.args.state.now.delays_off ∷ []) (omega arith)
    c.put-4.ensures.inside) c.put-5.ensures.outside (inl (omega arith))) c.put-6.ensures.outside (inl (omega arith))) in
    slot_reads wide c.put-6.new.bytes c.args.state.now
    (points-kept wide c.put_points.new.slot c.put-6.new.bytes
    (λ i apart.
    elim apart [
      | inl h ↦ c.put-6.ensures.outside i (inl (omega (arith, h))) ∙ c.put-5.ensures.outside i (inl (omega (arith, h))) ∙
          c.put-4.ensures.outside i (inl (omega (arith, h))) ∙ c.put-3.ensures.outside i (inl (omega (arith, h))) ∙ c.put-2.ensures.outside i
          (inl (omega (arith, h)))
      | inr h ↦ c.put-6.ensures.outside i (inl (omega (arith, h.1))) ∙ c.put-5.ensures.outside i (inr (omega (arith, h.0)))
          ∙ c.put-4.ensures.outside i (inr (omega (arith, h.0))) ∙ c.put-3.ensures.outside i (inr (omega (arith, h.0))) ∙ c.put-2.ensures.outside i
          (inr (omega (arith, h.0)))
    ]) ∙ c.put_points.ensures.points wide narrow)
    (numbers-agree c.put-6.new.bytes zones_place c.numbers_bytes.result 0
    (still 32 zones_place tests_place (length c.numbers_bytes-4.result) c.numbers_bytes.result c.put-5.new.bytes c.put-6.new.bytes
    (still 32 zones_place counters_place (length c.numbers_bytes-3.result) c.numbers_bytes.result c.put-4.new.bytes c.put-5.new.bytes
    (still 32 zones_place delays_place (length (c.args.state.now.delays_off ∷ [])) c.numbers_bytes.result c.put-3.new.bytes c.put-4.new.bytes
    (still 32 zones_place outputs_place (length c.numbers_bytes-2.result) c.numbers_bytes.result c.put-2.new.bytes c.put-3.new.bytes
    (sized 32 (length c.numbers_bytes.result) c.put-2.new.bytes zones_place c.numbers_bytes.result (omega arith) c.put-2.ensures.inside)
    c.put-3.ensures.outside (inl (omega arith))) c.put-4.ensures.outside (inl (omega arith))) c.put-5.ensures.outside (inl (omega arith)))
    c.put-6.ensures.outside (inl (omega arith))) ∙ c.numbers_bytes.ensures)
    (numbers-agree c.put-6.new.bytes outputs_place c.numbers_bytes-2.result 0
    (still 32 outputs_place tests_place (length c.numbers_bytes-4.result) c.numbers_bytes-2.result c.put-5.new.bytes c.put-6.new.bytes
    (still 32 outputs_place counters_place (length c.numbers_bytes-3.result) c.numbers_bytes-2.result c.put-4.new.bytes c.put-5.new.bytes
    (still 32 outputs_place delays_place (length (c.args.state.now.delays_off ∷ [])) c.numbers_bytes-2.result c.put-3.new.bytes c.put-4.new.bytes
    (sized 32 (length c.numbers_bytes-2.result) c.put-3.new.bytes outputs_place c.numbers_bytes-2.result (omega arith) c.put-3.ensures.inside)
    c.put-4.ensures.outside (inl (omega arith))) c.put-5.ensures.outside (inl (omega arith))) c.put-6.ensures.outside (inl (omega arith))) ∙
    c.numbers_bytes-2.ensures)
    (byte.same 0 (omega arith))
    (numbers-agree c.put-6.new.bytes counters_place c.numbers_bytes-3.result 0
    (still 32 counters_place tests_place (length c.numbers_bytes-4.result) c.numbers_bytes-3.result c.put-5.new.bytes c.put-6.new.bytes
    (sized 32 (length c.numbers_bytes-3.result) c.put-5.new.bytes counters_place c.numbers_bytes-3.result (omega arith) c.put-5.ensures.inside)
    c.put-6.ensures.outside (inl (omega arith))) ∙ c.numbers_bytes-3.ensures)
    (numbers-agree c.put-6.new.bytes tests_place c.numbers_bytes-4.result 0
    (sized 32 (length c.numbers_bytes-4.result) c.put-6.new.bytes tests_place c.numbers_bytes-4.result (omega arith) c.put-6.ensures.inside) ∙
    c.numbers_bytes-4.ensures)
