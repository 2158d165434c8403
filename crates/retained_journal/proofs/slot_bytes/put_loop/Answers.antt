use Rattle.std.proofs.Common.{◌+◌, ◌*◌, inl, ◌∙◌, arith}
use Rattle.retained_journal.proofs.Agreement.{mask-agrees}
use Rattle.retained_journal.proofs.WrittenSlots.{loop_is}
use Rattle.retained_journal.specs.Places.{points_place}
use Rattle.retained_journal.proofs.slot_bytes.put_loop.Goals as goal

pub returns-clause-points : goal.returns-clause-points
returns-clause-points c wide narrow =
    let which = c.args.which in
    loop_is wide which c.put_mask-2.new.slot c.args.halves.now c.told-halves
    (mask-agrees 12 c.put_mask-2.new.slot (points_place + 12 * which) c.put_mask.new.slot (points_place + 12 * which)
    (record { same = λ i few. c.put_mask-2.ensures.outside (points_place + 12 * which + i) (inl (let h = c.requires.which in omega (arith, few, h))) })
    ∙ c.put_mask.ensures.inside)
    c.put_mask-2.ensures.inside narrow
