use Rattle.std.proofs.Common.{arith}
use Rattle.std.proofs.lemmas.Option.{slice_get-get_or}
use Rattle.due_outputs.proofs.Places.{gone_all, gone_more}
use Rattle.due_outputs.proofs.due_outputs.go_over_each.Goals as goal

pub loop-place-preserved : goal.loop-place-preserved
loop-place-preserved c site plan have =
    let place = c.loop-place.place in
    let gone = c.loop-place.invariant site plan have in
    let small = c.loop-place-test.true in
    let due_size = c.told-due in
    let size = gone.size in
    gone_more site c.args.due.now place c.loop-place.panels _ _ _
    (slice_get-get_or c.args.due.now place _ (omega (arith, small, due_size)))
    (slice_get-get_or c.loop-place.panels place _ (omega (arith, small, size))) (omega (arith, small)) (c.take.ensures site plan) gone

pub returns : goal.returns
returns c site plan have =
    let past = c.loop-place-test.false in
    let due_size = c.told-due in
    gone_all site c.args.due.now c.loop-place.place c.loop-place.panels (omega (arith, past, due_size)) (c.loop-place.invariant site plan have)
