use Rattle.std.proofs.Common.{arith}
use Rattle.std.proofs.lemmas.Option.{slice_get-get_or}
use Rattle.panel_audit.proofs.OutputCauses.{heard_all, heard_more}
use Rattle.panel_audit.proofs.baseless.hear_each.Goals as goal

pub loop-place-preserved : goal.loop-place-preserved
loop-place-preserved c solved =
    let site = c.args.site.now in
    let place = c.loop-place.place in
    let heard = c.loop-place.heard in
    let before = c.loop-place.invariant solved in
    let small = c.loop-place-test.true in
    let size = before.size in
    heard_more site c.args.causes.now c.args.joined.now c.args.faces.now place heard _ _
    (slice_get-get_or heard place _ (omega (arith, small, size))) (omega (arith, small)) c.hear.ensures before

pub returns : goal.returns
returns c solved =
    let past = c.loop-place-test.false in
    heard_all c.args.site.now c.args.causes.now c.args.joined.now c.args.faces.now c.loop-place.place c.loop-place.heard (omega (arith, past))
    (c.loop-place.invariant solved)
