use Rattle.std.proofs.Common.{arith, ◌≡◌, subst, sym, take}
use Rattle.blocked_points.specs.Operations.{done_newest_first}
use Rattle.blocked_points.proofs.Counted.{one_more_done}
use Rattle.zone_signals.specs.Floors.{RowsStand}
use Rattle.zone_signals.proofs.floors.take_each.Goals as goal

pub loop-place-preserved : goal.loop-place-preserved
loop-place-preserved c stand =
    subst (λ done. RowsStand c.args.site.now done c.take_operation.new.rows) (sym (one_more_done c.args.done.now c.loop-place.place _ (omega arith)))
    (c.take_operation.ensures _ (c.loop-place.invariant stand))

pub returns : goal.returns
returns c up stand =
    let ended : c.loop-place.place ≡ c.args.end = (let b = c.loop-place.auto.place-end up in omega arith) in
    subst (λ n. RowsStand c.args.site.now (done_newest_first (take n c.args.done.now)) c.loop-place.rows) ended (c.loop-place.invariant stand)
