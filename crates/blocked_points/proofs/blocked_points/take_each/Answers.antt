use Rattle.std.proofs.Common.{arith, ◌≡◌, subst, sym, take}
use Rattle.blocked_points.specs.BlocksStand.{BlocksStand}
use Rattle.blocked_points.specs.Operations.{done_newest_first}
use Rattle.blocked_points.proofs.Counted.{one_more_done}
use Rattle.blocked_points.proofs.blocked_points.take_each.Goals as goal

pub loop-place-preserved : goal.loop-place-preserved
loop-place-preserved c site kept stands =
    subst (λ done. BlocksStand site kept done c.take.new.self) (sym (one_more_done c.args.done.now c.loop-place.place _ (omega arith)))
    (c.take.ensures site kept _ (c.loop-place.invariant site kept stands))

pub returns : goal.returns
returns c site kept up stands =
    let ended : c.loop-place.place ≡ c.args.end = (let b = c.loop-place.auto.place-end up in omega arith) in
    subst (λ n. BlocksStand site kept (done_newest_first (take n c.args.done.now)) c.loop-place.settings) ended (c.loop-place.invariant site kept stands)
