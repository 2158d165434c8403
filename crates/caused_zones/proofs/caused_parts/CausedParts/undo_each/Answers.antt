use Rattle.std.proofs.Common.{◌≡◌, arith, subst}
use Rattle.caused_zones.specs.Stands.{PartsAfter}
use Rattle.caused_zones.proofs.Taken.{parts_more, tick_at}
use Rattle.caused_zones.proofs.caused_parts.CausedParts.undo_each.Goals as goal

pub loop-place-preserved : goal.loop-place-preserved
loop-place-preserved c kept ticks up each stand =
    let place = c.loop-place.place in
    parts_more c.args.site.now kept c.args.done.now place ticks _ c.undo.new.self (omega arith)
    (c.undo.ensures kept _ _ _ (tick_at c.args.done.now c.args.from c.args.end place ticks _ (omega arith) (omega arith) (omega arith) each)
    (c.loop-place.invariant kept ticks up each stand))

pub returns : goal.returns
returns c kept ticks up each stand =
    let ended : c.loop-place.place ≡ c.args.end = (let b = c.loop-place.auto.place-end up in omega arith) in
    subst (λ n. PartsAfter c.args.site.now kept c.args.done.now n ticks c.loop-place.self) ended (c.loop-place.invariant kept ticks up each stand)
