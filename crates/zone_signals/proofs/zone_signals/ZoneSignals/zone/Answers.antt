use Rattle.std.proofs.Common.{◌≡◌, Some, slice_get, subst, arith}
use Rattle.zone_signals.proofs.PartlyTaken.{got_at}
use Rattle.zone_signals.proofs.zone_signals.ZoneSignals.zone.Goals as goal

pub returns-in-None : goal.returns-in-None
returns-in-None c site kept operations moments stands within =
    let past = c.in-None.ensures.lookup.3 in
    let long = c.deref.ensures.len in
    let whole = stands.settled.whole in
    absurd (omega (arith, past, long, whole, within))

pub returns-in-Some : goal.returns-in-Some
returns-in-Some c site kept operations moments stands within =
    let lookup = c.in-Some.ensures.lookup in
    stands.settled.each c.args.zone c.in-Some.settled.now
    (subst (λ xs. slice_get xs c.args.zone ≡ Some c.in-Some.settled.now) c.deref.ensures.value
    (got_at c.deref.result.now c.args.zone c.in-Some.settled.now lookup.3.0 lookup.1))
