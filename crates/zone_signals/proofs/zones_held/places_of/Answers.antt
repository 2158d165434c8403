use Rattle.std.proofs.Common.{arith, subst, sym}
use Rattle.zone_signals.specs.Kinds.{AreMembers}
use Rattle.zone_signals.proofs.MembersFound.{members_at, no_members}
use Rattle.zone_signals.proofs.zones_held.places_of.Goals as goal

pub returns-in-None : goal.returns-in-None
returns-in-None c site valid all =
    let whole = all.whole in
    let past = c.in-None.ensures.lookup.3 in
    no_members site c.args.zone valid (omega (arith, whole, past))

pub returns-in-Some : goal.returns-in-Some
returns-in-Some c site valid all =
    let lookup = c.in-Some.ensures.lookup in
    subst (AreMembers site c.args.zone) (sym c.deref.ensures.value)
    (members_at site c.args.members.now c.args.zone c.in-Some.own.now all lookup.3.0 lookup.1)
