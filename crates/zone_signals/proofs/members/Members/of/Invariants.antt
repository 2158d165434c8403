use Rattle.zone_signals.proofs.MembersFound.{AreFirstMembers}
use Rattle.zone_signals.proofs.members.Members.of.Given as goal

abbrev pub invariant-loop-place : goal.invariant-loop-place
invariant-loop-place l = AreFirstMembers l.site l.zone l.place l.places.items
