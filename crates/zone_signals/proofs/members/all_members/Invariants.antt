use Rattle.zone_signals.proofs.MembersFound.{AreZonesMembers}
use Rattle.zone_signals.proofs.members.all_members.Given as goal

abbrev pub invariant-loop-zone : goal.invariant-loop-zone
invariant-loop-zone l = AreZonesMembers l.site l.zone l.members.items
