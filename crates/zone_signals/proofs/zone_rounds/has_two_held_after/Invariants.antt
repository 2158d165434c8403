use Rattle.std.proofs.Common.{ℕ, List, Some}
use Rattle.site_types.specs.declared.retained.Retained.{Retained}
use Rattle.site_types.specs.Done.{Done}
use Rattle.panel_rules.specs.Moments.{Moment}
use Rattle.zone_signals.specs.Kinds.{AreMembers}
use Rattle.zone_signals.specs.Rounds.{AreRuns, HasHeldAfter, IsHeldAfter}
use Rattle.zone_signals.proofs.ZonePlaces.{NoneBefore}
use Rattle.zone_signals.proofs.zone_rounds.has_two_held_after.Given as goal

abbrev pub invariant-loop-k : goal.invariant-loop-k
invariant-loop-k l = (kept : Retained) (done : List Done) (moments : List Moment) (zone : ℕ) → AreRuns l.site kept done moments l.now l.runs
    → AreMembers l.site zone l.members
    → NoneBefore (λ point. IsHeldAfter l.site kept done moments l.kind l.later l.now point
    × HasHeldAfter l.site kept done moments l.kind (Some point) zone l.after l.now) l.members l.k
