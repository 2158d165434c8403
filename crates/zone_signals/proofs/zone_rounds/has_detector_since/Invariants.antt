use Rattle.std.proofs.Common.{◌<◌, ◌≤◌, ℕ, List}
use Rattle.site_types.specs.declared.retained.Retained.{Retained}
use Rattle.site_types.specs.Done.{Done}
use Rattle.panel_rules.specs.Moments.{Moment}
use Rattle.zone_signals.specs.Kinds.{AreMembers}
use Rattle.zone_signals.specs.Rounds.{AreRuns, DetectorThrough}
use Rattle.zone_signals.proofs.ZonePlaces.{NoneBefore}
use Rattle.zone_signals.proofs.zone_rounds.has_detector_since.Given as goal

abbrev pub invariant-loop-k : goal.invariant-loop-k
invariant-loop-k l = (kept : Retained) (done : List Done) (moments : List Moment) (zone : ℕ) → AreRuns l.site kept done moments l.now l.runs
    → AreMembers l.site zone l.members → 1 ≤ l.first → l.first < l.now
    → NoneBefore (λ point. DetectorThrough l.site kept done moments point l.first l.now) l.members l.k
