use Rattle.std.proofs.Common.{List}
use Rattle.site_types.specs.declared.retained.Retained.{Retained}
use Rattle.face_text.specs.declared.timeline.Timeline.{Timeline}
use Rattle.panel_rules.specs.Moments.{TickBlock, moments}
use Rattle.audit_rules.specs.CanCause.{CanBeHeard}
use Rattle.blocked_points.specs.declared.done_operation.DoneOperation.{DoneOperation}
use Rattle.blocked_points.specs.Operations.{done_newest_first}
use Rattle.joined_panels.specs.Stands.{StandsFor as JoinedStandsFor}
use Rattle.shown_causes.specs.Heard.{StandsFor}
use Rattle.shown_causes.proofs.HeardMasks.{TellZonesBelow}
use Rattle.shown_causes.proofs.shown_causes.ShownCauses.zones_heard.Given as goal

abbrev pub invariant-loop-place : goal.invariant-loop-place
invariant-loop-place l = (kept : Retained) (operations : List DoneOperation) (timeline : Timeline) (ticks : List TickBlock)
    → StandsFor l.site kept operations timeline ticks l.self → JoinedStandsFor l.site ticks l.joined
    → TellZonesBelow l.site (CanBeHeard l.site timeline kept (done_newest_first operations) (moments ticks) l.panel) l.masks l.place
