use Rattle.std.proofs.Common.{◌≡◌, List, length}
use Rattle.site_types.specs.declared.retained.Retained.{Retained}
use Rattle.site_types.specs.Done.{Done}
use Rattle.panel_rules.specs.Moments.{TickBlock, moments}
use Rattle.joined_panels.specs.Stands.{StandsFor}
use Rattle.due_zones.specs.Deciding.{AreAllDecisive}
use Rattle.due_zones.specs.Telling.{AreDueBelow}
use Rattle.due_zones.proofs.due_zones.due_at.Given as goal

abbrev pub invariant-loop-place : goal.invariant-loop-place
invariant-loop-place l =
    (kept : Retained) (done : List Done) (ticks : List TickBlock) → StandsFor l.site ticks l.joined → l.now.0 ≡ length ticks
    → AreAllDecisive l.site kept done (moments ticks) l.signals → AreDueBelow l.site kept done (moments ticks) l.panel l.place l.due
