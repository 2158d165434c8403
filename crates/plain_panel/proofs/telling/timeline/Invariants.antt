use Rattle.std.proofs.Common.{take}
use Rattle.plain_history.specs.Histories.{history}
use Rattle.plain_panel.specs.Timelines.{StandsForTelling}
use Rattle.plain_panel.proofs.telling.timeline.Given as goal

abbrev pub invariant-loop-place : goal.invariant-loop-place
invariant-loop-place l = StandsForTelling l.site l.kept (history (take l.place l.moments)) l.telling
