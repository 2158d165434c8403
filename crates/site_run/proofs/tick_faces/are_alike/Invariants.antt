use Rattle.site_run.specs.AlikeFaces.{AllAlike}
use Rattle.site_run.proofs.tick_faces.are_alike.Given as goal

-- the panels that were looked at are marked
abbrev pub invariant-loop-place : goal.invariant-loop-place
invariant-loop-place l = AllAlike l.alike l.place
