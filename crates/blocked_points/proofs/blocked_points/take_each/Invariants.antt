use Rattle.std.proofs.Common.{take}
use Rattle.site_types.specs.declared.retained.Retained.{Retained}
use Rattle.site_types.specs.declared.site.Site.{Site}
use Rattle.blocked_points.specs.BlocksStand.{BlocksStand}
use Rattle.blocked_points.specs.Operations.{done_newest_first}
use Rattle.blocked_points.proofs.blocked_points.take_each.Given as goal

abbrev pub invariant-loop-place : goal.invariant-loop-place
invariant-loop-place l = (site : Site) (kept : Retained) → BlocksStand site kept (done_newest_first (take l.from l.done)) l.initial.settings
    → BlocksStand site kept (done_newest_first (take l.place l.done)) l.settings
