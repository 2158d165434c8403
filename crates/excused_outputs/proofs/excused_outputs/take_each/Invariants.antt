use Rattle.std.proofs.Common.{take}
use Rattle.site_types.specs.declared.retained.Retained.{Retained}
use Rattle.site_types.specs.declared.site.Site.{Site}
use Rattle.excused_outputs.specs.Behind.{SettingsStand}
use Rattle.blocked_points.specs.Operations.{done_newest_first}
use Rattle.excused_outputs.proofs.excused_outputs.take_each.Given as goal

abbrev pub invariant-loop-place : goal.invariant-loop-place
invariant-loop-place l = (site : Site) (kept : Retained) → SettingsStand site kept (done_newest_first (take l.from l.done)) l.initial.settings
    → SettingsStand site kept (done_newest_first (take l.place l.done)) l.settings
