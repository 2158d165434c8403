use Rattle.std.proofs.Common.{◌≡◌, take}
use Rattle.site_types.specs.Done.{latest_before}
use Rattle.plain_history.specs.Histories.{all_done}
use Rattle.plain_history.specs.Settings.{leaves}
use Rattle.plain_history.proofs.mark.latest_before.Given as goal

abbrev pub invariant-loop-one : goal.invariant-loop-one
invariant-loop-one l = l.latest ≡ latest_before (leaves l.site l.mark) l.tick.0 (all_done (take l.one-index l.done))
