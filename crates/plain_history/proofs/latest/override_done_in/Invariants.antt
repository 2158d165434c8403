use Rattle.std.proofs.Common.{◌≡◌, take}
use Rattle.site_types.specs.Done.{override_done_in}
use Rattle.plain_history.specs.Histories.{all_done}
use Rattle.plain_history.proofs.latest.override_done_in.Given as goal

abbrev pub invariant-loop-one : goal.invariant-loop-one
invariant-loop-one l = l.found ≡ override_done_in l.panel l.first.0 l.tick.0 (all_done (take l.one-index l.done))
