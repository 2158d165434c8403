use Rattle.std.proofs.Common.{◌≡◌, take}
use Rattle.std.specs.Prelude.{option_map}
use Rattle.tick_units.specs.declared.tick.Tick.{Tick}
use Rattle.site_types.specs.Done.{silence_before}
use Rattle.plain_history.specs.Histories.{all_done}
use Rattle.plain_history.proofs.latest.silence_before.Given as goal

abbrev pub invariant-loop-one : goal.invariant-loop-one
invariant-loop-one l = option_map (λ (at : Tick). at.0) l.silence ≡ silence_before l.panel l.tick.0 (all_done (take l.one-index l.done))
