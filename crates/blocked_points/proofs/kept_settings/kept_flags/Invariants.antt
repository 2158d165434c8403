use Rattle.site_types.specs.Done.{at_opening}
use Rattle.blocked_points.specs.Blocks.{AreBlockFlags, block_setting}
use Rattle.blocked_points.proofs.kept_settings.kept_flags.Given as goal

abbrev pub invariant-loop-place : goal.invariant-loop-place
invariant-loop-place l = AreBlockFlags l.place (λ place. at_opening l.site l.kept (block_setting l.block place)) l.flags.items
