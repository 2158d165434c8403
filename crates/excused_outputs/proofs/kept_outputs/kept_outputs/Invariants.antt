use Rattle.site_types.specs.Done.{OutputOff, at_opening}
use Rattle.blocked_points.specs.Blocks.{AreBlockFlags}
use Rattle.excused_outputs.proofs.kept_outputs.kept_outputs.Given as goal

abbrev pub invariant-loop-place : goal.invariant-loop-place
invariant-loop-place l = AreBlockFlags l.place (λ place. at_opening l.site l.kept (OutputOff place)) l.flags.items
