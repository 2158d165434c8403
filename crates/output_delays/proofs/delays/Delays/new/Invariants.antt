use Rattle.std.proofs.Common.{[]}
use Rattle.output_delays.specs.Stands.{timer_of}
use Rattle.output_lists.proofs.Listing.{ListsOutputs}
use Rattle.output_delays.proofs.delays.Delays.new.Given as goal

abbrev pub invariant-loop-place : goal.invariant-loop-place
invariant-loop-place l = ListsOutputs (λ timer. timer.place) (timer_of l.site l.panel []) l.place l.timers.items
