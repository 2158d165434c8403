use Rattle.std.proofs.Common.{List}
use Rattle.loop_poller.specs.Calls.{Call}
use Rattle.loop_poller.specs.Stands.{StandsFor}
use Rattle.part_trials.proofs.polling.poll.Given as goal

abbrev pub invariant-loop-tick : goal.invariant-loop-tick
invariant-loop-tick l = (calls : List Call) × StandsFor l.site 1 calls l.poller

abbrev pub invariant-loop-step : goal.invariant-loop-step
invariant-loop-step l = (calls : List Call) × StandsFor l.site 1 calls l.poller
