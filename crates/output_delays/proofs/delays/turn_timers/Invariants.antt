use Rattle.output_delays.specs.Timers.{is_holding, turned_by}
use Rattle.output_lists.proofs.Turning.{HasTurned}
use Rattle.output_delays.proofs.delays.turn_timers.Given as goal

abbrev pub invariant-loop-timer : goal.invariant-loop-timer
invariant-loop-timer l =
    HasTurned (λ timer. timer.place) (turned_by l.now l.asked) (is_holding l.now l.overridden) l.initial.timers l.timer-index l.timers l.held
