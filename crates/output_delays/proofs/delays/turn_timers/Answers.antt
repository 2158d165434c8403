use Rattle.std.proofs.Common.{◌≡◌, get_or, None, sym, ◌∙◌, ap, arith}
use Rattle.output_delays.specs.declared.timer.Timer.{Timer}
use Rattle.output_delays.specs.Timers.{is_holding, turned, turned_by}
use Rattle.output_lists.proofs.Turning.{has_failed, has_passed, mask_of_turned}
use Rattle.output_delays.proofs.delays.turn_timers.Goals as goal
use Rattle.output_delays.proofs.delays.turn_timers.Goals.{then-is_holding, else-is_holding}

pub loop-timer-preserved : goal.loop-timer-preserved
loop-timer-preserved c =
    let f = turned_by c.args.now c.args.asked in
    let test = is_holding c.args.now c.args.overridden in
    let xs = c.args.timers.now in
    let ys = c.loop-timer.timers in
    let i = c.loop-timer.timer-index in
    let d : Timer = record { place = 0; delay = 0; since = None } in
    let made : c.turn.result ≡ f (get_or ys i d) = c.turn.ensures ∙ ap (λ b. turned c.args.now b (get_or ys i d)) c.has_bit_32.ensures in
    elim c.if-is_holding.branch [
      | then-is_holding w ↦ rw w.held-is
          (has_passed (λ timer. timer.place) f test xs ys _ i d c.turn.result c.loop-timer.held w.with_bit_32-held.result (omega arith)
          c.loop-timer.invariant made w.timers-is (sym c.is_holding.ensures ∙ w.if-is_holding.true) w.with_bit_32-held.type_inv
          w.with_bit_32-held.ensures.this w.with_bit_32-held.ensures.others)
      | else-is_holding w ↦
          has_failed (λ timer. timer.place) f test xs ys _ i d c.turn.result c.loop-timer.held _ (omega arith) c.loop-timer.invariant made
          w.timers-is (sym c.is_holding.ensures ∙ w.if-is_holding.false) w.held-is
    ]

pub returns-clause-held : goal.returns-clause-held
returns-clause-held c =
    mask_of_turned (λ timer. timer.place) (turned_by c.args.now c.args.asked) (is_holding c.args.now c.args.overridden) c.args.timers.now
    c.loop-timer.timers c.loop-timer.timer-index c.loop-timer.held (omega arith) c.loop-timer.invariant
