use Rattle.std.proofs.Common.{◌∙◌, ◌+◌, ℕ, ap}
use Rattle.std.specs.Prelude.{nat_le}
use Rattle.std.specs.List.{list_any}
use Rattle.panel_rules.specs.Outputs.{confirmations, on_run}
use Rattle.plain_history.specs.Histories.{all_done}
use Rattle.plain_outputs.proofs.Confirming.{confirmed_by_last, never_confirmed}
use Rattle.plain_outputs.proofs.unconfirmed.is_confirmed.Goals as goal

pub returns-then-confirmed-gt0 : goal.returns-then-confirmed-gt0
returns-then-confirmed-gt0 c facts history are =
    let run = on_run c.args.settings.now.site.now facts c.args.settings.now.kept.now (all_done c.args.settings.now.done.now) c.args.output history in
    c.was_on_for.ensures facts history are
    ∙ ap (λ (tick : ℕ). list_any (λ first. nat_le (first + 1) tick) run) (c.last_confirmation-confirmed.ensures c.args.settings.now.site.now facts history are)
    ∙ confirmed_by_last run (confirmations c.args.output history)

pub returns-else-confirmed-gt0 : goal.returns-else-confirmed-gt0
returns-else-confirmed-gt0 c facts history are =
    never_confirmed (on_run c.args.settings.now.site.now facts c.args.settings.now.kept.now (all_done c.args.settings.now.done.now) c.args.output history)
    (confirmations c.args.output history)
    c.last_confirmation-confirmed.result.0 (c.last_confirmation-confirmed.ensures c.args.settings.now.site.now facts history are) c.if-confirmed-gt0.false
