use Rattle.std.proofs.Common.{◌∙◌, ℕ, ap}
use Rattle.plain_outputs.proofs.Joining.{goes_if, stays_if}
use Rattle.site_types.specs.Done.{OutputOff, in_force}
use Rattle.plain_history.specs.Histories.{all_done}
use Rattle.plain_outputs.proofs.acting.goes_on.Goals as goal

pub returns-then-not-is_silenced : goal.returns-then-not-is_silenced
returns-then-not-is_silenced c facts history are turn at =
    goes_if c.is_requested.result c.in_force-is_off.result c.is_silenced-is_silenced.result c.may_act-may_act.result _ _ _ _
    (c.is_requested.ensures facts history are)
    (c.in_force-is_off.ensures ∙ ap
    (λ (tick : ℕ). in_force c.args.settings.now.site.now c.args.settings.now.kept.now (OutputOff c.args.output) tick (all_done c.args.settings.now.done.now)) at)
    (c.is_silenced-is_silenced.ensures facts c.args.settings.now.kept.now history turn at) (c.may_act-may_act.ensures facts history are turn at)
    c.if-not-is_off.true.0 c.if-not-is_off.true.1 c.if-not-is_silenced.true

pub returns-else-not-is_silenced : goal.returns-else-not-is_silenced
returns-else-not-is_silenced c facts history are turn at =
    stays_if c.is_requested.result c.in_force-is_off.result c.is_silenced-is_silenced.result _ _ _ _
    (c.is_requested.ensures facts history are)
    (c.in_force-is_off.ensures ∙ ap
    (λ (tick : ℕ). in_force c.args.settings.now.site.now c.args.settings.now.kept.now (OutputOff c.args.output) tick (all_done c.args.settings.now.done.now)) at)
    (c.is_silenced-is_silenced.ensures facts c.args.settings.now.kept.now history turn at)
    c.if-not-is_off.true.0 c.if-not-is_off.true.1 c.if-not-is_silenced.false
