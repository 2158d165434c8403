use Rattle.plain_operations.specs.Desks.{all_answered}
use Rattle.panel_settings.specs.Settings.{setting_from}
use Rattle.plain_operations.proofs.Desks.{unsettled_by_done, unsettled_by_waiting}
use Rattle.plain_operations.proofs.outcomes.Outcomes.is_unsettled.Goals as goal

pub returns-then-any_waits : goal.returns-then-any_waits
returns-then-any_waits c =
    unsettled_by_waiting (setting_from c.args.setting) c.args.tick.0 c.args.self.now.waiting.items _ (all_answered c.args.self.now.answers.items)
    c.args.self.now.done.items c.any_waits.result c.deref.ensures.value c.any_waits.ensures
    c.if-any_waits.true

pub returns-else-any_waits : goal.returns-else-any_waits
returns-else-any_waits c =
    unsettled_by_done (setting_from c.args.setting) c.args.tick.0 c.args.self.now.waiting.items _ (all_answered c.args.self.now.answers.items)
    c.args.self.now.done.items _ c.any_waits.result _ c.deref.ensures.value
    c.deref-else-any_waits.ensures.value c.any_waits.ensures c.if-any_waits.false c.any_is_fresh.ensures
