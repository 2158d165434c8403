use Rattle.std.proofs.Common.{◌-◌, ap}
use Rattle.std.specs.Prelude.{slice_set}
use Rattle.operation_desk.proofs.Turned.{busy_put, desk_turned}
use Rattle.operation_desk.proofs.desk.Desk.answer_own.Goals as goal

pub returns : goal.returns
returns c kept before h m =
    desk_turned c.args.site.now kept c.args.settings.now c.args.panel before c.args.self.now h m c.take_own.new.self _
    (c.take_own.ensures.took kept before h m) c.take_own.ensures.rest
    (busy_put c.take_own.new.self _ _ (ap (slice_set c.take_own.new.self.answers.busy (c.args.panel - 1)) c.saturating_sub.ensures))
