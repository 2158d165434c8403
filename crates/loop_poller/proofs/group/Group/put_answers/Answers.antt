use Rattle.std.proofs.Common.{◌∙◌, ap}
use Rattle.tick_units.specs.Lane.{with_put}
use Rattle.loop_poller.proofs.BlockAnswers.{of_group}
use Rattle.loop_poller.proofs.GroupMasks.{room_behind, told_answers, told_few}
use Rattle.loop_poller.proofs.group.Group.put_answers.Goals as goal

pub returns-clause-room : goal.returns-clause-room
returns-clause-room c n room =
    let few = told_few c.args.now.0 c.args.self.now c.args.states.now _ _ c.alarms_from.ensures c.gone_from.ensures in
    let items = of_group c.from.result _ c.args.self.now.count c.args.self.now.few c.from.ensures.first in
    room_behind c.args.answers.now c.put_run.new.self _ 8 (c.put_run.ensures ∙ ap (with_put c.args.answers.now) items) few n room

pub returns-clause-put : goal.returns-clause-put
returns-clause-put c within =
    c.put_run.ensures ∙ ap (with_put c.args.answers.now)
    (of_group c.from.result _ c.args.self.now.count c.args.self.now.few c.from.ensures.first
    ∙ told_answers c.args.now.0 c.args.self.now c.args.states.now _ _ c.alarms_from.ensures c.gone_from.ensures within)
