use Rattle.tick_units.specs.declared.task.Task.TheVariants.{Decide, Desk, Drive, Effect, Hold, Link, Poll, Supply}
use Rattle.panel_core.proofs.InLine.{first_task, none_turned, other_tasks, task_turned}
use Rattle.panel_core.proofs.system.System.turn_panel_back.Goals as goal

pub turn_task-requires : goal.turn_task-requires
turn_task-requires g c = first_task Drive (λ e. cc) c.requires

pub turn_task-requires-2 : goal.turn_task-requires-2
turn_task-requires-2 g c =
    let may-1 = other_tasks Drive c.requires c.turn_task.ensures.turns in
    first_task Effect (λ e. cc) may-1

pub turn_task-requires-3 : goal.turn_task-requires-3
turn_task-requires-3 g c =
    let may-1 = other_tasks Drive c.requires c.turn_task.ensures.turns in
    let may-2 = other_tasks Effect may-1 c.turn_task-2.ensures.turns in
    first_task Link (λ e. cc) may-2

pub turn_task-requires-4 : goal.turn_task-requires-4
turn_task-requires-4 g c =
    let may-1 = other_tasks Drive c.requires c.turn_task.ensures.turns in
    let may-2 = other_tasks Effect may-1 c.turn_task-2.ensures.turns in
    let may-3 = other_tasks Link may-2 c.turn_task-3.ensures.turns in
    first_task Hold (λ e. cc) may-3

pub turn_task-requires-5 : goal.turn_task-requires-5
turn_task-requires-5 g c =
    let may-1 = other_tasks Drive c.requires c.turn_task.ensures.turns in
    let may-2 = other_tasks Effect may-1 c.turn_task-2.ensures.turns in
    let may-3 = other_tasks Link may-2 c.turn_task-3.ensures.turns in
    let may-4 = other_tasks Hold may-3 c.turn_task-4.ensures.turns in
    first_task Desk (λ e. cc) may-4

pub turn_task-requires-6 : goal.turn_task-requires-6
turn_task-requires-6 g c =
    let may-1 = other_tasks Drive c.requires c.turn_task.ensures.turns in
    let may-2 = other_tasks Effect may-1 c.turn_task-2.ensures.turns in
    let may-3 = other_tasks Link may-2 c.turn_task-3.ensures.turns in
    let may-4 = other_tasks Hold may-3 c.turn_task-4.ensures.turns in
    let may-5 = other_tasks Desk may-4 c.turn_task-5.ensures.turns in
    first_task Supply (λ e. cc) may-5

pub turn_task-requires-7 : goal.turn_task-requires-7
turn_task-requires-7 g c =
    let may-1 = other_tasks Drive c.requires c.turn_task.ensures.turns in
    let may-2 = other_tasks Effect may-1 c.turn_task-2.ensures.turns in
    let may-3 = other_tasks Link may-2 c.turn_task-3.ensures.turns in
    let may-4 = other_tasks Hold may-3 c.turn_task-4.ensures.turns in
    let may-5 = other_tasks Desk may-4 c.turn_task-5.ensures.turns in
    let may-6 = other_tasks Supply may-5 c.turn_task-6.ensures.turns in
    first_task Decide (λ e. cc) may-6

pub turn_task-requires-8 : goal.turn_task-requires-8
turn_task-requires-8 g c =
    let may-1 = other_tasks Drive c.requires c.turn_task.ensures.turns in
    let may-2 = other_tasks Effect may-1 c.turn_task-2.ensures.turns in
    let may-3 = other_tasks Link may-2 c.turn_task-3.ensures.turns in
    let may-4 = other_tasks Hold may-3 c.turn_task-4.ensures.turns in
    let may-5 = other_tasks Desk may-4 c.turn_task-5.ensures.turns in
    let may-6 = other_tasks Supply may-5 c.turn_task-6.ensures.turns in
    let may-7 = other_tasks Decide may-6 c.turn_task-7.ensures.turns in
    first_task Poll (λ e. cc) may-7

pub returns : goal.returns
returns g c =
    let done-1 = task_turned c.args.panel Drive (none_turned c.args.self.now c.args.steps.now) c.turn_task.ensures.turns c.turn_task.ensures.marks c.turn_task.ensures.steps in
    let done-2 = task_turned c.args.panel Effect done-1 c.turn_task-2.ensures.turns c.turn_task-2.ensures.marks c.turn_task-2.ensures.steps in
    let done-3 = task_turned c.args.panel Link done-2 c.turn_task-3.ensures.turns c.turn_task-3.ensures.marks c.turn_task-3.ensures.steps in
    let done-4 = task_turned c.args.panel Hold done-3 c.turn_task-4.ensures.turns c.turn_task-4.ensures.marks c.turn_task-4.ensures.steps in
    let done-5 = task_turned c.args.panel Desk done-4 c.turn_task-5.ensures.turns c.turn_task-5.ensures.marks c.turn_task-5.ensures.steps in
    let done-6 = task_turned c.args.panel Supply done-5 c.turn_task-6.ensures.turns c.turn_task-6.ensures.marks c.turn_task-6.ensures.steps in
    let done-7 = task_turned c.args.panel Decide done-6 c.turn_task-7.ensures.turns c.turn_task-7.ensures.marks c.turn_task-7.ensures.steps in
    let done-8 = task_turned c.args.panel Poll done-7 c.turn_task-8.ensures.turns c.turn_task-8.ensures.marks c.turn_task-8.ensures.steps in
    record { turns = done-8.turns; steps = done-8.steps; marks = done-8.marks }
