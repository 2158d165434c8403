use Rattle.std.proofs.Common.{arith, refl}
use Rattle.tick_units.specs.declared.task.Task.TheVariants.{Decide, Desk, Drive, Effect, Hold, Link, Poll, Supply}
use Rattle.panel_core.proofs.DeskTurns.{can_turn, desk_turn}
use Rattle.panel_core.proofs.Marked.{seat_marks, unseen_marks}
use Rattle.panel_core.proofs.Orders.{seat_panel}
use Rattle.panel_core.proofs.TaskTurns.{made_turn, may_turn_task}
use Rattle.panel_core.proofs.system.System.turn_of.Goals as goal

pub turn-requires : goal.turn-requires
turn-requires g c =
    let r = c.requires in
    can_turn r.site r.kept r.before c.args.self.now r.stands c.args.seat.panel
    (seat_panel r.site.panels c.args.seat r.known c.requires.panels) (rw c.in-Desk.is at r.run)

pub returns-in-Desk-clause-turns : goal.returns-in-Desk-clause-turns
returns-in-Desk-clause-turns g c site kept before h =
    let count = c.requires.stands.count in
    let here = h.count in
    let p = seat_panel c.requires.site.panels c.args.seat c.requires.known c.requires.panels in
    rw c.in-Desk.is (λ run. desk_turn site kept before c.args.self.now h c.args.seat.panel c.turn.new.self
    (p.0, omega (arith, p.1, count, here)) run (c.turn.ensures kept before))

pub returns-in-Desk-clause-steps : goal.returns-in-Desk-clause-steps
returns-in-Desk-clause-steps g c site kept before h = rw c.in-Desk.is refl

pub returns-in-Keep-clause-turns : goal.returns-in-Keep-clause-turns
returns-in-Keep-clause-turns g c = absurd (c.requires.panels c.in-Keep.is)

pub returns-in-Keep-clause-steps : goal.returns-in-Keep-clause-steps
returns-in-Keep-clause-steps g c = absurd (c.requires.panels c.in-Keep.is)

pub poll_turn-requires : goal.poll_turn-requires
poll_turn-requires g c = may_turn_task c.args.seat c.args.self.now Poll c.requires c.in-Poll.is (λ e. cc)

pub returns-in-Poll-clause-turns : goal.returns-in-Poll-clause-turns
returns-in-Poll-clause-turns g c = made_turn c.args.seat c.args.self.now c.poll_turn.new.self Poll c.in-Poll.is (λ e. cc) c.poll_turn.ensures.turn

pub returns-in-Poll-clause-steps : goal.returns-in-Poll-clause-steps
returns-in-Poll-clause-steps g c site kept before h = rw c.in-Poll.is refl

pub decide_turn-requires : goal.decide_turn-requires
decide_turn-requires g c = may_turn_task c.args.seat c.args.self.now Decide c.requires c.in-Decide.is (λ e. cc)

pub returns-in-Decide-clause-turns : goal.returns-in-Decide-clause-turns
returns-in-Decide-clause-turns g c = made_turn c.args.seat c.args.self.now c.decide_turn.new.self Decide c.in-Decide.is (λ e. cc) c.decide_turn.ensures.turn

pub returns-in-Decide-clause-steps : goal.returns-in-Decide-clause-steps
returns-in-Decide-clause-steps g c site kept before h = rw c.in-Decide.is refl

pub supply_turn-requires : goal.supply_turn-requires
supply_turn-requires g c = may_turn_task c.args.seat c.args.self.now Supply c.requires c.in-Supply.is (λ e. cc)

pub returns-in-Supply-clause-turns : goal.returns-in-Supply-clause-turns
returns-in-Supply-clause-turns g c = made_turn c.args.seat c.args.self.now c.supply_turn.new.self Supply c.in-Supply.is (λ e. cc) c.supply_turn.ensures.turn

pub returns-in-Supply-clause-steps : goal.returns-in-Supply-clause-steps
returns-in-Supply-clause-steps g c site kept before h = rw c.in-Supply.is refl

pub marked_hold_turn-requires : goal.marked_hold_turn-requires
marked_hold_turn-requires g c = may_turn_task c.args.seat c.args.self.now Hold c.requires c.in-Hold.is (λ e. cc)

pub returns-in-Hold-clause-turns : goal.returns-in-Hold-clause-turns
returns-in-Hold-clause-turns g c = made_turn c.args.seat c.args.self.now c.marked_hold_turn.new.self Hold c.in-Hold.is (λ e. cc) c.marked_hold_turn.ensures.turn

pub returns-in-Hold-clause-steps : goal.returns-in-Hold-clause-steps
returns-in-Hold-clause-steps g c site kept before h = rw c.in-Hold.is refl

pub marked_link_turn-requires : goal.marked_link_turn-requires
marked_link_turn-requires g c = may_turn_task c.args.seat c.args.self.now Link c.requires c.in-Link.is (λ e. cc)

pub returns-in-Link-clause-turns : goal.returns-in-Link-clause-turns
returns-in-Link-clause-turns g c = made_turn c.args.seat c.args.self.now c.marked_link_turn.new.self Link c.in-Link.is (λ e. cc) c.marked_link_turn.ensures.turn

pub returns-in-Link-clause-steps : goal.returns-in-Link-clause-steps
returns-in-Link-clause-steps g c site kept before h = rw c.in-Link.is refl

pub effect_turn-requires : goal.effect_turn-requires
effect_turn-requires g c = may_turn_task c.args.seat c.args.self.now Effect c.requires c.in-Effect.is (λ e. cc)

pub returns-in-Effect-clause-turns : goal.returns-in-Effect-clause-turns
returns-in-Effect-clause-turns g c = made_turn c.args.seat c.args.self.now c.effect_turn.new.self Effect c.in-Effect.is (λ e. cc) c.effect_turn.ensures.turn

pub returns-in-Effect-clause-steps : goal.returns-in-Effect-clause-steps
returns-in-Effect-clause-steps g c site kept before h = rw c.in-Effect.is (c.effect_turn.ensures.steps site kept before h)

pub marked_drive_turn-requires : goal.marked_drive_turn-requires
marked_drive_turn-requires g c = may_turn_task c.args.seat c.args.self.now Drive c.requires c.in-Drive.is (λ e. cc)

pub returns-in-Drive-clause-turns : goal.returns-in-Drive-clause-turns
returns-in-Drive-clause-turns g c = made_turn c.args.seat c.args.self.now c.marked_drive_turn.new.self Drive c.in-Drive.is (λ e. cc) c.marked_drive_turn.ensures.turn

pub returns-in-Drive-clause-steps : goal.returns-in-Drive-clause-steps
returns-in-Drive-clause-steps g c site kept before h = rw c.in-Drive.is refl

pub returns-in-Hold-clause-marks : goal.returns-in-Hold-clause-marks
returns-in-Hold-clause-marks g c = seat_marks c.args.self.now c.marked_hold_turn.new.self.changed c.args.seat Hold c.in-Hold.is (λ e. cc) c.marked_hold_turn.ensures.marks

pub returns-in-Link-clause-marks : goal.returns-in-Link-clause-marks
returns-in-Link-clause-marks g c = seat_marks c.args.self.now c.marked_link_turn.new.self.changed c.args.seat Link c.in-Link.is (λ e. cc) c.marked_link_turn.ensures.marks

pub returns-in-Drive-clause-marks : goal.returns-in-Drive-clause-marks
returns-in-Drive-clause-marks g c = seat_marks c.args.self.now c.marked_drive_turn.new.self.changed c.args.seat Drive c.in-Drive.is (λ e. cc) c.marked_drive_turn.ensures.marks

pub returns-in-Poll-clause-marks : goal.returns-in-Poll-clause-marks
returns-in-Poll-clause-marks g c =
    seat_marks c.args.self.now c.poll_turn.new.self.changed c.args.seat Poll c.in-Poll.is (λ e. cc)
    (unseen_marks c.args.self.now c.poll_turn.new.self.changed c.args.seat.panel Poll tt c.poll_turn.ensures.same)

pub returns-in-Decide-clause-marks : goal.returns-in-Decide-clause-marks
returns-in-Decide-clause-marks g c =
    seat_marks c.args.self.now c.decide_turn.new.self.changed c.args.seat Decide c.in-Decide.is (λ e. cc)
    (unseen_marks c.args.self.now c.decide_turn.new.self.changed c.args.seat.panel Decide tt c.decide_turn.ensures.same)

pub returns-in-Supply-clause-marks : goal.returns-in-Supply-clause-marks
returns-in-Supply-clause-marks g c =
    seat_marks c.args.self.now c.supply_turn.new.self.changed c.args.seat Supply c.in-Supply.is (λ e. cc)
    (unseen_marks c.args.self.now c.supply_turn.new.self.changed c.args.seat.panel Supply tt c.supply_turn.ensures.same)

pub returns-in-Effect-clause-marks : goal.returns-in-Effect-clause-marks
returns-in-Effect-clause-marks g c =
    seat_marks c.args.self.now c.effect_turn.new.self.changed c.args.seat Effect c.in-Effect.is (λ e. cc)
    (unseen_marks c.args.self.now c.effect_turn.new.self.changed c.args.seat.panel Effect tt c.effect_turn.ensures.same)

pub returns-in-Desk-clause-marks : goal.returns-in-Desk-clause-marks
returns-in-Desk-clause-marks g c =
    seat_marks c.args.self.now c.args.self.now.changed c.args.seat Desk c.in-Desk.is (λ e. cc)
    (unseen_marks c.args.self.now c.args.self.now.changed c.args.seat.panel Desk tt refl)

pub returns-in-Keep-clause-marks : goal.returns-in-Keep-clause-marks
returns-in-Keep-clause-marks g c = absurd (c.requires.panels c.in-Keep.is)
