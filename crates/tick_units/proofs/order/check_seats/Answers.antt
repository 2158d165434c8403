use Rattle.std.proofs.Common.{refl, sym, ◌∙◌, ap, arith, subst, Some}
use Rattle.std.proofs.lemmas.List.{take_all, take_more}
use Rattle.tick_units.specs.Orders.{IsSound}
use Rattle.tick_units.specs.SeatSets.{HasAllBut}
use Rattle.tick_units.proofs.Faults.{fault_at, sound_more}
use Rattle.tick_units.proofs.SeatSets.{known_absent, panel_within, there_from}
use Rattle.tick_units.proofs.Sound.{sound_none}
use Rattle.tick_units.proofs.order.check_seats.Goals as goal
use Rattle.tick_units.proofs.order.check_seats.Goals.{then-seat-panels-via-then-seat-panels, then-seat-panels-via-else-seat-panels+then-not-remove}

pub loop-before-init : goal.loop-before-init
loop-before-init c = record { sound = sound_none c.args.panels; left = c.of_site-left.ensures c.args.panels c.requires.1 }

pub returns-then-seat-panels-clause-bad : goal.returns-then-seat-panels-clause-bad
returns-then-seat-panels-clause-bad c =
    let k = c.loop-before.before in
    fault_at c.args.panels c.args.seats.now k _ _ refl c.loop-before-test.true c.loop-before.invariant.sound
    (λ known.
    elim c.then-seat-panels.branch [
      | then-seat-panels-via-then-seat-panels w ↦ absurd (omega (arith, panel_within c.args.panels _ known, w.if-seat-panels.true))
      | then-seat-panels-via-else-seat-panels+then-not-remove w ↦
          there_from _ _ _ (w.remove.ensures.was_there c.args.panels _ c.loop-before.invariant.left w.if-seat-panels.false) w.if-not-remove.true known
    ])
    ∙ ap Some (sym c.bad_seat.ensures)

pub loop-before-preserved : goal.loop-before-preserved
loop-before-preserved c =
    let seats = c.args.seats.now in
    let k = c.loop-before.before in
    let before = c.loop-before.invariant in
    let told = known_absent _ _ _ (c.remove.ensures.was_there c.args.panels _ before.left c.if-seat-panels.false) c.if-not-remove.false in
    let more = sym (take_more seats k _ c.loop-before-test.true) in
    record {
      sound = subst (IsSound c.args.panels) more (sound_more c.args.panels _ _ before.sound told.0 told.1);
      left = subst (λ xs. HasAllBut c.args.panels xs c.remove.new.self) more (c.remove.ensures.removed c.args.panels _ before.left);
    }

pub returns-clause-ok : goal.returns-clause-ok
returns-clause-ok c =
    subst (IsSound c.args.panels) (take_all c.loop-before.before c.args.seats.now c.loop-before-test.false) c.loop-before.invariant.sound
