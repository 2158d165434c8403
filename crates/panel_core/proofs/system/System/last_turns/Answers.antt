use Rattle.std.proofs.Common.{subst, sym}
use Rattle.panel_core.specs.Changes.{MakesTurnsFrom}
use Rattle.panel_core.specs.Marks.{MarksTurnsFrom}
use Rattle.panel_core.specs.Stands.{MayTurnFrom}
use Rattle.panel_core.specs.StepCounts.{CountsTurnsFrom}
use Rattle.panel_core.proofs.Backwards.{is_reversed}
use Rattle.panel_core.proofs.system.System.last_turns.Goals as goal

pub reversed_turns-requires : goal.reversed_turns-requires
reversed_turns-requires g c =
    let is = is_reversed c.args.form c.args.self.now.site.panels c.args.order.now c.in-Reversed.is c.requires.form in
    subst (λ order. MayTurnFrom order 1 c.args.self.now) is
    (subst (λ from. MayTurnFrom c.args.order.now from c.args.self.now) c.if-from-eq1.true c.requires.may)

pub returns-then-from-eq1-clause-turns : goal.returns-then-from-eq1-clause-turns
returns-then-from-eq1-clause-turns g c =
    let turned = c.reversed_turns in
    let is = is_reversed c.args.form c.args.self.now.site.panels c.args.order.now c.in-Reversed.is c.requires.form in
    subst (λ from. MakesTurnsFrom c.args.self.now c.args.order.now from turned.result turned.new.self) (sym c.if-from-eq1.true)
    (subst (λ order. MakesTurnsFrom c.args.self.now order 1 turned.result turned.new.self) (sym is) turned.ensures.turns)

pub returns-then-from-eq1-clause-steps : goal.returns-then-from-eq1-clause-steps
returns-then-from-eq1-clause-steps g c =
    let turned = c.reversed_turns in
    let is = is_reversed c.args.form c.args.self.now.site.panels c.args.order.now c.in-Reversed.is c.requires.form in
    subst (λ from. CountsTurnsFrom c.args.self.now c.args.order.now from turned.result c.args.steps.now turned.new.steps) (sym c.if-from-eq1.true)
    (subst (λ order. CountsTurnsFrom c.args.self.now order 1 turned.result c.args.steps.now turned.new.steps) (sym is) turned.ensures.steps)

pub returns-then-from-eq1-clause-marks : goal.returns-then-from-eq1-clause-marks
returns-then-from-eq1-clause-marks g c =
    let turned = c.reversed_turns in
    let is = is_reversed c.args.form c.args.self.now.site.panels c.args.order.now c.in-Reversed.is c.requires.form in
    subst (λ from. MarksTurnsFrom c.args.self.now c.args.order.now from turned.result turned.new.self.changed) (sym c.if-from-eq1.true)
    (subst (λ order. MarksTurnsFrom c.args.self.now order 1 turned.result turned.new.self.changed) (sym is) turned.ensures.marks)
