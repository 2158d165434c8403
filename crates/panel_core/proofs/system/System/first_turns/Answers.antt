use Rattle.std.proofs.Common.{subst, sym}
use Rattle.panel_core.specs.Changes.{MakesTurnsFrom}
use Rattle.panel_core.specs.Marks.{MarksTurnsFrom}
use Rattle.panel_core.specs.Stands.{MayTurnFrom}
use Rattle.panel_core.specs.StepCounts.{CountsTurnsFrom}
use Rattle.panel_core.proofs.Backwards.{is_canonical}
use Rattle.panel_core.proofs.system.System.first_turns.Goals as goal

pub canonical_turns-requires : goal.canonical_turns-requires
canonical_turns-requires g c =
    subst (λ order. MayTurnFrom order 0 c.args.self.now)
    (is_canonical c.args.form c.args.self.now.site.panels c.args.order.now c.in-Canonical.is c.requires.form) c.requires.may

pub returns-in-Canonical-clause-turns : goal.returns-in-Canonical-clause-turns
returns-in-Canonical-clause-turns g c =
    let turned = c.canonical_turns in
    let is = is_canonical c.args.form c.args.self.now.site.panels c.args.order.now c.in-Canonical.is c.requires.form in
    subst (λ order. MakesTurnsFrom c.args.self.now order 0 turned.result turned.new.self) (sym is) turned.ensures.turns

pub returns-in-Canonical-clause-steps : goal.returns-in-Canonical-clause-steps
returns-in-Canonical-clause-steps g c =
    let turned = c.canonical_turns in
    let is = is_canonical c.args.form c.args.self.now.site.panels c.args.order.now c.in-Canonical.is c.requires.form in
    subst (λ order. CountsTurnsFrom c.args.self.now order 0 turned.result c.args.steps.now turned.new.steps) (sym is) turned.ensures.steps

pub returns-in-Canonical-clause-marks : goal.returns-in-Canonical-clause-marks
returns-in-Canonical-clause-marks g c =
    let turned = c.canonical_turns in
    let is = is_canonical c.args.form c.args.self.now.site.panels c.args.order.now c.in-Canonical.is c.requires.form in
    subst (λ order. MarksTurnsFrom c.args.self.now order 0 turned.result turned.new.self.changed) (sym is) turned.ensures.marks
