use Rattle.std.proofs.Common.{ap, ◌∙◌}
use Rattle.plain_history.specs.declared.moment.Moment.TheVariants.{Began, Happened, Turned, Kept}
use Rattle.site_types.specs.declared.event.Event.TheVariants.{Op, Point, Supply, Link, Confirmed}
use Rattle.plain_history.proofs.CableReports.{by_five, by_three, line_not, moment_is, panel_not, told_elsewhere, told_here}
use Rattle.plain_history.proofs.cables.report.Goals as goal
use Rattle.plain_history.proofs.cables.report.Goals.{else-of_panel-panel-via-then-of_panel-panel+else-of_line-line, else-of_panel-panel-via-else-of_panel-panel}

pub returns-then-of_line-line : goal.returns-then-of_line-line
returns-then-of_line-line c plan before h =
    moment_is plan c.args.panel c.args.line before c.set_piece.new.self c.args.moment.now _ (c.in-Happened.is ∙ ap Happened c.in-Cable.is)
    (told_here plan c.args.panel c.args.line before c.set_piece.new.self c.in-Cable.of_panel c.in-Cable.of_line c.in-Cable.piece c.in-Cable.state
    c.if-of_panel-panel.true c.if-of_line-line.true (c.set_piece.ensures plan _ h))

pub returns-else-of_panel-panel : goal.returns-else-of_panel-panel
returns-else-of_panel-panel c plan before h =
    moment_is plan c.args.panel c.args.line before c.args.cable.now c.args.moment.now _ (c.in-Happened.is ∙ ap Happened c.in-Cable.is)
    (told_elsewhere plan c.args.panel c.args.line before c.args.cable.now c.in-Cable.of_panel c.in-Cable.of_line c.in-Cable.piece c.in-Cable.state
    (elim c.else-of_panel-panel.branch [
      | else-of_panel-panel-via-then-of_panel-panel+else-of_line-line w ↦ line_not _ _ _ _ w.if-of_line-line.false
      | else-of_panel-panel-via-else-of_panel-panel w ↦ panel_not _ _ _ _ w.if-of_panel-panel.false
    ]) h)

pub returns-in-Point : goal.returns-in-Point
returns-in-Point c plan before h =
    by_five
    (λ e. moment_is plan c.args.panel c.args.line before c.args.cable.now c.args.moment.now (Happened (Point e.0 e.1))
    (c.in-Happened.is ∙ ap Happened e.2) h)
    (λ e. moment_is plan c.args.panel c.args.line before c.args.cable.now c.args.moment.now (Happened (Supply e.0 e.1 e.2))
    (c.in-Happened.is ∙ ap Happened e.3) h)
    (λ e. moment_is plan c.args.panel c.args.line before c.args.cable.now c.args.moment.now (Happened (Link e.0 e.1))
    (c.in-Happened.is ∙ ap Happened e.2) h)
    (λ e. moment_is plan c.args.panel c.args.line before c.args.cable.now c.args.moment.now (Happened (Confirmed e.0))
    (c.in-Happened.is ∙ ap Happened e.1) h)
    (λ e. moment_is plan c.args.panel c.args.line before c.args.cable.now c.args.moment.now (Happened (Op e.0 e.1 e.2))
    (c.in-Happened.is ∙ ap Happened e.3) h)
    c.in-Point.is

pub returns-in-Began : goal.returns-in-Began
returns-in-Began c plan before h =
    by_three
    (λ e. moment_is plan c.args.panel c.args.line before c.args.cable.now c.args.moment.now Began e h)
    (λ e. moment_is plan c.args.panel c.args.line before c.args.cable.now c.args.moment.now (Turned e.0 e.1) e.2 h)
    (λ e. moment_is plan c.args.panel c.args.line before c.args.cable.now c.args.moment.now (Kept e.0) e.1 h)
    c.in-Began.is
