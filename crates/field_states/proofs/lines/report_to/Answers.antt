use Rattle.field_states.proofs.Reports.{line_not, panel_not, told_elsewhere, told_here}
use Rattle.field_states.proofs.lines.report_to.Goals as goal
use Rattle.field_states.proofs.lines.report_to.Goals.{else-plan-panel-via-then-plan-panel+else-plan-line, else-plan-panel-via-else-plan-panel}

pub returns-then-plan-line : goal.returns-then-plan-line
returns-then-plan-line c before h =
    told_here c.args.plan.now before c.set_piece.new.self c.args.panel c.args.line c.args.piece c.args.state c.if-plan-panel.true c.if-plan-line.true
    (c.set_piece.ensures c.args.plan.now _ h)

pub returns-else-plan-panel : goal.returns-else-plan-panel
returns-else-plan-panel c before h =
    told_elsewhere c.args.plan.now before c.args.cable.now c.args.panel c.args.line c.args.piece c.args.state
    (elim c.else-plan-panel.branch [
      | else-plan-panel-via-then-plan-panel+else-plan-line w ↦ line_not _ _ _ _ w.if-plan-line.false
      | else-plan-panel-via-else-plan-panel w ↦ panel_not _ _ _ _ w.if-plan-panel.false
    ]) h
