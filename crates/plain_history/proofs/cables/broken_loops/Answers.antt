use Rattle.std.proofs.Common.{◌∙◌, ◌+◌, ap}
use Rattle.isolators.specs.declared.line_status.LineStatus.{LineStatus}
use Rattle.loop_poller.specs.Asked.{status_on}
use Rattle.site_types.specs.Things.{loop_of}
use Rattle.panel_rules.specs.States.{piece_of}
use Rattle.supply_monitor.proofs.Four.{mask_of_four}
use Rattle.plain_history.specs.Histories.{history}
use Rattle.plain_history.proofs.cables.broken_loops.Goals as goal

pub returns : goal.returns
returns c =
    let is_so = λ (status : LineStatus). status.broken in
    c.mask_from_8.ensures
    ∙ mask_of_four _ _ _ _
    (λ k.
    (status_on (loop_of c.args.site.now c.args.panel (k + 1)) (λ piece. piece_of c.args.panel (k + 1) piece (history c.args.moments.now))).broken)
    (ap is_so c.line_status.ensures) (ap is_so c.line_status-2.ensures) (ap is_so c.line_status-3.ensures) (ap is_so c.line_status-4.ensures)
