use Rattle.std.proofs.Common.{◌≡◌, ◌∙◌, ◌↔◌, true, sym, ap, subst}
use Rattle.std.specs.Option.{option_copied}
use Rattle.blocked_points.specs.Operations.{done_newest_first}
use Rattle.panel_rules.specs.Moments.{moments}
use Rattle.due_outputs.specs.DueOn.{IsDueUnexcused}
use Rattle.panel_audit.proofs.OutputsNotOn.{dark_both, none_dark, not_due}
use Rattle.panel_audit.proofs.dark.is_dark.Goals as goal

pub returns-in-None : goal.returns-in-None
returns-in-None c kept operations timeline ticks dues excused are =
    none_dark c.args.site.now kept (done_newest_first operations) timeline ticks c.args.faces.now are c.args.place
    (sym c.get.ensures ∙ ap option_copied c.in-None.is)

pub returns-then-is_due_on : goal.returns-then-is_due_on
returns-then-is_due_on c kept operations timeline ticks dues excused are =
    let site = c.args.site.now in
    let done = done_newest_first operations in
    let output = c.in-Some.output.now in
    let is = sym c.get.ensures ∙ ap option_copied c.in-Some.is in
    dark_both site kept done timeline ticks c.args.faces.now are c.args.place output is true c.is_on.result
    (subst (λ due. (due ≡ true) ↔ IsDueUnexcused site kept done (moments ticks) output.panel c.args.place) c.if-is_due_on.true
    (c.is_due_on.ensures site kept operations ticks is dues excused)) c.is_on.ensures

pub returns-else-is_due_on : goal.returns-else-is_due_on
returns-else-is_due_on c kept operations timeline ticks dues excused are =
    let site = c.args.site.now in
    let done = done_newest_first operations in
    let output = c.in-Some.output.now in
    let faces = c.args.faces.now in
    let is = sym c.get.ensures ∙ ap option_copied c.in-Some.is in
    not_due site kept done timeline ticks faces are c.args.place output is c.is_due_on.result c.if-is_due_on.false
    (c.is_due_on.ensures site kept operations ticks is dues excused)
