use Rattle.std.proofs.Common.{◌∙◌, ◌-◌, sym, ap, arith}
use Rattle.std.proofs.lemmas.Option.{slice_get-get_or}
use Rattle.std.specs.Option.{option_copied}
use Rattle.site_types.proofs.ValidSites.{output_at}
use Rattle.blocked_points.specs.Operations.{done_newest_first}
use Rattle.panel_audit.proofs.OutputCauses.{heard_there, none_baseless, off_has_none, on_may_have}
use Rattle.panel_audit.proofs.baseless.is_baseless.Goals as goal

pub returns-in-None : goal.returns-in-None
returns-in-None c kept operations timeline ticks causes joined free heard stand joins are =
    none_baseless c.args.site.now kept (done_newest_first operations) timeline ticks c.args.faces.now are c.args.place
    (sym c.get.ensures ∙ ap option_copied c.in-None.is)

pub returns-then-is_on : goal.returns-then-is_on
returns-then-is_on c kept operations timeline ticks causes joined free heard stand joins are =
    let site = c.args.site.now in
    let done = done_newest_first operations in
    let output = c.in-Some.output.now in
    let is = sym c.get.ensures ∙ ap option_copied c.in-Some.is in
    let panel = (output_at site c.requires c.args.place output is).panel in
    let few = c.requires.forms.panels.1 in
    let some = panel.0 in
    let low = panel.1 in
    let size = heard.size in
    let at = slice_get-get_or c.args.heard.now (output.panel - 1) _ (omega (arith, some, low, few, size)) in
    let there = heard_there site kept operations timeline ticks causes joined c.args.faces.now c.args.heard.now _ output c.is_on.result heard stand joins
    some at c.if-is_on.true c.is_on.ensures in
    on_may_have site kept done timeline ticks c.args.faces.now are c.args.place output is c.is_on.result c.can_be_on.result c.if-is_on.true
    c.is_on.ensures (c.can_be_on.ensures site kept operations timeline ticks _ c.args.place c.requires free is there.0 there.1)

pub returns-else-is_on : goal.returns-else-is_on
returns-else-is_on c kept operations timeline ticks causes joined free heard stand joins are =
    let site = c.args.site.now in
    let done = done_newest_first operations in
    let output = c.in-Some.output.now in
    let is = sym c.get.ensures ∙ ap option_copied c.in-Some.is in
    off_has_none site kept done timeline ticks c.args.faces.now are c.args.place output is c.is_on.result c.if-is_on.false c.is_on.ensures
