use Rattle.std.proofs.Common.{◌∙◌, ap, sym}
use Rattle.std.specs.Option.{option_copied}
use Rattle.panel_rules.specs.Zones.{panel_of}
use Rattle.shown_causes.proofs.HeardCauses.{own_shown, told_shown}
use Rattle.shown_causes.proofs.HeardMasks.{no_item}
use Rattle.shown_causes.proofs.shown_causes.ShownCauses.can_be_shown.Goals as goal

pub returns-in-None : goal.returns-in-None
returns-in-None c kept operations timeline ticks less stands joined =
    absurd (no_item c.args.site.now.zones c.args.zone less (sym c.get.ensures ∙ ap option_copied c.in-None.is))

pub returns-then-plan-panel : goal.returns-then-plan-panel
returns-then-plan-panel c kept operations timeline ticks less stands joined =
    let at = sym c.get.ensures ∙ ap option_copied c.in-Some.is in
    own_shown c.args.site.now timeline kept operations ticks c.args.panel c.args.zone c.is_caused_now.result
    (sym c.if-plan-panel.true ∙ sym (ap panel_of at)) (c.is_caused_now.ensures c.args.site.now kept operations timeline ticks stands less)

pub returns-else-plan-panel : goal.returns-else-plan-panel
returns-else-plan-panel c kept operations timeline ticks less stands joined =
    let at = sym c.get.ensures ∙ ap option_copied c.in-Some.is in
    told_shown c.args.site.now timeline kept operations ticks c.args.panel c.args.zone c.is_alarm_heard.result
    (λ e. c.if-plan-panel.false (sym (e ∙ ap panel_of at))) (c.is_alarm_heard.ensures c.args.site.now kept operations timeline ticks stands joined at)
