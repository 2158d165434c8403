use Rattle.std.proofs.Common.{subst, sym}
use Rattle.site_types.specs.Valid.{IsPanel}
use Rattle.tick_units.specs.declared.task.Task.TheVariants.{Effect}
use Rattle.panel_rules.specs.Run.{facts_of}
use Rattle.panel_bridges.specs.FactMasks.{AreFacts}
use Rattle.plain_panel.proofs.SiteStates.{same_panel}
use Rattle.plain_panel.proofs.site_state.facts_now.Goals as goal

pub returns-in-Turned : goal.returns-in-Turned
returns-in-Turned c =
    λ kept done before valid stands panel is told.
    let same = same_panel c.args.moment.now c.in-Turned.panel panel _ Effect c.in-Turned.is told in
    subst (λ p. AreFacts c.args.site.now (facts_of c.args.site.now kept done p before) c.facts_at.result) same
    (c.facts_at.ensures kept done before valid stands (subst (λ p. IsPanel c.args.site.now p) (sym same) is))
