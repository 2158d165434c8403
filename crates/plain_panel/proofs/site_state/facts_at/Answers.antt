use Rattle.plain_panel.proofs.site_state.facts_at.Goals as goal

pub returns-then-panel-site : goal.returns-then-panel-site
returns-then-panel-site c = λ kept done before valid stands is. c.facts.ensures c.args.site.now kept done before valid stands
