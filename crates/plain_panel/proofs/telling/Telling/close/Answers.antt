use Rattle.std.proofs.Common.{◌∙◌, ◌-◌, ◌++◌, [], ap, sym}
use Rattle.std.specs.List.{cons_option}
use Rattle.panel_rules.specs.Moments.{tick_of}
use Rattle.plain_history.specs.Histories.{history}
use Rattle.panel_bridges.specs.ClosedSteps.{steps_upto}
use Rattle.panel_bridges.proofs.ClosedSteps.{steps_closed}
use Rattle.plain_panel.proofs.telling.Telling.close.Goals as goal

pub returns-clause-steps : goal.returns-clause-steps
returns-clause-steps c =
    let moments = history c.args.before.now in
    c.in_ok-push_some.ensures
    ∙ ap (λ xs. xs ++ cons_option c.in_ok-step.step []) c.requires.stands.steps
    ∙ ap (λ step. steps_upto c.args.site.now c.args.kept.now moments (tick_of moments - 1) ++ cons_option step []) c.in_ok-step.ensures
    ∙ sym (steps_closed c.args.site.now c.args.kept.now moments)
