use Rattle.std.proofs.Common.{◌∷◌, ◌∙◌, ℕ, ap, subst, sym}
use Rattle.tick_units.specs.declared.task.Task.TheVariants.{Drive}
use Rattle.site_types.specs.Valid.{IsPanel}
use Rattle.panel_rules.specs.Moments.{Turned}
use Rattle.panel_rules.specs.Outputs.{is_quiet, is_sounder_kind, panel_of_output}
use Rattle.plain_history.specs.Histories.{all_done}
use Rattle.plain_outputs.proofs.Joining.{where_true}
use Rattle.plain_outputs.proofs.Requesting.{panel_where}
use Rattle.plain_outputs.proofs.acting.is_silenced.Goals as goal

pub returns-then-is_sounder : goal.returns-then-is_sounder
returns-then-is_sounder c facts kept history are at =
    let turn = Turned (panel_of_output c.args.settings.now.site.now c.args.output) Drive ∷ history in
    where_true _ _ _ (sym c.is_sounder.ensures ∙ c.if-is_sounder.true)
    (c.is_quiet.ensures facts kept turn are at ∙ ap (λ (panel : ℕ). is_quiet c.args.settings.now.site.now facts kept (all_done c.args.settings.now.done.now) panel turn)
    c.panel_of_output.ensures)

pub is_quiet-requires : goal.is_quiet-requires
is_quiet-requires c =
    let there = panel_where c.args.settings.now.site.now c.requires c.args.output (λ o. is_sounder_kind o.kind) (sym c.is_sounder.ensures ∙ c.if-is_sounder.true)
    in
    record { valid = c.requires; panel = subst (λ (panel : ℕ). IsPanel c.args.settings.now.site.now panel) (sym c.panel_of_output.ensures) there }
