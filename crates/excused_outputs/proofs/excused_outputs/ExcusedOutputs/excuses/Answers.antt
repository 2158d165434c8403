use Rattle.std.proofs.Common.{◌∙◌, refl, rules, take}
use Rattle.std.proofs.lemmas.Option.{slice_get_within}
use Rattle.panel_rules.specs.Outputs.{is_sounder_kind}
use Rattle.blocked_points.specs.Operations.{done_newest_first}
use Rattle.excused_outputs.specs.Behind.{silenced_behind}
use Rattle.excused_outputs.proofs.InForce.{excused_is, no_sounder, off_first, silenced_last}
use Rattle.excused_outputs.proofs.excused_outputs.ExcusedOutputs.excuses.Goals as goal

pub returns-then-is_off : goal.returns-then-is_off
returns-then-is_off c site kept operations tick at stands =
    let place = c.args.place in
    let output = c.args.output.now in
    let excused = c.args.self.now in
    let behind = silenced_behind output.panel (done_newest_first (take excused.in_force operations)) in
    off_first c.is_off.result _ c.if-is_off.true
    ∙ excused_is site kept operations tick excused stands place output at c.is_off.result (is_sounder_kind output.kind) behind
    (c.is_off.ensures ∙ stands.settings.off.each place (slice_get_within site.outputs place output at)) refl refl

pub returns-then-is_sounder : goal.returns-then-is_sounder
returns-then-is_sounder c site kept operations tick at stands =
    let place = c.args.place in
    let output = c.args.output.now in
    let excused = c.args.self.now in
    silenced_last c.is_off.result c.is_sounder.result c.is_silenced.result c.if-is_off.false c.if-is_sounder.true
    ∙ excused_is site kept operations tick excused stands place output at c.is_off.result c.is_sounder.result c.is_silenced.result
    (c.is_off.ensures ∙ stands.settings.off.each place (slice_get_within site.outputs place output at)) c.is_sounder.ensures
    (c.is_silenced.ensures ∙ stands.settings.silenced.each output.panel (search rules))

pub returns-else-is_sounder : goal.returns-else-is_sounder
returns-else-is_sounder c site kept operations tick at stands =
    let place = c.args.place in
    let output = c.args.output.now in
    let excused = c.args.self.now in
    let behind = silenced_behind output.panel (done_newest_first (take excused.in_force operations)) in
    no_sounder c.is_off.result c.is_sounder.result behind c.if-is_off.false c.if-is_sounder.false
    ∙ excused_is site kept operations tick excused stands place output at c.is_off.result c.is_sounder.result behind
    (c.is_off.ensures ∙ stands.settings.off.each place (slice_get_within site.outputs place output at)) c.is_sounder.ensures refl
