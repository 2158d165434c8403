use Rattle.std.proofs.Common.{◌∙◌, ap}
use Rattle.tick_units.specs.Lane.{LaneState}
use Rattle.site_types.specs.declared.answer.Answer.{Answer}
use Rattle.coincidence_rules.specs.declared.finding.Finding.{Finding}
use Rattle.panel_core.proofs.Shows.{asked_panel}
use Rattle.panel_core.proofs.system.System.taken.Goals as goal

pub returns-in-Decide : goal.returns-in-Decide
returns-in-Decide c site kept before h =
    let p = asked_panel site kept before c.args.self.now c.args.panel c.index-parts.result.now c.requires h c.index-parts.ensures in
    rw c.in-Decide.is (c.taken_count.ensures ∙ ap (λ (l : LaneState Answer). l.taken) p.answers)

pub returns-in-Hold : goal.returns-in-Hold
returns-in-Hold c site kept before h =
    let p = asked_panel site kept before c.args.self.now c.args.panel c.index-parts.result.now c.requires h c.index-parts.ensures in
    rw c.in-Hold.is (c.taken_count-in-Hold.ensures ∙ ap (λ (l : LaneState Finding). l.taken) p.findings)
