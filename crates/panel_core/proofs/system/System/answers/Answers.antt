use Rattle.std.proofs.Common.{◌∙◌}
use Rattle.panel_core.proofs.Answered.{answers_told}
use Rattle.panel_core.proofs.system.System.answers.Goals as goal

pub returns : goal.returns
returns c site kept before h = c.answers.ensures ∙ answers_told site kept before c.args.self.now.desk h.desk
