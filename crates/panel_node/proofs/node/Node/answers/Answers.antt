use Rattle.std.proofs.Common.{◌∙◌}
use Rattle.node_rules.specs.Histories.{befallen}
use Rattle.panel_core.proofs.Answered.{answers_told}
use Rattle.panel_node.proofs.node.Node.answers.Goals as goal

pub returns : goal.returns
returns c site panel kept history h = c.answers.ensures ∙ answers_told site kept (befallen history) c.args.self.now.desk h.desk
