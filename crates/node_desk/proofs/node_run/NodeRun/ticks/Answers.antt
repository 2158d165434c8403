use Rattle.std.proofs.Common.{◌∙◌, ap}
use Rattle.panel_rules.specs.Moments.{tick_of}
use Rattle.run_text.proofs.TickTimes.{tick_moments}
use Rattle.node_desk.proofs.node_run.NodeRun.ticks.Goals as goal

pub returns : goal.returns
returns c site panel kept history ticks h = c.now.ensures site panel kept history h.node ∙ ap tick_of h.befell ∙ tick_moments ticks
