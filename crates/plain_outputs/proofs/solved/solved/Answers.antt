use Rattle.std.proofs.Common.{◌∙◌, add-one}
use Rattle.marker_table.specs.Equations.{values_of}
use Rattle.panel_rules.specs.Markers.{solved as solved_to}
use Rattle.panel_bridges.proofs.MaskEquations.{equation_same}
use Rattle.plain_outputs.proofs.solved.solved.Goals as goal

pub loop-round-init : goal.loop-round-init
loop-round-init c rules are m = c.none-values.ensures m

pub loop-round-preserved : goal.loop-round-preserved
loop-round-preserved c rules are m =
    rw add-one (c.evaluated-values.ensures m ∙ equation_same c.args.site.now c.requires rules c.args.facts.now are (values_of c.loop-round.values)
    (solved_to c.args.site.now rules c.loop-round._round) (c.loop-round.invariant rules are) m)
