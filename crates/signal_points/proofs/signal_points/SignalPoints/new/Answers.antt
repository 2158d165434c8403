use Rattle.std.proofs.Common.{ap, refl, replicate, ◌∙◌}
use Rattle.signal_points.proofs.TicksTaken.{runs_first}
use Rattle.signal_points.proofs.signal_points.SignalPoints.new.Goals as goal

pub returns : goal.returns
returns c operations valid in_order = record {
  round = refl;
  states = c.in_ok-states.ensures operations valid in_order;
  runs =
      runs_first c.args.site.now c.args.kept.now operations c.none.result c.in_ok-runs.runs.items valid
      (c.in_ok-runs.ensures.items_if_clones_equal (λ y e. e) ∙ ap (λ n. replicate n c.none.result) c.len.ensures) c.none.ensures;
}
