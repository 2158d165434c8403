use Rattle.std.proofs.Common.{◌++◌, ◌∙◌, take, subst}
use Rattle.std.proofs.lemmas.List.{take_all}
use Rattle.answer_lanes.specs.Blocks.{block_finding_at}
use Rattle.answer_lanes.specs.Runs.{all_items}
use Rattle.panel_conditions.specs.Changes.{WatchesPointsMore, WatchesZonesMore}
use Rattle.panel_conditions.specs.Stands.{WatchesPoints, WatchesZones}
use Rattle.panel_conditions.proofs.Runs.{run_more}
use Rattle.panel_conditions.proofs.hold.take_runs.Goals as goal

pub loop-run-preserved : goal.loop-run-preserved
loop-run-preserved c =
    let l = c.loop-run in
    let runs = c.args.runs.now in
    let before = all_items block_finding_at (take l.run-index runs) in
    let both = c.take_run.ensures in
    record {
      points = λ site kept panel done taken h.
          run_more block_finding_at (λ found. WatchesPoints site kept panel done found c.take_run.new.points) taken runs l.run-index _ c.loop-run-test.true
          (both.points.watches site kept panel done (taken ++ before) (l.invariant.points site kept panel done taken h));
      zones = λ site panel done taken h.
          run_more block_finding_at (λ found. WatchesZones site panel done found c.take_run.new.zones.watches.items) taken runs l.run-index _ c.loop-run-test.true
          (both.zones.watches site panel done (taken ++ before) (l.invariant.zones site panel done taken h));
      settled = λ site panel done taken tick h settled.
          both.zones.settled site panel done (taken ++ before) tick (l.invariant.zones site panel done taken h)
          (l.invariant.settled site panel done taken tick h settled);
      moved = both.zones.moved ∙ l.invariant.moved;
      off = (both.points.off.0 ∙ l.invariant.off.0, both.points.off.1 ∙ l.invariant.off.1);
      missing = λ same.
          let now = both.points.missing same in
          let before = l.invariant.missing now.0 in
          (before.0, now.1 ∙ before.1);
    }

pub returns-clause-points : goal.returns-clause-points
returns-clause-points c =
    let past = c.loop-run-test.false in
    subst (λ l. WatchesPointsMore c.args.points.now (all_items block_finding_at l) c.loop-run.points)
    (take_all c.loop-run.run-index c.args.runs.now past) c.loop-run.invariant.points

pub returns-clause-zones : goal.returns-clause-zones
returns-clause-zones c =
    let past = c.loop-run-test.false in
    subst (λ l. WatchesZonesMore c.args.zones.now (all_items block_finding_at l) c.loop-run.zones)
    (take_all c.loop-run.run-index c.args.runs.now past) c.loop-run.invariant.zones
