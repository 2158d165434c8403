use Rattle.std.proofs.Common.{◌≡◌, subst}
use Rattle.answer_lanes.specs.Blocks.{block_finding_at}
use Rattle.answer_lanes.specs.Runs.{all_items}
use Rattle.panel_conditions.specs.Changes.{WatchesPointsMore, WatchesZonesMore, moved_from}
use Rattle.panel_conditions.proofs.hold.Hold.take_turn.Goals as goal

pub returns-in-Some-clause-watches : goal.returns-in-Some-clause-watches
returns-in-Some-clause-watches c site kept panel done taken h =
    let found : all_items block_finding_at c.in-Some.runs.now ≡ moved_from c.args.findings.now = c.in-Some.ensures.shown.moved in
    record {
      zones = subst (λ l. WatchesZonesMore c.args.self.now.zones l c.take_runs.new.zones) found c.take_runs.ensures.zones site panel done taken h.zones;
      points =
          subst (λ l. WatchesPointsMore c.args.self.now.points l c.take_runs.new.points) found c.take_runs.ensures.points site kept panel done taken
          h.points;
      muted = h.muted;
    }

pub returns-in-Some-clause-settled : goal.returns-in-Some-clause-settled
returns-in-Some-clause-settled c site kept panel done taken tick h settled = c.take_runs.ensures.settled site panel done taken tick h.zones settled
