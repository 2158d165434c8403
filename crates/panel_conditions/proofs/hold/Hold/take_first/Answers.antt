use Rattle.std.proofs.Common.{◌≡◌, ◌∙◌, refl, ap, subst}
use Rattle.answer_lanes.specs.Blocks.{block_finding_at}
use Rattle.answer_lanes.specs.Runs.{all_items}
use Rattle.panel_conditions.specs.Changes.{WatchesPointsMore, WatchesZonesMore, moved_from}
use Rattle.panel_conditions.proofs.hold.Hold.take_first.Goals as goal

pub returns-clause-watches : goal.returns-clause-watches
returns-clause-watches c site kept panel done taken h =
    let found : all_items block_finding_at c.as_slice.result.now ≡ moved_from c.args.findings.now =
    ap (all_items block_finding_at) c.as_slice.ensures.value ∙ c.take_turn.ensures.moved in
    record {
      zones = subst (λ l. WatchesZonesMore c.args.self.now.zones l c.take_runs.new.zones) found c.take_runs.ensures.zones site panel done taken h.zones;
      points =
          subst (λ l. WatchesPointsMore c.args.self.now.points l c.take_runs.new.points) found c.take_runs.ensures.points site kept panel done taken
          h.points;
      muted = h.muted;
    }

pub returns-clause-settled : goal.returns-clause-settled
returns-clause-settled c site kept panel done taken tick h settled = c.take_runs.ensures.settled site panel done taken tick h.zones settled

pub returns-clause-kept : goal.returns-clause-kept
returns-clause-kept c = record {
  shown = refl;
  missing = c.take_runs.ensures.missing;
  moved = c.take_runs.ensures.moved;
  off = c.take_runs.ensures.off.0;
  zone_off = c.take_runs.ensures.off.1;
  muted = refl;
}
