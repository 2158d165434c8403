use Rattle.std.proofs.Common.{◌∷◌, refl, sym, subst, arith}
use Rattle.site_types.specs.Done.{mutes}
use Rattle.panel_conditions.specs.Stands.{WatchesPoints}
use Rattle.coincidence_rules.specs.Applied.{TellsLast}
use Rattle.panel_conditions.specs.Turns.{latest_tick}
use Rattle.panel_conditions.proofs.Unchanged.{shown_in, stays_done}
use Rattle.panel_conditions.proofs.Drawn.{settled_after}
use Rattle.panel_conditions.proofs.Watched.{zones_after, points_after, muted_after}
use Rattle.panel_conditions.proofs.Turned.{shows_after, few_after}
use Rattle.panel_conditions.proofs.hold.Hold.apply.Goals as goal

pub returns : goal.returns
returns c site kept panel done turns h may = record {
  watches = record {
    zones = zones_after site panel done _ c.args.operation.now c.args.at c.args.self.now.zones.watches.items c.apply.new.self.watches.items
        may.next.since c.apply.ensures.watches h.watches.zones;
    points =
        subst (WatchesPoints site kept panel (record { tick = c.args.at.0; panel = panel; operation = c.args.operation.now } ∷ done) _)
        (sym c.apply-2.ensures)
        (points_after site kept panel done _ c.args.at may.next.since c.args.self.now.points h.watches.points c.args.operation.now);
    muted =
        subst (TellsLast (mutes panel) (record { tick = c.args.at.0; panel = panel; operation = c.args.operation.now } ∷ done))
        (sym c.raise_if.ensures)
        (muted_after panel done c.args.operation.now c.args.at c.is_mute.result c.args.self.now.muted c.is_mute.ensures may.next.since
        h.watches.muted);
  };
  shows = shows_after site kept panel done turns (record { tick = c.args.at.0; panel = panel; operation = c.args.operation.now }) c.args.self.now h
      may.turned;
  settled = settled_after (latest_tick turns) c.args.operation.now c.args.at c.args.self.now.zones c.apply.new.self c.apply.ensures.watches
      c.apply.ensures.changed c.apply.ensures.moved h.settled;
  stays =
      stays_done done (record { tick = c.args.at.0; panel = panel; operation = c.args.operation.now }) c.args.at c.args.self.now _ refl
      c.apply.ensures.moved refl
      (let stamp = shown_in site kept panel done turns c.args.self.now h in omega (arith, stamp, may.turned)) h.stays;
  rising = h.rising;
  few = few_after site kept panel done turns (record { tick = c.args.at.0; panel = panel; operation = c.args.operation.now }) c.args.self.now h may.turned;
}
