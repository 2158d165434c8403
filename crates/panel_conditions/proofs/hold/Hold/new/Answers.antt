use Rattle.std.proofs.Common.{[], sym, subst, arith}
use Rattle.site_types.specs.Done.{mutes}
use Rattle.panel_conditions.specs.Stands.{Shows}
use Rattle.coincidence_rules.specs.Applied.{TellsLast}
use Rattle.panel_conditions.proofs.Unchanged.{stays_first}
use Rattle.coincidence_rules.proofs.LastDone.{told_never}
use Rattle.panel_conditions.proofs.Drawn.{settled_first}
use Rattle.panel_conditions.proofs.Firsts.{zones_first, shows_nothing}
use Rattle.panel_conditions.proofs.hold.Hold.new.Goals as goal

pub returns : goal.returns
returns c valid = record {
  watches = record {
    zones = zones_first c.args.site.now c.args.panel c.in_ok-zones.zones.watches.items c.in_ok-zones.ensures.0;
    points = c.in_ok-points.ensures valid;
    muted = subst (TellsLast (mutes c.args.panel) []) (sym c.never.ensures) (told_never (mutes c.args.panel));
  };
  shows =
      subst (Shows c.args.site.now c.args.kept.now c.args.panel [] []) (sym c.nothing.ensures)
      (shows_nothing c.args.site.now c.args.kept.now c.args.panel);
  settled = settled_first c.args.site.now c.args.panel c.in_ok-zones.zones c.in_ok-zones.ensures.0 c.in_ok-zones.ensures.1;
  stays = stays_first _ c.nothing.ensures;
  rising = tt;
  few = omega arith;
}
