use Rattle.std.proofs.Common.{◌∙◌, refl, ap, sym, subst}
use Rattle.site_types.specs.Done.{mutes}
use Rattle.panel_conditions.specs.Parts.{signs_at}
use Rattle.panel_conditions.specs.Stands.{Settled, WatchesPoints, WatchesZones}
use Rattle.coincidence_rules.specs.Applied.{TellsLast}
use Rattle.panel_conditions.proofs.Unchanged.{drawn, shown_is, stays_now, unchanged_is}
use Rattle.panel_conditions.proofs.Watched.{points_noted}
use Rattle.panel_conditions.proofs.hold.Hold.show.Goals as goal

pub returns-then-is_unchanged-clause-shows : goal.returns-then-is_unchanged-clause-shows
returns-then-is_unchanged-clause-shows c site kept panel done taken tick h settled le since stays turned =
    let still = drawn c.args.self.now c.draw.new.self h stays c.draw.ensures.watches c.draw.ensures.moved in
    let signs = c.draw.ensures.signs tick settled le ∙ ap (signs_at c.args.now.0) (sym c.draw.ensures.watches) in
    let same = c.is_unchanged.ensures c.if-is_unchanged.true in
    let again = unchanged_is still.watches c.args.now.0 c.args.outside.now same still.stays turned in
    record {
      watches = record { zones = still.watches.zones; points = h.points; muted = h.muted };
      shown = again ∙ shown_is still.watches c.args.now.0 c.args.outside.now signs since;
      stays = stays_now still.watches c.args.now.0 c.args.outside.now _ still.stays.by again refl
          (ap (λ changed. record c.args.self.now.points { changed = changed }) same.missing) refl;
    }

pub returns-else-is_unchanged-clause-shows : goal.returns-else-is_unchanged-clause-shows
returns-else-is_unchanged-clause-shows c site kept panel done taken tick h settled le since stays turned =
    let still = drawn c.args.self.now c.draw.new.self h stays c.draw.ensures.watches c.draw.ensures.moved in
    let signs = c.draw.ensures.signs tick settled le ∙ ap (signs_at c.args.now.0) (sym c.draw.ensures.watches) in
    let rest = c.show_anew.ensures.rest in
    record {
      watches = record {
        zones = subst (λ z. WatchesZones site panel done taken z.watches.items) (sym rest.0) still.watches.zones;
        points = subst (WatchesPoints site kept panel done taken) (sym c.show_anew.ensures.points) (points_noted h.points);
        muted = subst (TellsLast (mutes panel) done) (sym rest.1) h.muted;
      };
      shown = c.show_anew.ensures.shown ∙ shown_is still.watches c.args.now.0 c.args.outside.now signs since;
      stays = stays_now still.watches c.args.now.0 c.args.outside.now c.show_anew.new.self still.stays.by c.show_anew.ensures.shown rest.0
          c.show_anew.ensures.points rest.1;
    }

pub returns-else-is_unchanged-clause-settled : goal.returns-else-is_unchanged-clause-settled
returns-else-is_unchanged-clause-settled c tick settled le =
    subst (Settled c.args.now.0) (sym c.show_anew.ensures.rest.0) (c.draw.ensures.settled tick settled le)
