use Rattle.std.proofs.Common.{[], refl}
use Rattle.panel_node.specs.Told.{told_by_frames}
use Rattle.panel_node.proofs.KeptWords.{at_first}
use Rattle.panel_node.proofs.node.Node.open.Goals as goal

pub returns-clause-stands : goal.returns-clause-stands
returns-clause-stands c =
    record {
      valid = c.requires.valid;
      same = refl;
      own = refl;
      plan = c.requires.plan;
      tick = refl;
      parts = c.in_ok-parts.ensures (told_by_frames c.args.site c.args.kept.now [] c.args.panel []);
      words = at_first c.args.site.panels c.args.panel c.new-words.result [] c.new-words.ensures;
      events = tt;
      own_events = tt;
      frames = tt;
      desk = c.new-2.ensures c.args.site c.args.kept.now;
      settings = c.settings_at_opening-settings.ensures.in_force;
      sized = c.settings_at_opening-settings.ensures.sized;
      things = c.settings_at_opening-settings.ensures.no_strange_bits;
      counts = c.at_opening.ensures c.args.site;
    }
