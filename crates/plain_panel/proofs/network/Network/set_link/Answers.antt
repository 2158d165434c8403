use Rattle.panel_rules.specs.Words.{ring_calls}
use Rattle.panel_rules.specs.Run.{tells_fault}
use Rattle.plain_panel.proofs.network.Network.set_link.Goals as goal

pub returns-then-link-le8-clause-stands : goal.returns-then-link-le8-clause-stands
returns-then-link-le8-clause-stands c site kept done before stands =
    record {
      size = stands.size;
      ring = c.set_link.ensures.stands site.panels (ring_calls site kept done (tells_fault site kept done) before) stands.ring;
      words = stands.words;
      faults = stands.faults;
      news = stands.news;
    }
