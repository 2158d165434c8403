use Rattle.std.proofs.Common.{◌∙◌, ap, arith}
use Rattle.panel_rules.specs.Moments.{tick_of}
use Rattle.panel_rules.specs.Words.{latest_word, ring_calls}
use Rattle.panel_rules.specs.Run.{tells_fault}
use Rattle.plain_panel.specs.declared.indications.Indications.{Indications}
use Rattle.panel_bridges.proofs.RingStates.{took_same}
use Rattle.plain_panel.proofs.network.Network.relay.Goals as goal

pub returns-then-panel-self-clause-stands : goal.returns-then-panel-self-clause-stands
returns-then-panel-self-clause-stands c site kept done before stands tick =
    let size = stands.size in
    record {
      size = stands.size;
      ring =
          took_same site.panels c.args.panel (ring_calls site kept done (tells_fault site kept done) before) c.turn.new.self c.args.now.0
          (tick_of before) _ (latest_word site kept done (tells_fault site kept done) c.args.panel before) tick
          (ap (λ (o : Indications). o.word) c.indications.ensures ∙ stands.words c.args.panel (c.if-panel-ge1.true, omega arith))
          (c.turn.ensures.stands site.panels (ring_calls site kept done (tells_fault site kept done) before) stands.ring);
      words = stands.words;
      faults = stands.faults;
      news = stands.news;
    }
