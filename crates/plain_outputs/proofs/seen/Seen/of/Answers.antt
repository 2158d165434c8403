use Rattle.std.proofs.Common.{refl}
use Rattle.panel_rules.specs.Markers.{hand_facts}
use Rattle.panel_bridges.proofs.MaskEquations.{hand_facts_are}
use Rattle.plain_outputs.proofs.seen.Seen.of.Goals as goal

pub returns-then-is_effect : goal.returns-then-is_effect
returns-then-is_effect c facts_of history at are = record {
  is = refl;
  tick = at;
  solved = λ panel there is. record {
    released = (are panel there is).released;
    values = c.solved.ensures (facts_of panel history) (are panel there is);
    by_hand = c.solved-then-is_effect.ensures (hand_facts (facts_of panel history))
        (hand_facts_are c.args.site.now (facts_of panel history) c.args.facts.now c.by_hand.result c.by_hand.ensures.zones c.by_hand.ensures.manual
        c.by_hand.ensures.faults (are panel there is));
  };
}
