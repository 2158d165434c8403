use Rattle.std.proofs.Common.{arith}
use Rattle.shown_causes.proofs.shown_causes.ShownCauses.facts_heard.Goals as goal

pub returns : goal.returns
returns c kept operations timeline ticks stands joined =
    let panels = c.requires.site.forms.panels.1 in
    record {
      released = c.zones_heard.ensures kept operations timeline ticks stands joined;
      by_hand = c.calls_heard.ensures kept operations timeline ticks stands joined;
      faults = λ source p. (let high = p.1 in
          c.faults_heard.ensures c.args.site.now kept operations timeline ticks stands joined source p.0 (omega (arith, high, panels)));
    }
