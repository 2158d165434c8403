use Rattle.std.proofs.Common.{◌+◌, [], refl, arith}
use Rattle.hold_calls.specs.Told.{told_in_ring}
use Rattle.panel_core.proofs.Whole.{panel_added, panels_counted}
use Rattle.panel_core.proofs.system.System.open.Goals as goal

pub loop-before-preserved : goal.loop-before-preserved
loop-before-preserved c =
    let pushed = c.in_ok-push.ensures.items in
    record {
      count =
          panels_counted c.loop-before.panels.items c.push.new.self.items c.in_ok-new.field-0 c.loop-before.before pushed
          c.loop-before.invariant.count;
      each =
          λ place parts is. panel_added c.args.site c.args.kept.now c.loop-before.panels.items c.push.new.self.items c.in_ok-new.field-0
          c.loop-before.before pushed c.loop-before.invariant.count c.loop-before.invariant.each
          (c.in_ok-new.ensures (told_in_ring c.args.site c.args.kept.now [] (c.loop-before.before + 1))) place parts is;
    }

pub returns : goal.returns
returns c =
    record {
      valid = c.requires.valid;
      same = refl;
      plan = c.requires.plan;
      tick = refl;
      count = (let count = c.loop-before.invariant.count in omega (arith, count));
      each = c.loop-before.invariant.each;
      ring = c.new-ring.ensures.stands;
      events = tt;
      desk = c.new-2.ensures c.args.site c.args.kept.now;
      settings = c.settings_at_opening-settings.ensures.in_force;
      sized = c.settings_at_opening-settings.ensures.sized;
      own = c.settings_at_opening-settings.ensures.no_strange_bits;
      counts = c.at_opening.ensures c.args.site;
    }
