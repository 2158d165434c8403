use Rattle.std.proofs.Common.{◌≡◌, true, false, arith}
use Rattle.supply_monitor.proofs.Turns.{turned_bad, turned_sound}
use Rattle.supply_monitor.proofs.watch.Watch.turn.Goals as goal

pub returns-clause-keeps : goal.returns-clause-keeps
returns-clause-keeps c kind calls k before =
    let bad : c.args.self.bad ≡ true = grind arith in
    rw c.saturating_sub.ensures (turned_bad c.args.wait c.args.tick c.unwrap_or-since.result kind calls c.args.self k before bad
    c.unwrap_or-since.ensures)

pub returns-then-not-self-clause-keeps : goal.returns-then-not-self-clause-keeps
returns-then-not-self-clause-keeps c kind calls k before =
    let sound : c.args.self.bad ≡ false = grind arith in
    turned_sound c.args.wait c.args.tick.0 kind calls c.args.self k sound
