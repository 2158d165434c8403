use Rattle.std.proofs.Common.{arith}
use Rattle.panel_links.specs.Stands.{kept_in}
use Rattle.panel_links.proofs.Places.{received}
use Rattle.panel_links.proofs.ring.Ring.receive.Goals as goal

pub returns-clause-words : goal.returns-clause-words
returns-clause-words c a o ha ho =
    let p1 = c.take.ensures.panels in
    let p2 = c.take-2.ensures.panels in
    let p3 = c.take-3.ensures.panels in
    received c.args.at a o c.args.frame.now.group c.args.frame.now.words
    (kept_in c.args.self.now a o) (kept_in c.take.new.self a o) (kept_in c.take-2.new.self a o) (kept_in c.take-3.new.self a o)
    (kept_in c.take-4.new.self a o) ho.0
    (c.take.ensures.words a o ha ho)
    (c.take-2.ensures.words a o (ha.0, omega (arith, ha.1)) (ho.0, omega (arith, ho.1)))
    (c.take-3.ensures.words a o (ha.0, omega (arith, ha.1)) (ho.0, omega (arith, ho.1)))
    (c.take-4.ensures.words a o (ha.0, omega (arith, ha.1)) (ho.0, omega (arith, ho.1)))
