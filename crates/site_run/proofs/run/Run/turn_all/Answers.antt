use Rattle.std.proofs.Common.{◌∙◌, ap, sym}
use Rattle.tick_units.specs.Orders.{canonical_seats}
use Rattle.site_types.specs.declared.site.Site.{Site}
use Rattle.site_run.proofs.Stood.{may_turn}
use Rattle.site_run.proofs.run.Run.turn_all.Goals as goal

pub turns-requires-clause-may : goal.turns-requires-clause-may
turns-requires-clause-may g c = rw c.in-Some.is at (may_turn c.args.self.now c.requires.may)

pub turns-requires-in-None-clause-may : goal.turns-requires-in-None-clause-may
turns-requires-in-None-clause-may g c = rw c.in-None.is at (may_turn c.args.self.now c.requires.may)

pub turns-requires-in-None-clause-form : goal.turns-requires-in-None-clause-form
turns-requires-in-None-clause-form g c =
    let r = c.requires.may in
    r.stands.canonical ∙ ap (λ (s : Site). canonical_seats s.panels) (sym r.stands.system.same)
