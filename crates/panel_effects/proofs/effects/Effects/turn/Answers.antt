use Rattle.cause_effect.proofs.Changing.{equal_facts}
use Rattle.panel_effects.specs.Stands.{facts_at_effect}
use Rattle.panel_effects.proofs.Changed.{no_step, rose_by_facts}
use Rattle.panel_effects.proofs.Turned.{after_same}
use Rattle.panel_effects.proofs.effects.Effects.turn.Goals as goal

pub returns-then-eq-clause-stands : goal.returns-then-eq-clause-stands
returns-then-eq-clause-stands g c site facts before is h are =
    let kept = after_same site facts c.args.panel before c.args.self.now c.args.facts.now (equal_facts c.args.self.now.facts c.args.facts.now c.if-eq.ensures) h are in
    record { masks = kept.masks; normal = kept.normal; manual = kept.manual; requests = kept.requests }

pub returns-then-eq-clause-steps : goal.returns-then-eq-clause-steps
returns-then-eq-clause-steps g c site is =
    no_step site c.args.self.now.facts c.args.facts.now c.args.steps.now (equal_facts c.args.self.now.facts c.args.facts.now c.if-eq.ensures)

pub returns-then-eq-clause-ruled : goal.returns-then-eq-clause-ruled
returns-then-eq-clause-ruled g c site facts before is h are =
    rose_by_facts site is.table.valid (facts_at_effect facts c.args.panel before) (facts c.args.panel before) c.args.self.now.facts c.args.facts.now
    c.args.steps.now c.args.steps.now h.masks are
    (no_step site c.args.self.now.facts c.args.facts.now c.args.steps.now (equal_facts c.args.self.now.facts c.args.facts.now c.if-eq.ensures))
