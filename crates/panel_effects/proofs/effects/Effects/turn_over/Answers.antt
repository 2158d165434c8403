use Rattle.marker_table.specs.Equations.{values_of}
use Rattle.panel_effects.specs.Stands.{facts_at_effect}
use Rattle.panel_effects.proofs.Changed.{rose_both, rose_by_facts}
use Rattle.panel_effects.proofs.Turned.{after_turn, hand_solved}
use Rattle.panel_effects.proofs.effects.Effects.turn_over.Goals as goal

pub returns-clause-stands : goal.returns-clause-stands
returns-clause-stands g c site facts before is h are =
    after_turn site facts c.args.panel before _ are (c.solve_changed.ensures.solution site is h.normal)
    (hand_solved site c.args.self.now.facts c.args.facts.now c.by_hand-hand_before.result c.by_hand-hand.result (values_of c.args.self.now.manual)
    (values_of c.solve_changed-2.new.values) c.by_hand-hand_before.ensures c.by_hand-hand.ensures (c.solve_changed-2.ensures.solution site is) h.manual)
    (c.requests-self.ensures site is)

pub returns-clause-steps : goal.returns-clause-steps
returns-clause-steps g c site is =
    rose_both site c.args.self.now.facts c.args.facts.now c.by_hand-hand_before.result c.by_hand-hand.result c.args.steps.now c.solve_changed.new.steps
    c.solve_changed-2.new.steps c.by_hand-hand_before.ensures c.by_hand-hand.ensures (c.solve_changed.ensures.steps site is)
    (c.solve_changed-2.ensures.steps site is)

pub returns-clause-ruled : goal.returns-clause-ruled
returns-clause-ruled g c site facts before is h are =
    rose_by_facts site is.table.valid (facts_at_effect facts c.args.panel before) (facts c.args.panel before) c.args.self.now.facts c.args.facts.now
    c.args.steps.now c.solve_changed-2.new.steps h.masks are
    (rose_both site c.args.self.now.facts c.args.facts.now c.by_hand-hand_before.result c.by_hand-hand.result c.args.steps.now c.solve_changed.new.steps
    c.solve_changed-2.new.steps c.by_hand-hand_before.ensures c.by_hand-hand.ensures (c.solve_changed.ensures.steps site is)
    (c.solve_changed-2.ensures.steps site is))
