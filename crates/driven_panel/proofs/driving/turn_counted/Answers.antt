use Rattle.std.proofs.Common.{refl}
use Rattle.site_types.specs.Changes.{nothing_retained}
use Rattle.driven_panel.proofs.Driven.{ends, few_ticks, may_turn, turns_run}
use Rattle.driven_panel.proofs.driving.turn_counted.Goals as goal

pub returns : goal.returns
returns g c =
    let h = c.requires.begun in
    let kept = c.turns.ensures.turns h.site nothing_retained h.before h.after.stands h.after.keeps
    (turns_run c.args.panels c.args.own.now c.args.order.now h c.requires.ordered) (few_ticks c.args.panels c.args.own.now h) in
    ends c.args.panels c.args.own.now _ c.args.order.now _ h c.requires.ordered kept c.turns.ensures.stands c.turns.ensures.same refl

pub turns-requires-clause-may : goal.turns-requires-clause-may
turns-requires-clause-may g c = may_turn c.args.panels c.args.own.now c.args.order.now c.requires.begun c.requires.ordered
