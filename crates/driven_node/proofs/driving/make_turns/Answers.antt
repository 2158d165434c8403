use Rattle.std.proofs.Common.{false}
use Rattle.site_types.specs.Changes.{nothing_retained}
use Rattle.driven_node.proofs.Driven.{few_now, may_turn, turns, turns_run}
use Rattle.driven_node.proofs.driving.make_turns.Goals as goal

pub turns-requires-clause-may : goal.turns-requires-clause-may
turns-requires-clause-may c = may_turn c.args.own.now c.requires c.if-not-own.false

pub returns : goal.returns
returns c =
    let own = c.args.own.now in
    let h = c.requires in
    let begun = c.if-not-own.false in
    let made = c.turns.ensures.turns h.site own.panel nothing_retained h.history h.stands h.keeps (turns_run own h begun false) (few_now own h begun) in
    turns own h begun _ _ _ c.turns.result made c.turns.ensures.leaves.stands c.turns.ensures.leaves.same
