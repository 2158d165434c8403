use Rattle.panel_node.proofs.OwnTurns.{first_turn, may_turn_then, then_turn}
use Rattle.panel_node.proofs.node.Node.own_turns.Goals as goal

pub decide_turn-requires : goal.decide_turn-requires
decide_turn-requires c = may_turn_then c.requires (first_turn c.poll_turn.ensures.turn) c.requires.run.0.0.0.0.0.0

pub supply_turn-requires : goal.supply_turn-requires
supply_turn-requires c = may_turn_then c.requires (then_turn (first_turn c.poll_turn.ensures.turn) c.decide_turn.ensures.turn) c.requires.run.0.0.0.0.0

pub desk_turn-requires : goal.desk_turn-requires
desk_turn-requires c =
    let decided = then_turn (first_turn c.poll_turn.ensures.turn) c.decide_turn.ensures.turn in
    may_turn_then c.requires (then_turn decided c.supply_turn.ensures.turn) c.requires.run.0.0.0.0

pub hold_turn-requires : goal.hold_turn-requires
hold_turn-requires c =
    let supplied = then_turn (then_turn (first_turn c.poll_turn.ensures.turn) c.decide_turn.ensures.turn) c.supply_turn.ensures.turn in
    may_turn_then c.requires (then_turn supplied c.desk_turn.ensures.turn) c.requires.run.0.0.0

pub link_turn-requires : goal.link_turn-requires
link_turn-requires c =
    let supplied = then_turn (then_turn (first_turn c.poll_turn.ensures.turn) c.decide_turn.ensures.turn) c.supply_turn.ensures.turn in
    may_turn_then c.requires (then_turn (then_turn supplied c.desk_turn.ensures.turn) c.hold_turn.ensures.turn) c.requires.run.0.0

pub effect_turn-requires-clause-may : goal.effect_turn-requires-clause-may
effect_turn-requires-clause-may c =
    let supplied = then_turn (then_turn (first_turn c.poll_turn.ensures.turn) c.decide_turn.ensures.turn) c.supply_turn.ensures.turn in
    let held = then_turn (then_turn supplied c.desk_turn.ensures.turn) c.hold_turn.ensures.turn in
    may_turn_then c.requires (then_turn held c.link_turn.ensures.turn) c.requires.run.0

pub drive_turn-requires : goal.drive_turn-requires
drive_turn-requires c =
    let supplied = then_turn (then_turn (first_turn c.poll_turn.ensures.turn) c.decide_turn.ensures.turn) c.supply_turn.ensures.turn in
    let held = then_turn (then_turn supplied c.desk_turn.ensures.turn) c.hold_turn.ensures.turn in
    may_turn_then c.requires (then_turn (then_turn held c.link_turn.ensures.turn) c.effect_turn.ensures.turn) c.requires.run

pub returns-clause-turns : goal.returns-clause-turns
returns-clause-turns c =
    let supplied = then_turn (then_turn (first_turn c.poll_turn.ensures.turn) c.decide_turn.ensures.turn) c.supply_turn.ensures.turn in
    let held = then_turn (then_turn supplied c.desk_turn.ensures.turn) c.hold_turn.ensures.turn in
    (then_turn (then_turn (then_turn held c.link_turn.ensures.turn) c.effect_turn.ensures.turn) c.drive_turn.ensures.turn).makes
