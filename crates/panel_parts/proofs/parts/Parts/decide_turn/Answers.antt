use Rattle.std.proofs.Common.{subst, sym}
use Rattle.tick_units.specs.Lane.{HasRoom}
use Rattle.hold_calls.specs.Lanes.{decided}
use Rattle.panel_parts.proofs.Rooms.{room_for_decide}
use Rattle.panel_parts.proofs.Takes.{after_decide, can_take}
use Rattle.panel_parts.proofs.parts.Parts.decide_turn.Goals as goal

pub turn-requires-clause-room : goal.turn-requires-clause-room
turn-requires-clause-room c =
    let r = c.requires in
    subst (λ lane. HasRoom lane 32) (sym r.stands.findings) (room_for_decide r.site r.panel r.before r.stands.member r.few r.kept r.done r.run)

pub turn-requires-clause-may : goal.turn-requires-clause-may
turn-requires-clause-may c = let r = c.requires in can_take r.site r.kept r.done r.told r.panel r.before c.args.self.now r.stands r.run r.past

pub returns : goal.returns
returns c site kept done told panel before h past now run =
    let e = c.turn.ensures in
    after_decide site kept done told panel before c.args.self.now c.turn.new.self c.turn.new.answers c.turn.new.findings h run past
    e.answers (e.taken site kept panel done (decided site panel before)) (e.findings site kept panel done (decided site panel before))
