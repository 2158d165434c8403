use Rattle.std.proofs.Common.{subst, sym}
use Rattle.tick_units.specs.Lane.{HasRoom}
use Rattle.panel_parts.proofs.Panels.{after_poll}
use Rattle.panel_parts.proofs.Rooms.{room_for_poll}
use Rattle.panel_parts.proofs.parts.Parts.poll_turn.Goals as goal

pub turn-requires-clause-room : goal.turn-requires-clause-room
turn-requires-clause-room c =
    let r = c.requires in
    subst (λ lane. HasRoom lane 32) (sym r.stands.answers) (room_for_poll r.site r.panel r.before r.stands.member r.few r.run)

pub returns : goal.returns
returns c site kept done told panel before h past now run =
    after_poll site kept done told panel before c.args.self.now c.turn.new.answers c.args.now.0 h now (c.turn.ensures.asked site panel _ h.polls)
