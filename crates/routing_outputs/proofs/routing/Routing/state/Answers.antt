use Rattle.std.proofs.Common.{◌≡◌, ◌-◌, true, false, sym, ◌∙◌}
use Rattle.site_types.specs.Bits.{has_bit}
use Rattle.routing_outputs.proofs.Confirming.{state_bits}
use Rattle.routing_outputs.proofs.routing.Routing.state.Goals as goal

pub returns-then-has_bit_32 : goal.returns-then-has_bit_32
returns-then-has_bit_32 c site panel limit calls stands =
    let s = c.args.self.now in
    let confirmed : has_bit s.confirmed (c.args.number - 1) ≡ true = sym c.has_bit_32.ensures ∙ c.if-has_bit_32.true in
    rw confirmed at (state_bits site panel limit calls c.args.number c.requires s.on s.confirmed s.late stands.on stands.confirmed stands.late)

pub returns-then-has_bit_32-2 : goal.returns-then-has_bit_32-2
returns-then-has_bit_32-2 c site panel limit calls stands =
    let s = c.args.self.now in
    let confirmed : has_bit s.confirmed (c.args.number - 1) ≡ false = sym c.has_bit_32.ensures ∙ c.if-has_bit_32.false in
    let late : has_bit s.late (c.args.number - 1) ≡ true = sym c.has_bit_32-else-has_bit_32.ensures ∙ c.if-has_bit_32-2.true in
    rw (confirmed, late) at (state_bits site panel limit calls c.args.number c.requires s.on s.confirmed s.late stands.on stands.confirmed
    stands.late)

pub returns-then-has_bit_32-3 : goal.returns-then-has_bit_32-3
returns-then-has_bit_32-3 c site panel limit calls stands =
    let s = c.args.self.now in
    let confirmed : has_bit s.confirmed (c.args.number - 1) ≡ false = sym c.has_bit_32.ensures ∙ c.if-has_bit_32.false in
    let late : has_bit s.late (c.args.number - 1) ≡ false = sym c.has_bit_32-else-has_bit_32.ensures ∙ c.if-has_bit_32-2.false in
    let on : has_bit s.on (c.args.number - 1) ≡ true = sym c.has_bit_32-else-has_bit_32-2.ensures ∙ c.if-has_bit_32-3.true in
    rw (confirmed, late, on) at (state_bits site panel limit calls c.args.number c.requires s.on s.confirmed s.late stands.on stands.confirmed
    stands.late)

pub returns-else-has_bit_32-3 : goal.returns-else-has_bit_32-3
returns-else-has_bit_32-3 c site panel limit calls stands =
    let s = c.args.self.now in
    let confirmed : has_bit s.confirmed (c.args.number - 1) ≡ false = sym c.has_bit_32.ensures ∙ c.if-has_bit_32.false in
    let late : has_bit s.late (c.args.number - 1) ≡ false = sym c.has_bit_32-else-has_bit_32.ensures ∙ c.if-has_bit_32-2.false in
    let on : has_bit s.on (c.args.number - 1) ≡ false = sym c.has_bit_32-else-has_bit_32-2.ensures ∙ c.if-has_bit_32-3.false in
    rw (confirmed, late, on) at (state_bits site panel limit calls c.args.number c.requires s.on s.confirmed s.late stands.on stands.confirmed
    stands.late)
