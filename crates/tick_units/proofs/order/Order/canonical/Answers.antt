use Rattle.std.proofs.Common.{length, ap, ◌≡◌, ◌*◌, lit<, arith, ◌∙◌}
use Rattle.tick_units.proofs.Canonical.{length-seats_of_panels}
use Rattle.tick_units.proofs.order.Order.canonical.Goals as goal

pub push_panel-requires : goal.push_panel-requires
push_panel-requires c =
    let count : length c.loop-before.seats.items ≡ 8 * c.loop-before.before =
    ap length c.loop-before.invariant ∙ length-seats_of_panels c.loop-before.before in
    omega arith

pub push-requires : goal.push-requires
push-requires c =
    let count : length c.loop-before.seats.items ≡ 8 * c.loop-before.before =
    ap length c.loop-before.invariant ∙ length-seats_of_panels c.loop-before.before in (
      lit< tt,
      omega arith,
    )
