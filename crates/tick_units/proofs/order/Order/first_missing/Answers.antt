use Rattle.std.proofs.Common.{sym, ◌∙◌, ap}
use Rattle.tick_units.specs.Orders.{first_missing}
use Rattle.tick_units.specs.declared.seat.Seat.{Seat}
use Rattle.std.proofs.Common.{List}
use Rattle.tick_units.proofs.Missing.{missing_here, missing_past, missing_nowhere}
use Rattle.tick_units.proofs.order.Order.first_missing.Goals as goal

pub returns-then-not-is_among : goal.returns-then-not-is_among
returns-then-not-is_among c =
    sym (missing_here _ c.args.others.now _ _ c.loop-seat-test.true (sym c.is_among.ensures ∙ c.if-not-is_among.true) c.loop-seat.invariant)
    ∙ ap (λ (xs : List Seat). first_missing xs c.args.others.now) (c.as_slice-seat-items.ensures.value ∙ c.self.view_is)

pub loop-seat-preserved : goal.loop-seat-preserved
loop-seat-preserved c =
    missing_past _ c.args.others.now _ _ c.loop-seat-test.true (sym c.is_among.ensures ∙ c.if-not-is_among.false) c.loop-seat.invariant

pub returns : goal.returns
returns c =
    sym (missing_nowhere _ c.args.others.now _ c.loop-seat-test.false c.loop-seat.invariant)
    ∙ ap (λ (xs : List Seat). first_missing xs c.args.others.now) (c.as_slice-seat-items.ensures.value ∙ c.self.view_is)
