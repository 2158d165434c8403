-- What a check of seats says of whether they are an order.
use Rattle.std.proofs.Common.{◌≡◌, ◌+◌, ◌*◌, ℕ, true, false, List, length, Some, None, option_map, sym, ◌∙◌, ap, OnOk, IfErr}
use Rattle.std.specs.Prelude.{Result, Ok, Err, is_err}
use Rattle.tick_units.specs.declared.seat.Seat.{Seat}
use Rattle.tick_units.specs.declared.order_fault.BadOrder.{BadOrder}
use Rattle.tick_units.specs.declared.order_fault.BadOrder.TheVariants.{Missing}
use Rattle.tick_units.specs.Orders.{IsOrder, IsSound, order_fault}
use Rattle.tick_units.proofs.Faults.{order_fault-none, order_fault-sound}
use Rattle.tick_units.proofs.SeatSets.{none_missing}

-- seats that were refused are none
pub refused_none : {X : Type 0} (panels : ℕ) (seats : List Seat) (checked : Result X BadOrder) → is_err checked ≡ true
    → IfErr checked (λ fault. order_fault panels seats ≡ Some fault) → ¬ IsOrder panels seats
refused_none panels seats (Ok _) e told order = cc
refused_none panels seats (Err fault) e told order =
    let h : Some fault ≡ None = sym told ∙ (order_fault-none panels seats).1 order in cc

-- as many as the site has, of which none was refused, are one
pub passed_one : {X : Type 0} (panels : ℕ) (seats : List Seat) (checked : Result X BadOrder) → is_err checked ≡ false
    → OnOk checked (IsSound panels seats) → length seats ≡ 8 * panels + 1 → IsOrder panels seats
passed_one panels seats (Err _) e told full = cc
passed_one panels seats (Ok _) e sound full =
    (order_fault-none panels seats).0 (order_fault-sound panels seats sound ∙ ap (option_map Missing) (sym (none_missing panels seats sound full)))
