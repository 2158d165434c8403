-- What is told of an order before its turns are made.
use Rattle.std.specs.Prelude.{◌≡◌, ℕ, List, reverse}
use Rattle.tick_units.specs.declared.seat.Seat.{Seat}
use Rattle.tick_units.specs.Orders.{canonical_seats}
use Rattle.panel_core.specs.declared.order_form.OrderForm.{OrderForm}
use Rattle.panel_core.specs.declared.order_form.OrderForm.TheVariants.{Canonical, Reversed, Any}

-- an order of so many panels has the form that is told of it
abbrev pub HasForm : OrderForm → ℕ → List Seat → Type 0
HasForm Canonical panels order = order ≡ canonical_seats panels
HasForm Reversed panels order = order ≡ reverse (canonical_seats panels)
HasForm Any panels order = Unit {0}
