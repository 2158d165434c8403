-- What befalls a panel by itself in a tick: its own events, and the turns of all seats of its site.
use Rattle.std.specs.Prelude.{◌≡◌, ℕ, Bool, true, List, [], ◌∷◌}
use Rattle.tick_units.specs.declared.seat.Seat.{Seat}
use Rattle.site_types.specs.declared.site.Site.{Site}
use Rattle.node_inputs.specs.OwnEvents.{is_event_of}
use Rattle.node_rules.specs.Histories.{Befell, NodeMoment}
use Rattle.panel_rules.specs.Moments.{Moment, Began, Happened, Turned, Kept, turn_of}

-- each event was the panel's own
abbrev pub AreOwnEvents : Site → ℕ → List Moment → Type 0
AreOwnEvents site panel [] = Unit {0}
AreOwnEvents site panel (Began ∷ before) = AreOwnEvents site panel before
AreOwnEvents site panel (Happened event ∷ before) =
    (is_event_of site panel event ≡ true) × AreOwnEvents site panel before
AreOwnEvents site panel (Turned other task ∷ before) = AreOwnEvents site panel before
AreOwnEvents site panel (Kept failed ∷ before) = AreOwnEvents site panel before

-- a history with the turns of these seats, one after another
abbrev pub and_seats : Bool → List Seat → List NodeMoment → List NodeMoment
and_seats failed [] history = history
and_seats failed (seat ∷ seats) history =
    and_seats failed seats (Befell (turn_of failed seat.panel seat.task) ∷ history)
