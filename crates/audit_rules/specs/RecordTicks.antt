-- The ticks that the lines of a record tell, the newest first. In which of them Keep's turn failed, a record
-- doesn't tell.
use Rattle.std.specs.Prelude.{false, List, [], ◌∷◌, ◌++◌}
use Rattle.std.specs.List.{fold}
use Rattle.tick_units.specs.declared.seat.Seat.{Seat}
use Rattle.tick_units.specs.Orders.{canonical_seats}
use Rattle.site_types.specs.declared.event.Event.{Event}
use Rattle.site_types.specs.declared.site.Site.{Site}
use Rattle.record_lines.specs.declared.line.Line.{Line}
use Rattle.record_lines.specs.declared.line.Line.TheVariants.{Tick as TickLine, Event as EventLine, Order, End}
use Rattle.panel_rules.specs.Moments.{TickBlock}

-- a tick of which nothing more is told yet: without an order its turns are in the canonical one
abbrev pub tick_begun : Site → TickBlock
tick_begun site = record { events = []; order = canonical_seats site.panels; failed = false }

-- an event comes in the newest tick
abbrev pub with_event_in : Event → List TickBlock → List TickBlock
with_event_in event [] = []
with_event_in event (tick ∷ ticks) = record tick { events = tick.events ++ event ∷ [] } ∷ ticks

-- the newest tick has this order
abbrev pub with_order_in : List Seat → List TickBlock → List TickBlock
with_order_in seats [] = []
with_order_in seats (tick ∷ ticks) = record tick { order = seats } ∷ ticks

abbrev pub and_line : Site → List TickBlock → Line → List TickBlock
and_line site ticks (TickLine tick) = tick_begun site ∷ ticks
and_line site ticks (EventLine event) = with_event_in event ticks
and_line site ticks (Order seats) = with_order_in seats ticks
and_line site ticks End = ticks

-- the ticks of a record that is read to its end
abbrev pub ticks_of_record : Site → List Line → List TickBlock
ticks_of_record site lines = fold (and_line site) [] lines
