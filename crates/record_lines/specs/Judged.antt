-- What a line says where a record stands so, or the first of the refusals that applies to it.
use Rattle.std.specs.Prelude.{◌≡◌, ◌==◌, ◌+◌, ℕ, Bool, true, nat_le, nat_lt, List, Option, Some, None, Result, Ok}
use Rattle.std.specs.Prelude.{Err, MatchResult, if◌then◌else◌}
use Rattle.site_types.specs.Events.{has_event}
use Rattle.site_types.specs.Numbers.{number_of}
use Rattle.site_types.specs.declared.site.Site.{Site}
use Rattle.site_types.specs.declared.event.Event.{Event}
use Rattle.tick_units.specs.Ticks.{last_tick}
use Rattle.tick_units.specs.declared.seat.Seat.{Seat}
use Rattle.line_fields.specs.Fields.{space_count}
use Rattle.site_types.specs.Fields.{after_space, field}
use Rattle.record_lines.specs.Forms.{Form, TickForm, OfEvent, OrderForm, EndForm, form_of}
use Rattle.record_lines.specs.declared.form.EventForm.{EventForm}
use Rattle.record_lines.specs.Seats.{order_of, seats_of}
use Rattle.record_lines.specs.Events.{event_of, event_view, has_numbers}
use Rattle.record_lines.specs.declared.line.Line.{Line}
use Rattle.record_lines.specs.declared.line.Line.TheVariants.{Tick, Event as EventLine, Order, End}
use Rattle.record_lines.specs.declared.ticks_so_far.TicksSoFar.{TicksSoFar}
use Rattle.record_lines.specs.declared.why.Why.{Why}
use Rattle.record_lines.specs.declared.why.Why.TheVariants.{BadWord, BadNumber, NoSuch, BadTick, BadOrder}
use Rattle.record_lines.specs.declared.why.Why.TheVariants.{BeforeFirstTick, TickLimit}

-- a line with the bytes of a code alone
abbrev pub line_view : Line → Line
line_view (Tick tick) = Tick tick
line_view (EventLine event) = EventLine (event_view event)
line_view (Order order) = Order order
line_view End = End

-- before the first tick a tick or the end alone may come
abbrev pub may_stand : TicksSoFar → Form → Bool
may_stand so_far TickForm = true
may_stand so_far (OfEvent form) = nat_lt 0 so_far.ticks
may_stand so_far OrderForm = nat_lt 0 so_far.ticks
may_stand so_far EndForm = true

-- ticks come as 1, 2, 3 and so on, up to the last
abbrev pub tick_as : ℕ → Option ℕ → Result Line Why
tick_as ticks None = Err BadNumber
tick_as ticks (Some found) =
    if nat_le last_tick ticks then Err TickLimit else
    (if found == ticks + 1 then Ok (Tick (record { 0 = found })) else Err (BadTick (ticks + 1) found))

abbrev pub tick_line : TicksSoFar → List ℕ → Result Line Why
tick_line so_far text = tick_as so_far.ticks (number_of (field 1 text))

abbrev pub ordered : Result (List Seat) Why → Result Line Why
ordered (Ok seats) = Ok (Order seats)
ordered (Err why) = Err why

-- a tick has at most one order; place 0 tells a second one
abbrev pub order_with : Site → TicksSoFar → List Seat → Result Line Why
order_with site so_far seats =
    if so_far.has_order then Err (BadOrder 0) else ordered (order_of site.panels seats)

abbrev pub order_line : Site → TicksSoFar → List ℕ → Result Line Why
order_line site so_far text = order_with site so_far (seats_of (space_count text) (after_space text))

-- the site has all that the event names
abbrev pub event_in : Site → Option Event → Result Line Why
event_in site None = Err NoSuch
event_in site (Some event) = if has_event site event then Ok (EventLine event) else Err NoSuch

abbrev pub event_line : Site → EventForm → List ℕ → Result Line Why
event_line site form text = event_in site (event_of site form text)

-- a line whose fixed words and numbers are of their forms
abbrev pub content_of : Site → TicksSoFar → Form → List ℕ → Result Line Why
content_of site so_far TickForm text = tick_line so_far text
content_of site so_far (OfEvent form) text = event_line site form text
content_of site so_far OrderForm text = order_line site so_far text
content_of site so_far EndForm text = Ok End

-- a line of a row
abbrev pub judged_as : Site → TicksSoFar → List ℕ → Option Form → Result Line Why
judged_as site so_far text None = Err BadWord
judged_as site so_far text (Some form) =
    if may_stand so_far form then (if has_numbers form text then content_of site so_far form text else Err
    BadNumber) else Err BeforeFirstTick

-- a line of at most 512 printable bytes
abbrev pub judged : Site → TicksSoFar → List ℕ → Result Line Why
judged site so_far text = judged_as site so_far text (form_of text)

-- the answer says so, with codes as their bytes alone
abbrev pub IsVerdict : Result Line Why → Result Line Why → Type 0
IsVerdict verdict answer =
    MatchResult answer (λ line. verdict ≡ Ok (line_view line)) (λ why. verdict ≡ Err why)
