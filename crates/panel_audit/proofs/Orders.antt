-- Each tick of a record that was read has an order of the site's seats.
use Rattle.std.proofs.Common.{◌≡◌, ◌==◌, ◌+◌, ℕ, Bool, true, false, nat_le, List, [], ◌∷◌, Option, Some, None, Result, Ok, Err}
use Rattle.std.proofs.Common.{refl, sym, subst, map, length, if◌then◌else◌}
use Rattle.std.specs.List.{fold}
use Rattle.std.proofs.lemmas.Grind.{fold-append}
use Rattle.std.proofs.lemmas.List.Sorted.{IsPermutation-refl}
use Rattle.tick_units.specs.declared.order_fault.BadOrder.{BadOrder}
use Rattle.tick_units.specs.declared.seat.Seat.{Seat}
use Rattle.tick_units.specs.Orders.{IsOrder, canonical_seats, order_fault}
use Rattle.tick_units.specs.Ticks.{last_tick}
use Rattle.tick_units.proofs.Faults.{order_fault-none}
use Rattle.site_types.specs.Events.{has_event}
use Rattle.site_types.specs.Numbers.{number_of}
use Rattle.site_types.specs.Fields.{field}
use Rattle.site_types.specs.declared.event.Event.{Event as SiteEvent}
use Rattle.site_types.specs.declared.site.Site.{Site}
use Rattle.record_lines.specs.Events.{event_of, has_numbers}
use Rattle.record_lines.specs.Forms.{Form, TickForm, OfEvent, OrderForm, EndForm, form_of}
use Rattle.record_lines.specs.Judged.{content_of, event_in, judged, judged_as, line_view, may_stand, ordered, tick_as}
use Rattle.record_lines.specs.Lines.{Reading, at_start, by_bytes, by_ending, byte_refusal, cut, lines_read, next_line}
use Rattle.record_lines.specs.Lines.{reading_of, refused_rest, rest_by_ending, verdict}
use Rattle.record_lines.specs.Seats.{order_unless}
use Rattle.record_lines.specs.declared.line.Line.{Line}
use Rattle.record_lines.specs.declared.line.Line.TheVariants.{Tick, Event, Order, End}
use Rattle.record_lines.specs.declared.over.Over.{Over}
use Rattle.record_lines.specs.declared.ticks_so_far.TicksSoFar.{TicksSoFar}
use Rattle.record_lines.specs.declared.why.Why.{Why}
use Rattle.whole_records.specs.Whole.{IsWholeRecord}
use Rattle.panel_rules.specs.Moments.{TickBlock}
use Rattle.panel_rules.specs.Records.{AreOrdered}
use Rattle.audit_rules.specs.RecordTicks.{and_line, ticks_of_record}
use Rattle.tick_events.specs.Told.{ticks_until}

-- ---- what a line orders

abbrev pub OrdersSeats : Site → Line → Type 0
OrdersSeats site (Tick tick) = Unit {0}
OrdersSeats site (Event event) = Unit {0}
OrdersSeats site (Order seats) = IsOrder site.panels seats
OrdersSeats site End = Unit {0}

-- if it is accepted
abbrev pub OrdersIfOk : Site → Result Line Why → Type 0
OrdersIfOk site (Ok line) = OrdersSeats site line
OrdersIfOk site (Err why) = Unit {0}

module _ (site : Site) where
  either_way : (test : Bool) (one other : Result Line Why) → OrdersIfOk site one → OrdersIfOk site other
      → OrdersIfOk site (if test then one else other)
  either_way true one other fine too = fine
  either_way false one other fine too = too

  unless_fault : (seats : List Seat) (fault : Option BadOrder) → order_fault site.panels seats ≡ fault
      → OrdersIfOk site (ordered (order_unless seats fault))
  unless_fault seats None is = (order_fault-none site.panels seats).0 is
  unless_fault seats (Some fault) is = tt

  of_tick : (ticks : ℕ) (found : Option ℕ) → OrdersIfOk site (tick_as ticks found)
  of_tick ticks None = tt
  of_tick ticks (Some found) = either_way (nat_le last_tick ticks) _ _ tt (either_way (found == ticks + 1) _ _ tt tt)

  of_event : (event : Option SiteEvent) → OrdersIfOk site (event_in site event)
  of_event None = tt
  of_event (Some event) = either_way (has_event site event) _ _ tt tt

  of_content : (so_far : TicksSoFar) (form : Form) (text : List ℕ) → OrdersIfOk site (content_of site so_far form text)
  of_content so_far TickForm text = of_tick so_far.ticks (number_of (field 1 text))
  of_content so_far (OfEvent form) text = of_event (event_of site form text)
  of_content so_far OrderForm text =
      either_way so_far.has_order _ _ tt (unless_fault _ _ refl)
  of_content so_far EndForm text = tt

  of_form : (so_far : TicksSoFar) (text : List ℕ) (form : Option Form) → OrdersIfOk site (judged_as site so_far text form)
  of_form so_far text None = tt
  of_form so_far text (Some form) =
      either_way (may_stand so_far form) _ _ (either_way (has_numbers form text) _ _ (of_content so_far form text) tt) tt

  -- ---- line by line

  and_ordered : (ticks : List TickBlock) (line : Line) → AreOrdered site.panels ticks → OrdersSeats site line
      → AreOrdered site.panels (and_line site ticks line)
  and_ordered ticks (Tick tick) are fine = (are, IsPermutation-refl (canonical_seats site.panels))
  and_ordered [] (Event event) are fine = tt
  and_ordered (newest ∷ ticks) (Event event) are fine = are
  and_ordered [] (Order seats) are fine = tt
  and_ordered (newest ∷ ticks) (Order seats) are fine = (are.0, fine)
  and_ordered ticks End are fine = are

  abbrev pub HasOrders : Reading → Type 0
  HasOrders reading = AreOrdered site.panels (ticks_of_record site reading.lines)

  behind_verdict : (reading : Reading) → HasOrders reading → (answer : Result Line Why) → OrdersIfOk site answer → HasOrders (verdict reading answer)
  behind_verdict reading are (Ok line) fine =
      subst (AreOrdered site.panels) (sym (fold-append (and_line site) [] reading.lines (line ∷ [])))
      (and_ordered (ticks_of_record site reading.lines) line are fine)
  behind_verdict reading are (Err why) fine = are

  behind_bytes : (reading : Reading) (text : List ℕ) → HasOrders reading → (refusal : Option Why) → HasOrders (by_bytes site reading text refusal)
  behind_bytes reading text are None = behind_verdict reading are (judged site reading.so_far text) (of_form reading.so_far text (form_of text))
  behind_bytes reading text are (Some why) = are

  behind_ending : (reading : Reading) (text : List ℕ) → HasOrders reading → (ending : Option Over) → HasOrders (by_ending site reading text ending)
  behind_ending reading text are None = behind_bytes reading text are (byte_refusal text)
  behind_ending reading text are (Some over) = are

  behind_lines : (texts : List (List ℕ)) (reading : Reading) → HasOrders reading → HasOrders (fold (next_line site) reading texts)
  behind_lines [] reading are = are
  behind_lines (text ∷ texts) reading are = behind_lines texts (next_line site reading text) (behind_ending reading text are reading.ending)

  behind_refusal : (reading : Reading) → HasOrders reading → (refusal : Option Why) → HasOrders (refused_rest reading refusal)
  behind_refusal reading are None = are
  behind_refusal reading are (Some why) = are

  behind_rest : (reading : Reading) (rest : List ℕ) → HasOrders reading → (ending : Option Over) → HasOrders (rest_by_ending reading rest ending)
  behind_rest reading rest are None = behind_refusal reading are (byte_refusal rest)
  behind_rest reading rest are (Some over) = are

  pub read_ordered : (bytes : List ℕ) → HasOrders (reading_of site bytes)
  read_ordered bytes =
      behind_rest (lines_read site (cut bytes).whole) (cut bytes).rest (behind_lines (cut bytes).whole at_start tt)
      (lines_read site (cut bytes).whole).ending

  pub whole_ordered : (bytes : List ℕ) (lines : List Line) → IsWholeRecord site bytes lines
      → AreOrdered site.panels (ticks_of_record site (map line_view lines))
  whole_ordered bytes lines whole = subst (λ all. AreOrdered site.panels (ticks_of_record site all)) (sym whole.are) (read_ordered bytes)

-- ---- up to a tick

pub until_ordered : (panels tick : ℕ) (ticks : List TickBlock) → AreOrdered panels ticks → AreOrdered panels (ticks_until tick ticks)
until_ordered panels tick [] are = are
until_ordered panels tick (newest ∷ ticks) are =
    one_of (nat_le (length (newest ∷ ticks)) tick) (newest ∷ ticks) (ticks_until tick ticks) are (until_ordered panels tick ticks are.0)
  where
    one_of : (whole : Bool) (all some : List TickBlock) → AreOrdered panels all → AreOrdered panels some
        → AreOrdered panels (if whole then all else some)
    one_of true all some fine too = fine
    one_of false all some fine too = too
