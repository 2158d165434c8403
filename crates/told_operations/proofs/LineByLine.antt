-- What the lines of a record ask for, line by line.
use Rattle.std.proofs.Common.{◌≡◌, ◌∙◌, ◌+◌, ◌++◌, ◌<◌, ℕ, zero, suc, Bool, List, [], ◌∷◌, refl, sym, ap, arith, map, length, take, get_or, append-nil}
use Rattle.std.proofs.Common.{◌≤◌, false, Some, None}
use Rattle.std.proofs.lemmas.List.{map-append, take_more}
use Rattle.std.proofs.lemmas.List.Sums.{fold-append}
use Rattle.tick_units.specs.declared.seat.Seat.{Seat}
use Rattle.tick_units.specs.declared.task.Task.{Task}
use Rattle.tick_units.specs.declared.task.Task.TheVariants.{Keep}
use Rattle.tick_units.specs.declared.tick.Tick.{Tick}
use Rattle.tick_units.specs.Orders.{canonical_seats}
use Rattle.site_types.specs.declared.event.Event.{Event}
use Rattle.site_types.specs.declared.event.Event.TheVariants.{Point, Cable, Supply, Link, Confirmed, Op}
use Rattle.site_types.specs.declared.site.Site.{Site}
use Rattle.record_lines.specs.Events.{event_view}
use Rattle.record_lines.specs.Judged.{line_view}
use Rattle.record_lines.specs.declared.line.Line.{Line}
use Rattle.record_lines.specs.declared.line.Line.TheVariants.{Tick as TickLine, Event as EventLine, Order as OrderLine, End}
use Rattle.panel_rules.specs.Moments.{Moment, Began, Happened, TickBlock, and_events, and_turns, moments, tick_of, turn_of}
use Rattle.panel_rules.specs.Operations.{Request, and_request, requests}
use Rattle.run_text.proofs.TickTimes.{tick_moments}
use Rattle.audit_rules.specs.RecordTicks.{and_line, tick_begun, ticks_of_record, with_event_in, with_order_in}
use Rattle.told_operations.specs.declared.asked_operation.AskedOperation.{AskedOperation}
use Rattle.told_operations.specs.Asked.{asked_by_event, asked_in_lines, asked_of}

-- ---- moments

-- turns ask for nothing and begin no tick
turn_asks : (site : Site) (failed : Bool) (panel : ℕ) (task : Task) (before : List Moment)
    → requests site (turn_of failed panel task ∷ before) ≡ requests site before
turn_asks site failed panel Keep before = refl
turn_asks site failed panel task before = refl

turns_ask : (site : Site) (failed : Bool) (seats : List Seat) (before : List Moment)
    → requests site (and_turns failed seats before) ≡ requests site before
turns_ask site failed [] before = refl
turns_ask site failed (seat ∷ seats) before =
    turns_ask site failed seats (turn_of failed seat.panel seat.task ∷ before) ∙ turn_asks site failed seat.panel seat.task before

events_tick : (events : List Event) (before : List Moment) → tick_of (and_events events before) ≡ tick_of before
events_tick [] before = refl
events_tick (event ∷ events) before = events_tick events (Happened event ∷ before)

one_more : (events : List Event) (event : Event) (before : List Moment)
    → and_events (events ++ event ∷ []) before ≡ Happened event ∷ and_events events before
one_more [] event before = refl
one_more (other ∷ events) event before = one_more events event (Happened other ∷ before)

-- ---- ticks

-- what some ticks ask for
abbrev asked_in_ticks : Site → List TickBlock → List AskedOperation
asked_in_ticks site ticks = map asked_of (requests site (moments ticks))

-- an event of a tick asks for the same however the code's label is held
asked_view : (site : Site) (tick : ℕ) (event : Event) → asked_by_event site tick (event_view event) ≡ asked_by_event site tick event
asked_view site zero event = refl
asked_view site (suc tick) (Point point state) = refl
asked_view site (suc tick) (Cable panel line piece state) = refl
asked_view site (suc tick) (Supply panel kind bad) = refl
asked_view site (suc tick) (Link link up) = refl
asked_view site (suc tick) (Confirmed output) = refl
asked_view site (suc tick) (Op panel None operation) = refl
asked_view site (suc tick) (Op panel (Some label) operation) = refl

and_asked : (site : Site) (tick : ℕ) (event : Event) (before : List Request) (number : ℕ) → number ≡ suc tick →
    map asked_of (and_request site number event before) ≡ map asked_of before ++ asked_by_event site (suc tick) event
and_asked site tick (Op panel code operation) before number is = rw is (map-append asked_of before _)
and_asked site tick (Point point state) before number is = sym (append-nil (map asked_of before))
and_asked site tick (Cable panel line piece state) before number is = sym (append-nil (map asked_of before))
and_asked site tick (Supply panel kind bad) before number is = sym (append-nil (map asked_of before))
and_asked site tick (Link link up) before number is = sym (append-nil (map asked_of before))
and_asked site tick (Confirmed output) before number is = sym (append-nil (map asked_of before))

event_more : (site : Site) (event : Event) (ticks : List TickBlock)
    → asked_in_ticks site (with_event_in event ticks) ≡ asked_in_ticks site ticks ++ asked_by_event site (length ticks) event
event_more site event [] = refl
event_more site event (tick ∷ ticks) =
    let start = Began ∷ moments ticks in
    let told = and_events tick.events start in
    let more = turns_ask site tick.failed tick.order (and_events (tick.events ++ event ∷ []) start) ∙ ap (requests site) (one_more tick.events event start) in
    let counted = tick_moments ticks in
    let now = events_tick tick.events start in
    ap (map asked_of) more ∙ and_asked site (length ticks) event (requests site told) (tick_of told) (omega (arith, counted, now))
    ∙ ap (λ before. map asked_of before ++ asked_by_event site (suc (length ticks)) event) (sym (turns_ask site tick.failed tick.order told))

order_more : (site : Site) (seats : List Seat) (ticks : List TickBlock) → asked_in_ticks site (with_order_in seats ticks) ≡ asked_in_ticks site ticks
order_more site seats [] = refl
order_more site seats (tick ∷ ticks) =
    let told = and_events tick.events (Began ∷ moments ticks) in
    ap (map asked_of) (turns_ask site tick.failed seats told ∙ sym (turns_ask site tick.failed tick.order told))

tick_more : (site : Site) (ticks : List TickBlock) → asked_in_ticks site (tick_begun site ∷ ticks) ≡ asked_in_ticks site ticks
tick_more site ticks = ap (map asked_of) (turns_ask site false (canonical_seats site.panels) (Began ∷ moments ticks))

event_counted : (event : Event) (ticks : List TickBlock) → length (with_event_in event ticks) ≡ length ticks
event_counted event [] = refl
event_counted event (tick ∷ ticks) = refl

order_counted : (seats : List Seat) (ticks : List TickBlock) → length (with_order_in seats ticks) ≡ length ticks
order_counted seats [] = refl
order_counted seats (tick ∷ ticks) = refl

-- ---- lines

-- how many ticks the lines of a record tell
abbrev pub length_of_record : Site → List Line → ℕ
length_of_record site lines = length (ticks_of_record site lines)

-- the first lines of a record tell so many ticks, and ask for this
pub record IsAskedTo (site : Site) (lines : List Line) (place ticks : ℕ) (asked : List AskedOperation) : Type 0 where
  pub ticks_are : ticks ≡ length_of_record site (map line_view (take place lines))
  pub asked_are : asked ≡ asked_in_lines site (map line_view (take place lines))
  pub few : ticks ≤ place

pub nothing_asked : (site : Site) (lines : List Line) (asked : List AskedOperation) → asked ≡ [] → IsAskedTo site lines 0 0 asked
nothing_asked site lines asked none = record { ticks_are = refl; asked_are = none; few = omega arith }

module _ (site : Site) (lines : List Line) (place ticks : ℕ) (asked : List AskedOperation) (line : Line) (within : place < length lines)
    (is : line ≡ get_or lines place line) (before : IsAskedTo site lines place ticks asked) where
  abbrev so_far : List Line
  so_far = map line_view (take place lines)

  abbrev told : List TickBlock
  told = ticks_of_record site so_far

  lines_more : map line_view (take (place + 1) lines) ≡ so_far ++ line_view line ∷ []
  lines_more =
      ap (map line_view) (take_more lines place line within ∙ ap (λ l. take place lines ++ l ∷ []) (sym is))
      ∙ map-append line_view (take place lines) (line ∷ [])

  ticks_more : ticks_of_record site (map line_view (take (place + 1) lines)) ≡ and_line site told (line_view line)
  ticks_more = ap (ticks_of_record site) lines_more ∙ fold-append (and_line site) [] so_far (line_view line ∷ [])

  pub goes_on : (now : ℕ) (more : List AskedOperation) → now ≡ length (and_line site told (line_view line)) → now ≤ place + 1
      → more ≡ asked_in_ticks site (and_line site told (line_view line)) → IsAskedTo site lines (place + 1) now more
  goes_on now more counted few are = record {
    ticks_are = counted ∙ sym (ap length ticks_more);
    asked_are = are ∙ sym (ap (asked_in_ticks site) ticks_more);
    few = few;
  }

  pub after_tick : (tick : Tick) → line ≡ TickLine tick → IsAskedTo site lines (place + 1) (ticks + 1) asked
  after_tick tick e =
      let few = before.few in
      let counted = before.ticks_are in
      goes_on (ticks + 1) asked (rw e (omega (arith, counted))) (omega (arith, few)) (rw e (before.asked_are ∙ sym (tick_more site told)))

  pub after_event : (event : Event) → line ≡ EventLine event → IsAskedTo site lines (place + 1) ticks (asked ++ asked_by_event site ticks event)
  after_event event e =
      let few = before.few in
      goes_on ticks (asked ++ asked_by_event site ticks event) (rw e (before.ticks_are ∙ sym (event_counted (event_view event) told))) (omega (arith, few))
      (rw e (ap (λ xs. xs ++ asked_by_event site ticks event) before.asked_are
      ∙ ap (λ xs. asked_in_ticks site told ++ xs) (sym (asked_view site ticks event) ∙ ap (λ n. asked_by_event site n (event_view event)) before.ticks_are)
      ∙ sym (event_more site (event_view event) told)))

  pub after_order : (seats : List Seat) → line ≡ OrderLine seats → IsAskedTo site lines (place + 1) ticks asked
  after_order seats e =
      let few = before.few in
      goes_on ticks asked (rw e (before.ticks_are ∙ sym (order_counted seats told))) (omega (arith, few))
      (rw e (before.asked_are ∙ sym (order_more site seats told)))

  pub after_end : line ≡ End → IsAskedTo site lines (place + 1) ticks asked
  after_end e =
      let few = before.few in
      goes_on ticks asked (rw e before.ticks_are) (omega (arith, few)) (rw e before.asked_are)
