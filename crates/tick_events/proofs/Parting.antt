-- How the events of ticks stand in one list.
use Rattle.std.proofs.Common.{◌≡◌, ◌∙◌, ◌+◌, ◌-◌, ◌++◌, ◌<◌, ◌≤◌, ℕ, List, [], ◌∷◌, refl, sym, ap, subst, arith, map, length, take, drop}
use Rattle.std.proofs.Common.{get_or, inl, inr, zero, suc}
use Rattle.std.proofs.lemmas.Bool.Decides.{leb_tells}
use Rattle.std.proofs.lemmas.List.{map-append, length-append, length-take-le, take_all, drop_all, take-take, take-append-le, drop-append-le, take_more}
use Rattle.std.proofs.lemmas.List.Sums.{fold-append}
use Rattle.std.proofs.lemmas.List.{get_or_append_left, get_or-append_right, get_or_default, get_or_past}
use Rattle.tick_units.specs.declared.seat.Seat.{Seat}
use Rattle.tick_units.specs.declared.tick.Tick.{Tick}
use Rattle.site_types.specs.declared.event.Event.{Event}
use Rattle.site_types.specs.declared.site.Site.{Site}
use Rattle.record_lines.specs.Events.{event_view}
use Rattle.panel_rules.specs.Moments.{TickBlock}
use Rattle.record_lines.specs.Judged.{line_view}
use Rattle.record_lines.specs.declared.line.Line.{Line}
use Rattle.record_lines.specs.declared.line.Line.TheVariants.{Tick as TickLine, Event as EventLine, Order as OrderLine, End}
use Rattle.audit_rules.specs.RecordTicks.{and_line, tick_begun, ticks_of_record, with_event_in, with_order_in}
use Rattle.tick_events.specs.Told.{ArePartedEvents, TellsEventsOfTick, and_event, befalls, ticks_until}

-- ---- a line more

-- a tick begins
pub tick_begins : (site : Site) (ticks : List TickBlock) (events : List Event) (starts : List ℕ) (count : ℕ) → count ≡ length events
    → ArePartedEvents ticks events starts → ArePartedEvents (tick_begun site ∷ ticks) events (starts ++ count ∷ [])
tick_begins site ticks events starts count is before = record {
  start = count;
  before = starts;
  starts_are = refl;
  within = omega (arith, is);
  earlier = subst (λ es. ArePartedEvents ticks es starts) (sym (take_all count events (omega (arith, is)))) before;
  last = ap (map event_view) (drop_all count events (omega (arith, is)));
}

-- an event befalls in the newest tick
pub event_befalls : (event : Event) (ticks : List TickBlock) (events : List Event) (starts : List ℕ) → 0 < length starts
    → ArePartedEvents ticks events starts → ArePartedEvents (with_event_in (event_view event) ticks) (events ++ event ∷ []) starts
event_befalls event [] events starts some before = (let none = ap length before.1 in absurd (omega (arith, none, some)))
event_befalls event (newest ∷ ticks) events starts some before = record {
  start = before.start;
  before = before.before;
  starts_are = before.starts_are;
  within = (let within = before.within in omega (arith, within, length-append events (event ∷ [])));
  earlier = subst (λ es. ArePartedEvents ticks es before.before) (sym (take-append-le before.start events (event ∷ []) before.within)) before.earlier;
  last = ap (map event_view) (drop-append-le before.start events (event ∷ []) before.within)
      ∙ map-append event_view (drop before.start events) (event ∷ []) ∙ ap (λ es. es ++ event_view event ∷ []) before.last;
}

-- before the first tick nothing befalls
pub nothing_befalls : (event : Event) (ticks : List TickBlock) (events : List Event) (starts : List ℕ) → length starts ≡ 0
    → ArePartedEvents ticks events starts → ArePartedEvents (with_event_in event ticks) events starts
nothing_befalls event [] events starts none before = before
nothing_befalls event (newest ∷ ticks) events starts none before =
    (let some = ap length before.starts_are ∙ length-append before.before (before.start ∷ []) in absurd (omega (arith, none, some)))

-- either way
pub event_put : (event : Event) (ticks : List TickBlock) (events : List Event) (starts : List ℕ) (count : ℕ) → count ≡ length starts
    → ArePartedEvents ticks events starts → ArePartedEvents (with_event_in (event_view event) ticks) (and_event (befalls count event) events) starts
event_put event ticks events starts zero is before = nothing_befalls (event_view event) ticks events starts (sym is) before
event_put event ticks events starts (suc count) is before = event_befalls event ticks events starts (omega (arith, is)) before

-- an order is given
pub order_stands : (seats : List Seat) (ticks : List TickBlock) (events : List Event) (starts : List ℕ) → ArePartedEvents ticks events starts
    → ArePartedEvents (with_order_in seats ticks) events starts
order_stands seats [] events starts before = before
order_stands seats (newest ∷ ticks) events starts before = record {
  start = before.start;
  before = before.before;
  starts_are = before.starts_are;
  within = before.within;
  earlier = before.earlier;
  last = before.last;
}

-- ---- line by line

module _ (site : Site) (lines : List Line) (place : ℕ) (line : Line) (within : place < length lines) (is : line ≡ get_or lines place line) where
  abbrev ticks_so_far : List TickBlock
  ticks_so_far = ticks_of_record site (map line_view (take place lines))

  abbrev ticks_now : List TickBlock
  ticks_now = ticks_of_record site (map line_view (take (place + 1) lines))

  lines_more : map line_view (take (place + 1) lines) ≡ map line_view (take place lines) ++ line_view line ∷ []
  lines_more =
      ap (map line_view) (take_more lines place line within ∙ ap (λ l. take place lines ++ l ∷ []) (sym is))
      ∙ map-append line_view (take place lines) (line ∷ [])

  ticks_more : ticks_now ≡ and_line site ticks_so_far (line_view line)
  ticks_more = ap (ticks_of_record site) lines_more ∙ fold-append (and_line site) [] (map line_view (take place lines)) (line_view line ∷ [])

  module _ (events : List Event) (starts : List ℕ) (before : ArePartedEvents ticks_so_far events starts) where
    goes_on : (told : Line) → line ≡ told → (more : List Event) (further : List ℕ) → ArePartedEvents (and_line site ticks_so_far (line_view told)) more further
        → ArePartedEvents ticks_now more further
    goes_on told e more further now = subst (λ ts. ArePartedEvents ts more further) (sym (ticks_more ∙ ap (λ l. and_line site ticks_so_far (line_view l)) e)) now

    pub after_tick : (tick : Tick) → line ≡ TickLine tick → (count : ℕ) → count ≡ length events → ArePartedEvents ticks_now events (starts ++ count ∷ [])
    after_tick tick e count counted = goes_on (TickLine tick) e events (starts ++ count ∷ []) (tick_begins site ticks_so_far events starts count counted before)

    pub after_event : (event : Event) → line ≡ EventLine event → (count : ℕ) → count ≡ length starts → ArePartedEvents ticks_now (and_event (befalls count event) events) starts
    after_event event e count counted =
        goes_on (EventLine event) e (and_event (befalls count event) events) starts (event_put event ticks_so_far events starts count counted before)

    pub after_order : (order : List Seat) → line ≡ OrderLine order → ArePartedEvents ticks_now events starts
    after_order order e = goes_on (OrderLine order) e events starts (order_stands order ticks_so_far events starts before)

    pub after_end : line ≡ End → ArePartedEvents ticks_now events starts
    after_end e = goes_on End e events starts before

-- ---- one tick of them

pub starts_counted : (ticks : List TickBlock) (events : List Event) (starts : List ℕ) → ArePartedEvents ticks events starts
    → length starts ≡ length ticks
starts_counted [] events starts told = ap length told.1
starts_counted (newest ∷ ticks) events starts told =
    let more = ap length told.starts_are ∙ length-append told.before (told.start ∷ []) in
    let same = starts_counted ticks (take told.start events) told.before told.earlier in
    omega (arith, more, same)

until_all : (ticks : List TickBlock) (tick : ℕ) → length ticks ≤ tick → ticks_until tick ticks ≡ ticks
until_all [] tick few = refl
until_all (newest ∷ ticks) tick few =
    elim (leb_tells (length (newest ∷ ticks)) tick) [
      | inl h ↦ rw h.0 refl
      | inr h ↦ (let more = h.1 in absurd (omega (arith, few, more)))
    ]

until_earlier : (newest : TickBlock) (ticks : List TickBlock) (tick : ℕ) → tick ≤ length ticks → ticks_until tick (newest ∷ ticks) ≡ ticks_until tick ticks
until_earlier newest ticks tick early =
    elim (leb_tells (length (newest ∷ ticks)) tick) [
      | inl h ↦ (let few = h.1 in absurd (omega (arith, few, early)))
      | inr h ↦ rw h.0 refl
    ]

-- where a tick begins, in the list of all
module _ (events : List Event) (starts before : List ℕ) (start : ℕ) (starts_are : starts ≡ before ++ start ∷ []) (within : start ≤ length events) where
  abbrev earlier_ones : List Event
  earlier_ones = take start events

  kept : length earlier_ones ≡ start
  kept = length-take-le start events within

  start_before : (place : ℕ) → place < length before → get_or starts place (length events) ≡ get_or before place (length earlier_ones)
  start_before place in_it =
      ap (λ all. get_or all place (length events)) starts_are ∙ get_or_append_left before (start ∷ []) (length events) place in_it
      ∙ get_or_default before place (length events) (length earlier_ones) in_it

  start_last : (place : ℕ) → place ≡ length before → get_or starts place (length events) ≡ start
  start_last place is =
      ap (λ all. get_or all place (length events)) starts_are
      ∙ get_or-append_right before (start ∷ []) (length before) place (length events) refl (omega (arith, is))
      ∙ ap (λ n. get_or (start ∷ []) n (length events)) (let none : place - length before ≡ 0 = omega (arith, is) in none)

  start_past : (place : ℕ) → length before < place → get_or starts place (length events) ≡ length events
  start_past place far =
      let many = ap length starts_are ∙ length-append before (start ∷ []) in
      get_or_past starts place (length events) (omega (arith, many, far))

  -- of the last tick before, the end is where the last begins
  start_next : (place : ℕ) → place ≤ length before → get_or starts place (length events) ≡ get_or before place (length earlier_ones)
  start_next place low =
      elim (leb_tells (length before) place) [
        | inl h ↦ (let least = h.1 in start_last place (omega (arith, least, low)) ∙ sym kept ∙ sym (get_or_past before place (length earlier_ones) least))
        | inr h ↦ start_before place h.1
      ]

pub start_within : (ticks : List TickBlock) (events : List Event) (starts : List ℕ) → ArePartedEvents ticks events starts
    → (place : ℕ) → get_or starts place (length events) ≤ length events
start_within [] events starts told place = rw told.1 (omega arith)
start_within (newest ∷ ticks) events starts told place =
    elim (leb_tells place (length told.before)) [
      | inl h ↦
          (let is = start_next events starts told.before told.start told.starts_are told.within place h.1 in
          let low = start_within ticks (take told.start events) told.before told.earlier place in
          let short = length-take-le told.start events told.within in
          let within = told.within in
          omega (arith, is, low, short, within))
      | inr h ↦ (let is = start_past events starts told.before told.start told.starts_are told.within place h.1 in omega (arith, is))
    ]

-- the events of a tick lie between two starts
abbrev pub part_of : List Event → List ℕ → ℕ → List Event
part_of events starts tick =
    drop (get_or starts (tick - 1) (length events)) (take (get_or starts tick (length events)) events)

pub tick_told : (ticks : List TickBlock) (events : List Event) (starts : List ℕ) → ArePartedEvents ticks events starts
    → (tick : ℕ) → 1 ≤ tick → tick ≤ length ticks → TellsEventsOfTick ticks tick (part_of events starts tick)
tick_told [] events starts told tick low high = absurd (omega (arith, low, high))
tick_told (newest ∷ ticks) events starts told tick low high =
    let count = starts_counted ticks (take told.start events) told.before told.earlier in
    elim (leb_tells tick (length ticks)) [
      | inl h ↦
          (let early = h.1 in
          let is = tick_told ticks (take told.start events) told.before told.earlier tick low early in
          let from = start_next events starts told.before told.start told.starts_are told.within (tick - 1) (omega (arith, count, early)) in
          let to = start_next events starts told.before told.start told.starts_are told.within tick (omega (arith, count, early)) in
          let by = start_within ticks (take told.start events) told.before told.earlier tick in
          let short = length-take-le told.start events told.within in
          let same : part_of (take told.start events) told.before tick ≡ part_of events starts tick =
          ap (λ es. drop (get_or told.before (tick - 1) (length (take told.start events))) es)
          (take-take (get_or told.before tick (length (take told.start events))) told.start events (omega (arith, by, short)))
          ∙ ap (λ n. drop n (take (get_or told.before tick (length (take told.start events))) events)) (sym from)
          ∙ ap (λ n. drop (get_or starts (tick - 1) (length events)) (take n events)) (sym to) in
          record {
            block = is.block;
            is_newest = until_earlier newest ticks tick early ∙ is.is_newest
                ∙ ap (λ ts. is.block ∷ ts) (sym (until_earlier newest ticks (tick - 1) (omega (arith, early))));
            events_are = is.events_are ∙ ap (map event_view) same;
          })
      | inr h ↦
          (let late = h.1 in
          let last : tick ≡ length ticks + 1 = (let high = high in omega (arith, high, late)) in
          let from = start_last events starts told.before told.start told.starts_are told.within (tick - 1) (omega (arith, count, last)) in
          let to = start_past events starts told.before told.start told.starts_are told.within tick (omega (arith, count, last)) in
          let same : part_of events starts tick ≡ drop told.start events =
          ap (λ n. drop n (take (get_or starts tick (length events)) events)) from
          ∙ ap (λ n. drop told.start (take n events)) to ∙ ap (drop told.start) (take_all (length events) events (omega arith)) in
          record {
            block = newest;
            is_newest = until_all (newest ∷ ticks) tick (omega (arith, last))
                ∙ ap (λ ts. newest ∷ ts) (sym (until_earlier newest ticks (tick - 1) (omega (arith, last)) ∙ until_all ticks (tick - 1) (omega (arith, last))));
            events_are = sym told.last ∙ ap (map event_view) (sym same);
          })
    ]
