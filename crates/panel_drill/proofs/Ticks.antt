-- The ticks of a drill's record: they are a run, and ask for nothing.
use Rattle.std.proofs.Common.{◌≡◌, ◌∙◌, ◌*◌, ◌%◌, ◌/◌, ◌==◌, ℕ, zero, suc, Bool, true, false, List, [], ◌∷◌, Some, None, arith, refl, if◌then◌else◌}
use Rattle.tick_units.specs.Orders.{IsOrder, canonical_seats}
use Rattle.tick_units.proofs.OrderLaws.{IsOrder-canonical_seats, IsOrder-reverse}
use Rattle.site_types.specs.declared.event.Event.{Event}
use Rattle.site_types.specs.declared.event.Event.TheVariants.{Point}
use Rattle.site_types.specs.declared.site.Site.{Site}
use Rattle.site_types.specs.Changes.{nothing_retained}
use Rattle.retained_journal.specs.declared.journal.Journal.{Journal}
use Rattle.panel_rules.specs.Moments.{Moment, Began, and_events, tick_of}
use Rattle.panel_rules.specs.Operations.{requests}
use Rattle.panel_rules.specs.Records.{AreOrdered}
use Rattle.panel_core.specs.Keeping.{KeepsRun}
use Rattle.panel_core.proofs.Orders.{turns_ask, turns_tick}
use Rattle.drill_record.specs.Records.{drawn_behind, drill_ticks, event_by, events_of, order_drawn, state_by, word_behind}
use Rattle.panel_drill.specs.Running.{drill_moments}
use Rattle.site_types.specs.Events.{has_event}

-- the order of a tick, canonical or backwards
pub drawn_order : (panels : ℕ) (reversed : Bool) → IsOrder panels (order_drawn panels reversed)
drawn_order panels true = IsOrder-reverse panels (canonical_seats panels) (IsOrder-canonical_seats panels)
drawn_order panels false = IsOrder-canonical_seats panels

pub ordered : (site : Site) (seed n : ℕ) → AreOrdered site.panels (drill_ticks site seed n)
ordered site seed zero = tt
ordered site seed (suc n) = (ordered site seed n, drawn_order site.panels (drawn_behind seed n).reversed)

-- ---- what a word tells

module _ (site : Site) (word : ℕ) where
  abbrev drawn_event : Event
  drawn_event = Point (word / 4 % 3072) (state_by (word / 12288 % 3))

  -- one event of a point, or none
  one_or_none : (P : List Event → Type 0) → P [] → P (drawn_event ∷ []) → P (events_of site (event_by word))
  one_or_none P none one = drawn (word % 4 == 0)
    where
      had : (b : Bool) → P (if b then drawn_event ∷ [] else [])
      had true = one
      had false = none

      drawn : (b : Bool) → P (events_of site (if b then Some drawn_event else None))
      drawn true = had (has_event site drawn_event)
      drawn false = none

  module _ (before : List Moment) where
    pub event_asks : requests site (and_events (events_of site (event_by word)) before) ≡ requests site before
    event_asks = one_or_none (λ events. requests site (and_events events before) ≡ requests site before) refl refl

    pub event_tick : tick_of (and_events (events_of site (event_by word)) before) ≡ tick_of before
    event_tick = one_or_none (λ events. tick_of (and_events events before) ≡ tick_of before) refl refl

    pub event_keeps : (journal : Journal) → KeepsRun site nothing_retained before journal
        → KeepsRun site nothing_retained (and_events (events_of site (event_by word)) before) journal
    event_keeps journal h =
        one_or_none (λ events. KeepsRun site nothing_retained (and_events events before) journal) h
        (record { keeps = h.keeps; wide = h.wide; torn = h.torn })

-- ---- the whole record

pub none_asked : (site : Site) (seed n : ℕ) → requests site (drill_moments site seed n) ≡ []
none_asked site seed zero = refl
none_asked site seed (suc n) =
    let word = word_behind seed (2 * n) in
    let before = drill_moments site seed n in
    turns_ask site false (order_drawn site.panels (drawn_behind seed n).reversed) (and_events (events_of site (event_by word)) (Began ∷ before))
    ∙ event_asks site word (Began ∷ before)
    ∙ none_asked site seed n

pub ticks_run : (site : Site) (seed n : ℕ) → tick_of (drill_moments site seed n) ≡ n
ticks_run site seed zero = refl
ticks_run site seed (suc n) =
    let word = word_behind seed (2 * n) in
    let before = drill_moments site seed n in
    let more = turns_tick false (order_drawn site.panels (drawn_behind seed n).reversed) (and_events (events_of site (event_by word)) (Began ∷ before)) in
    let told = event_tick site word (Began ∷ before) in
    let ih = ticks_run site seed n in
    omega (arith, more, told, ih)
