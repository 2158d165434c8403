-- The record of a drill: its ticks, as the words of a seed draw them.
use Rattle.std.specs.Prelude.{◌+◌, ◌*◌, ◌/◌, ◌%◌, ◌==◌, ℕ, zero, suc, Bool, false, List, [], ◌∷◌, Option, Some, None}
use Rattle.std.specs.Prelude.{if◌then◌else◌, reverse}
use Rattle.rand_core.specs.Pcg32Seed.{pcg32_seed}
use Rattle.rand_pcg.specs.Lcg.{Lcg}
use Rattle.rand_pcg.specs.Pcg.{pcg32, pcg32_of_seed}
use Rattle.tick_units.specs.declared.seat.Seat.{Seat}
use Rattle.tick_units.specs.Orders.{canonical_seats}
use Rattle.site_types.specs.declared.event.Event.{Event}
use Rattle.site_types.specs.declared.event.Event.TheVariants.{Point}
use Rattle.site_types.specs.declared.point_state.PointState.{PointState}
use Rattle.site_types.specs.declared.point_state.PointState.TheVariants.{Quiet, Alarm, Gone}
use Rattle.site_types.specs.declared.site.Site.{Site}
use Rattle.site_types.specs.Events.{has_event}
use Rattle.panel_rules.specs.Moments.{TickBlock}
use Rattle.drill_record.specs.declared.drawn.Drawn.{Drawn}

-- ---- the words of a seed

-- the generator of a seed
unfoldable pub seeded : ℕ → Lcg
seeded seed = pcg32_of_seed (pcg32_seed 16 seed)

-- the generator of a seed when so many words were drawn
abbrev pub after_words : ℕ → ℕ → Lcg
after_words seed zero = seeded seed
after_words seed (suc n) = (pcg32 (after_words seed n)).1

-- the word that the generator of a seed draws when so many words were drawn
abbrev pub word_behind : ℕ → ℕ → ℕ
word_behind seed n = (pcg32 (after_words seed n)).0

-- ---- what two words draw

abbrev pub state_by : ℕ → PointState
state_by zero = Quiet
state_by (suc zero) = Alarm
state_by (suc (suc n)) = Gone

-- a word that is a multiple of 4 tells an event: the state of a point
abbrev pub event_by : ℕ → Option Event
event_by word =
    if word % 4 == 0 then Some (Point (word / 4 % 3072) (state_by (word / 12288 % 3))) else None

-- an odd word turns the order of a tick round
abbrev pub drawn_by : ℕ → ℕ → Drawn
drawn_by first second = record { event = event_by first; reversed = second % 2 == 1 }

-- what a seed draws of the tick behind so many, by the two words of that tick
abbrev pub drawn_behind : ℕ → ℕ → Drawn
drawn_behind seed n = drawn_by (word_behind seed (2 * n)) (word_behind seed (2 * n + 1))

-- ---- ticks

abbrev pub order_drawn : ℕ → Bool → List Seat
order_drawn panels reversed = if reversed then reverse (canonical_seats panels) else canonical_seats panels

-- the event that was drawn, where the site has the point that it names
abbrev pub events_of : Site → Option Event → List Event
events_of site None = []
events_of site (Some event) = if has_event site event then event ∷ [] else []

-- a tick of a site, in which Keep's turn doesn't fail
abbrev pub tick_drawn : Site → Drawn → TickBlock
tick_drawn site drawn =
    record { events = events_of site drawn.event; order = order_drawn site.panels drawn.reversed; failed = false }

-- the record of a seed for a site, with so many ticks, the newest first
abbrev pub drill_ticks : Site → ℕ → ℕ → List TickBlock
drill_ticks site seed zero = []
drill_ticks site seed (suc n) = tick_drawn site (drawn_behind seed n) ∷ drill_ticks site seed n
