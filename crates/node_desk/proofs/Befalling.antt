-- What befell a panel by itself in a tick, and what befell it then by its history.
use Rattle.std.proofs.Common.{◌≡◌, ◌∙◌, ◌++◌, Bool, List, [], ◌∷◌, map, refl, ap}
use Rattle.tick_units.specs.declared.seat.Seat.{Seat}
use Rattle.site_types.specs.declared.event.Event.{Event}
use Rattle.node_answers.specs.Exchanges.{at_tick_end}
use Rattle.node_rules.specs.Histories.{NodeMoment, Befell, befallen}
use Rattle.panel_node.specs.Seats.{and_seats}
use Rattle.panel_rules.specs.Moments.{Moment, Began, Happened, TickBlock, and_events, and_turns, moments, turn_of}

-- a history in which these moments befell behind another
abbrev pub and_befell : List Moment → List NodeMoment → List NodeMoment
and_befell ms history = map (λ (moment : Moment). Befell moment) ms ++ history

pub befallen_befell : (ms : List Moment) (history : List NodeMoment) → befallen (and_befell ms history) ≡ ms ++ befallen history
befallen_befell [] history = refl
befallen_befell (m ∷ ms) history = ap (λ xs. m ∷ xs) (befallen_befell ms history)

events_front : (events : List Event) (ms past : List Moment) → and_events events ms ++ past ≡ and_events events (ms ++ past)
events_front [] ms past = refl
events_front (event ∷ events) ms past = events_front events (Happened event ∷ ms) past

turns_front : (failed : Bool) (seats : List Seat) (ms past : List Moment) → and_turns failed seats ms ++ past ≡ and_turns failed seats (ms ++ past)
turns_front failed [] ms past = refl
turns_front failed (seat ∷ seats) ms past = turns_front failed seats (turn_of failed seat.panel seat.task ∷ ms) past

-- a tick has begun behind a history, and these events came in it
pub befallen_events : (events : List Event) (history : List NodeMoment) (ticks : List TickBlock) → befallen history ≡ moments ticks
    → befallen (and_befell (and_events events (Began ∷ [])) history) ≡ and_events events (Began ∷ moments ticks)
befallen_events events history ticks same =
    befallen_befell (and_events events (Began ∷ [])) history
    ∙ events_front events (Began ∷ []) (befallen history)
    ∙ ap (λ xs. and_events events (Began ∷ xs)) same

-- and its turns were made
pub befallen_tick : (tick : TickBlock) (history : List NodeMoment) (ticks : List TickBlock) → befallen history ≡ moments ticks
    → befallen (and_befell (moments (tick ∷ [])) history) ≡ moments (tick ∷ ticks)
befallen_tick tick history ticks same =
    befallen_befell (moments (tick ∷ [])) history
    ∙ turns_front tick.failed tick.order (and_events tick.events (Began ∷ [])) (befallen history)
    ∙ ap (and_turns tick.failed tick.order) (events_front tick.events (Began ∷ []) (befallen history))
    ∙ ap (λ xs. and_turns tick.failed tick.order (and_events tick.events (Began ∷ xs))) same

pub seats_befell : (failed : Bool) (seats : List Seat) (ms : List Moment) (history : List NodeMoment)
    → and_seats failed seats (and_befell ms history) ≡ and_befell (and_turns failed seats ms) history
seats_befell failed [] ms history = refl
seats_befell failed (seat ∷ seats) ms history = seats_befell failed seats (turn_of failed seat.panel seat.task ∷ ms) history

-- ---- the end of a tick

-- such a history ends with what befell, not with a frame
abbrev EndsSo : List Moment → List NodeMoment → Type 0
EndsSo ms history = at_tick_end (and_befell ms history) ≡ and_befell ms history

ends_events : (events : List Event) (ms : List Moment) (history : List NodeMoment) → EndsSo ms history → EndsSo (and_events events ms) history
ends_events [] ms history ends = ends
ends_events (event ∷ events) ms history ends = ends_events events (Happened event ∷ ms) history refl

ends_turns : (failed : Bool) (seats : List Seat) (ms : List Moment) (history : List NodeMoment) → EndsSo ms history
    → EndsSo (and_turns failed seats ms) history
ends_turns failed [] ms history ends = ends
ends_turns failed (seat ∷ seats) ms history ends = ends_turns failed seats (turn_of failed seat.panel seat.task ∷ ms) history refl

pub ends_tick : (tick : TickBlock) (history : List NodeMoment)
    → at_tick_end (and_befell (moments (tick ∷ [])) history) ≡ and_befell (moments (tick ∷ [])) history
ends_tick tick history =
    ends_turns tick.failed tick.order (and_events tick.events (Began ∷ [])) history (ends_events tick.events (Began ∷ []) history refl)
