-- Small cases of zones in alarm and of the ring, with what the definitions have to give for them.
use Rattle.std.specs.Prelude.{◌≡◌, ℕ, zero, suc, Bool, true, false, List, [], ◌∷◌, map, reverse, Option, Some, None}
use Rattle.tick_units.specs.Orders.{canonical_seats}
use Rattle.site_types.specs.declared.answer.Answer.{Answer}
use Rattle.site_types.specs.declared.event.Event.TheVariants.{Link}
use Rattle.site_types.specs.declared.heard.Heard.TheVariants.{Quiet, Alarm}
use Rattle.site_types.specs.declared.operation.Operation.{Operation}
use Rattle.site_types.specs.declared.operation.Operation.TheVariants.{Reset, Cancel, Disable, Enable, Test}
use Rattle.site_types.specs.declared.item.Item.TheVariants.{Point as PointItem}
use Rattle.site_types.specs.declared.point.Point.{Point as PointPlan}
use Rattle.site_types.specs.declared.rule.Rule.{Rule}
use Rattle.site_types.specs.declared.rule.Rule.TheVariants.{Plain, A, B, C}
use Rattle.site_types.specs.declared.site.Site.{Site}
use Rattle.site_types.specs.declared.zone.Zone.{Zone as ZonePlan}
use Rattle.site_types.specs.Changes.{nothing_retained}
use Rattle.site_types.specs.Done.{Done}
use Rattle.coincidence_rules.specs.Alarm.{is_in_alarm, is_released}
use Rattle.coincidence_rules.specs.First.{is_first}
use Rattle.panel_rules.specs.Moments.{TickBlock, moments}
use Rattle.panel_rules.specs.Kept.{heard}
use Rattle.panel_laws.specs.Examples.{bare}

-- a point of panel 1 on loop 1
abbrev pub point_at_address : PointPlan → ℕ → ℕ → Bool → PointPlan
point_at_address point address zone manual =
    record point { panel = 1; line = 1; address = address; zone = zone; manual = manual }

-- two zones of a type, partners where it is so said, with the points: 0 a manual call point, 1 and 2
-- detectors of zone 0, 3 and 4 detectors of zone 1
abbrev pub with_zones : Site → ZonePlan → PointPlan → Rule → Bool → Site
with_zones site zone point rule partners =
    record (bare site) {
      zones = record zone { panel = 1; number = 1; rule = rule; partner = partner_if partners 1 }
          ∷ record zone { panel = 1; number = 2; rule = rule; partner = partner_if partners 0 } ∷ [];
      points =
          point_at_address point 1 0 true
          ∷ point_at_address point 2 0 false
          ∷ point_at_address point 3 0 false
          ∷ point_at_address point 17 1 false
          ∷ point_at_address point 18 1 false
          ∷ [];
    }
  where
    partner_if : Bool → ℕ → Option ℕ
    partner_if true other = Some other
    partner_if false other = None

-- a point answers at a stamp that it is in alarm, or quiet
abbrev pub alarm_at : ℕ → ℕ → Answer
alarm_at point stamp = record { stamp = record { 0 = stamp }; point = point; heard = Alarm }

abbrev pub quiet_at : ℕ → ℕ → Answer
quiet_at point stamp = record { stamp = record { 0 = stamp }; point = point; heard = Quiet }

abbrev pub did : ℕ → Operation → Done
did tick operation = record { tick = tick; panel = 1; operation = operation }

-- what a zone shows at a tick: in alarm, released, in first state
abbrev pub shows : Site → List Done → List Answer → ℕ → ℕ → List Bool
shows site done answers zone tick = is_in_alarm site nothing_retained done answers zone tick
    ∷ is_released site nothing_retained done answers zone tick
    ∷ is_first site nothing_retained done answers zone tick ∷ []

abbrev pub nothing : List Bool
nothing = false ∷ false ∷ false ∷ []

abbrev pub alarm : List Bool
alarm = true ∷ true ∷ false ∷ []

abbrev pub first_state : List Bool
first_state = false ∷ false ∷ true ∷ []

-- type none: an answer confirms the zone; a reset in its own tick undoes it; an answer while the point is
-- disabled, or its zone is in test, does nothing
abbrev pub OneConfirms : Type 0
OneConfirms =
    (site : Site) (zone : ZonePlan) (point : PointPlan)
    → let at : List Done → List Answer → ℕ → List Bool =
    λ done answers tick. shows (with_zones site zone point Plain false) done answers 0 tick in
    (at [] (quiet_at 1 1 ∷ []) 1 ≡ nothing)
    × (at [] (alarm_at 1 1 ∷ []) 1 ≡ alarm)
    × (at (did 13 Reset ∷ []) (alarm_at 1 1 ∷ alarm_at 1 13 ∷ []) 13 ≡ alarm)
    × (at (did 13 Reset ∷ []) (alarm_at 1 1 ∷ alarm_at 1 13 ∷ []) 14 ≡ nothing)
    × (at (did 13 Reset ∷ []) (alarm_at 1 1 ∷ alarm_at 1 13 ∷ alarm_at 1 25 ∷ []) 25 ≡ alarm)
    × (at (did 30 (Enable (PointItem 1)) ∷ did 2 (Disable (PointItem 1)) ∷ []) (alarm_at 1 13 ∷ alarm_at 1 25
    ∷ []) 36 ≡ nothing)
    × (at (did 30 (Enable (PointItem 1)) ∷ did 2 (Disable (PointItem 1)) ∷ []) (alarm_at 1 13 ∷ alarm_at 1 25
    ∷ alarm_at 1 37 ∷ []) 37 ≡ alarm)
    × (at (did 5 (Test 0) ∷ []) (alarm_at 1 13 ∷ []) 13 ≡ nothing)

-- type A with the times 24 and 48: a manual call point confirms at once; one detector by two answers 24 ticks
-- apart with no quiet one between them; two detectors by answers at most 48 ticks apart
abbrev pub OneAgainOrTwo : Type 0
OneAgainOrTwo =
    (site : Site) (zone : ZonePlan) (point : PointPlan)
    → let at : List Answer → ℕ → List Bool =
    λ answers tick. shows (with_zones site zone point (A 24 48) false) [] answers 0 tick in
    (at (alarm_at 0 1 ∷ []) 1 ≡ alarm)
    × (at (alarm_at 1 1 ∷ alarm_at 1 13 ∷ []) 13 ≡ nothing)
    × (at (alarm_at 1 1 ∷ alarm_at 1 13 ∷ alarm_at 1 25 ∷ []) 25 ≡ alarm)
    × (at (alarm_at 1 1 ∷ quiet_at 1 13 ∷ alarm_at 1 25 ∷ alarm_at 1 37 ∷ []) 37 ≡ nothing)
    × (at (alarm_at 1 1 ∷ quiet_at 1 13 ∷ alarm_at 1 25 ∷ alarm_at 1 37 ∷ alarm_at 1 49 ∷ []) 49 ≡ alarm)
    × (at (alarm_at 1 1 ∷ alarm_at 2 49 ∷ []) 49 ≡ alarm)
    × (at (alarm_at 1 1 ∷ alarm_at 2 50 ∷ []) 50 ≡ nothing)
    × (at (alarm_at 1 1 ∷ alarm_at 3 2 ∷ []) 2 ≡ nothing)

-- type B with the time 600, partners: one detector brings the first state until its time ends; a second one
-- 600 ticks later confirms both zones, one 601 ticks later is a first state of its own; a cancelling undoes
-- the first
abbrev pub TwoConfirm : Type 0
TwoConfirm =
    (site : Site) (zone : ZonePlan) (point : PointPlan)
    → let at : List Done → List Answer → ℕ → ℕ → List Bool =
    λ done answers place tick. shows (with_zones site zone point (B 600) true) done answers place tick in
    (at [] (alarm_at 1 1 ∷ []) 0 1 ≡ first_state)
    × (at [] (alarm_at 1 1 ∷ []) 0 601 ≡ first_state)
    × (at [] (alarm_at 1 1 ∷ []) 0 602 ≡ nothing)
    × (at [] (alarm_at 1 1 ∷ alarm_at 3 601 ∷ []) 0 601 ≡ alarm)
    × (at [] (alarm_at 1 1 ∷ alarm_at 3 601 ∷ []) 1 601 ≡ alarm)
    × (at [] (alarm_at 1 1 ∷ alarm_at 3 602 ∷ []) 0 602 ≡ nothing)
    × (at [] (alarm_at 1 1 ∷ alarm_at 3 602 ∷ []) 1 602 ≡ first_state)
    × (at (did 10 (Cancel 0) ∷ []) (alarm_at 1 1 ∷ []) 0 11 ≡ nothing)
    × (at (did 10 (Cancel 0) ∷ []) (alarm_at 1 1 ∷ alarm_at 3 601 ∷ []) 0 601 ≡ nothing)
    × (at (did 10 (Cancel 0) ∷ []) (alarm_at 1 1 ∷ alarm_at 3 601 ∷ []) 1 601 ≡ first_state)
    × (at [] (alarm_at 0 5 ∷ []) 0 5 ≡ alarm)

-- type C: one detector confirms the zone, a second one releases both partners; a manual call point releases
-- its zone
abbrev pub TwoRelease : Type 0
TwoRelease =
    (site : Site) (zone : ZonePlan) (point : PointPlan)
    → let at : List Answer → ℕ → ℕ → List Bool =
    λ answers place tick. shows (with_zones site zone point C true) [] answers place tick in
    (at (alarm_at 1 1 ∷ []) 0 1 ≡ true ∷ false ∷ false ∷ [])
    × (at (alarm_at 1 1 ∷ alarm_at 3 4000 ∷ []) 0 4000 ≡ alarm)
    × (at (alarm_at 1 1 ∷ alarm_at 3 4000 ∷ []) 1 4000 ≡ alarm)
    × (at (alarm_at 0 5 ∷ []) 0 5 ≡ alarm)

-- so many ticks of a site of so many panels, in canonical order
abbrev pub ring_ticks : ℕ → ℕ → List TickBlock
ring_ticks panels zero = []
ring_ticks panels (suc n) = record { events = []; order = canonical_seats panels; failed = false }
    ∷ ring_ticks panels n

-- the stamps that a panel has heard of the panels 1, 2 and so on
abbrev pub heard_by : ℕ → List TickBlock → ℕ → List ℕ → List ℕ
heard_by panels ticks panel sources = map (λ source. heard panels panel source (moments ticks)) sources

-- three panels in canonical order: in a tick words go on to later panels at once, and come back to earlier
-- ones in the next tick; a link that is down carries nothing, and words go the other way round
abbrev pub Goes : Type 0
Goes =
    (heard_by 3 (ring_ticks 3 1) 1 (1 ∷ 2 ∷ 3 ∷ []) ≡ 1 ∷ 0 ∷ 0 ∷ [])
    × (heard_by 3 (ring_ticks 3 1) 3 (1 ∷ 2 ∷ 3 ∷ []) ≡ 1 ∷ 1 ∷ 1 ∷ [])
    × (heard_by 3 (ring_ticks 3 2) 1 (1 ∷ 2 ∷ 3 ∷ []) ≡ 2 ∷ 1 ∷ 1 ∷ [])
    × (heard_by 3 (record { events = Link 1 false ∷ []; order = canonical_seats 3; failed = false } ∷ []) 2
    (1 ∷ 2 ∷ 3 ∷ []) ≡ 0 ∷ 1 ∷ 0 ∷ [])
    × (heard_by 3 (record { events = Link 1 false ∷ []; order = canonical_seats 3; failed = false } ∷ []) 3
    (1 ∷ 2 ∷ 3 ∷ []) ≡ 1 ∷ 1 ∷ 1 ∷ [])

-- five panels: an odd tick carries the words of panels 1 to 4, an even one that of panel 5
abbrev pub GoesInGroups : Type 0
GoesInGroups =
    (heard_by 5 (ring_ticks 5 1) 2 (1 ∷ 2 ∷ 5 ∷ []) ≡ 1 ∷ 1 ∷ 0 ∷ [])
    × (heard_by 5 (ring_ticks 5 1) 1 (1 ∷ 5 ∷ []) ≡ 1 ∷ 0 ∷ [])
    × (heard_by 5 (ring_ticks 5 2) 2 (1 ∷ 2 ∷ []) ≡ 1 ∷ 2 ∷ [])
    × (heard_by 5 (ring_ticks 5 2) 1 (1 ∷ 5 ∷ []) ≡ 2 ∷ 1 ∷ [])

-- so many ticks of a site of eight panels, in reversed order, with link 8 down from tick 1 on
abbrev pub long_ring : ℕ → List TickBlock
long_ring zero = []
long_ring (suc n) = record { events = Link 8 false ∷ []; order = reverse (canonical_seats 8); failed = false }
    ∷ long_ring n

-- what a panel has heard of panel 1 after so many ticks
abbrev pub heard_of_one : ℕ → ℕ → ℕ
heard_of_one panel n = heard 8 panel 1 (moments (long_ring n))

-- in reversed order, along links that carry a word in every other tick, what panel 1 tells in tick 3 has come
-- to panel n after tick 2 n + 1, and not before
abbrev pub GoesSlowly : Type 0
GoesSlowly =
    (heard_of_one 2 4 ∷ heard_of_one 2 5 ∷ [] ≡ 1 ∷ 3 ∷ [])
    × (heard_of_one 3 6 ∷ heard_of_one 3 7 ∷ [] ≡ 1 ∷ 3 ∷ [])
    × (heard_of_one 4 8 ∷ heard_of_one 4 9 ∷ [] ≡ 1 ∷ 3 ∷ [])
    × (heard_of_one 8 17 ≡ 3)
