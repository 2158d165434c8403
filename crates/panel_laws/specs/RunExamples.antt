-- One run in two orders of turns, with what the definitions of the whole have to give for it.
use Rattle.std.specs.Prelude.{◌≡◌, ℕ, zero, suc, ◌==◌, Bool, true, false, List, [], ◌∷◌, map, reverse, slice_index}
use Rattle.std.specs.Prelude.{None, if◌then◌else◌}
use Rattle.tick_units.specs.declared.seat.Seat.{Seat}
use Rattle.tick_units.specs.Orders.{canonical_seats}
use Rattle.site_types.specs.declared.buzzer.Buzzer.{Buzzer}
use Rattle.site_types.specs.declared.buzzer.Buzzer.TheVariants.{Off, Fire}
use Rattle.site_types.specs.declared.combine.Combine.TheVariants.{Any}
use Rattle.site_types.specs.declared.event.Event.{Event}
use Rattle.site_types.specs.declared.event.Event.TheVariants.{Point as PointEvent}
use Rattle.site_types.specs.declared.loop_plan.LoopPlan.{LoopPlan}
use Rattle.site_types.specs.declared.marker.Marker.{Marker}
use Rattle.site_types.specs.declared.operation.Operation.TheVariants.{Reset}
use Rattle.site_types.specs.declared.output.Output.{Output}
use Rattle.site_types.specs.declared.output_kind.OutputKind.TheVariants.{Sounder}
use Rattle.site_types.specs.declared.point.Point.{Point}
use Rattle.site_types.specs.declared.point_state.PointState.TheVariants.{Alarm}
use Rattle.site_types.specs.declared.rule.Rule.TheVariants.{Plain}
use Rattle.site_types.specs.declared.site.Site.{Site}
use Rattle.site_types.specs.declared.term.Term.TheVariants.{Zone as ZoneTerm}
use Rattle.site_types.specs.declared.zone.Zone.{Zone}
use Rattle.site_types.specs.Changes.{nothing_retained}
use Rattle.panel_rules.specs.Moments.{TickBlock, moments}
use Rattle.panel_rules.specs.Zones.{holds_alarm}
use Rattle.panel_rules.specs.Batches.{kept_after}
use Rattle.panel_rules.specs.Outputs.{is_on}
use Rattle.panel_rules.specs.Run.{facts_of}
use Rattle.panel_rules.specs.Faces.{buzzer_of}
use Rattle.panel_laws.specs.Examples.{bare}

-- what the small site is made of
pub record Parts : Type 0 where
  pub site : Site
  pub plan : LoopPlan
  pub zone : Zone
  pub point : Point
  pub output : Output
  pub marker : Marker

-- a site of one panel: a detector at address 9 of a loop, in a zone, and a sounder for that zone
abbrev pub small : Parts → Site
small parts =
    record (bare parts.site) {
      loops = record parts.plan { panel = 1; line = 1; last = 9; isolators = [] } ∷ [];
      zones = record parts.zone { panel = 1; number = 1; rule = Plain; partner = None } ∷ [];
      points = record parts.point { panel = 1; line = 1; address = 9; zone = 0; manual = false } ∷ [];
      outputs = record parts.output { panel = 1; number = 1; kind = Sounder; marker = 0; delay = 0 } ∷ [];
      markers = record parts.marker { combine = Any; terms = ZoneTerm 0 ∷ [] } ∷ [];
    }

-- the detector is in alarm from tick 1 on; each tick has an order
abbrev pub alarm_in_first : ℕ → List Event
alarm_in_first tick = if tick == 1 then PointEvent 0 Alarm ∷ [] else []

abbrev pub ticks_in : List Seat → ℕ → List TickBlock
ticks_in order zero = []
ticks_in order (suc n) = record { events = alarm_in_first (suc n); order = order; failed = false }
    ∷ ticks_in order n

abbrev pub canonical : List Seat
canonical = canonical_seats 1

abbrev pub reversed : List Seat
reversed = reverse (canonical_seats 1)

-- whether the zone is in alarm after so many ticks, and what is counted by then
abbrev pub alarm_after : Parts → List Seat → ℕ → Bool
alarm_after parts order n = holds_alarm (small parts) nothing_retained [] 1 (moments (ticks_in order n)) 0

abbrev pub counted_after : Parts → List Seat → ℕ → ℕ
counted_after parts order n =
    slice_index (kept_after (small parts) nothing_retained (moments (ticks_in order n))).counters 0

-- in canonical order the zone is in alarm and counted after tick 1; in reversed order it is in alarm after
-- tick 3, and counted after tick 4
abbrev pub ZoneInBothOrders : Type 0
ZoneInBothOrders =
    (parts : Parts) → (map (alarm_after parts canonical) (1 ∷ 2 ∷ []) ≡ true ∷ true ∷ [])
    × (map (alarm_after parts reversed) (1 ∷ 2 ∷ 3 ∷ []) ≡ false ∷ false ∷ true ∷ [])

abbrev pub CountInBothOrders : Type 0
CountInBothOrders = (parts : Parts) → (map (counted_after parts canonical) (1 ∷ 2 ∷ []) ≡ 1 ∷ 1 ∷ [])
    × (map (counted_after parts reversed) (3 ∷ 4 ∷ []) ≡ 0 ∷ 1 ∷ [])

-- whether the output is on, and what the buzzer sounds
abbrev pub output_after : Parts → List Seat → ℕ → Bool
output_after parts order n =
    is_on (small parts) (facts_of (small parts) nothing_retained []) nothing_retained [] 0
    (moments (ticks_in order n))

abbrev pub buzzer_after : Parts → List Seat → ℕ → Buzzer
buzzer_after parts order n = buzzer_of (small parts) nothing_retained [] 1 (moments (ticks_in order n))

-- in canonical order the output is on after tick 1, in reversed order after tick 6
abbrev pub OutputInBothOrders : Type 0
OutputInBothOrders = (parts : Parts) → (output_after parts canonical 1 ≡ true)
    × (map (output_after parts reversed) (4 ∷ 5 ∷ 6 ∷ []) ≡ false ∷ false ∷ true ∷ [])

-- the buzzer sounds with the zone
abbrev pub BuzzerInBothOrders : Type 0
BuzzerInBothOrders = (parts : Parts) → (buzzer_after parts canonical 1 ≡ Fire)
    × (map (buzzer_after parts reversed) (2 ∷ 3 ∷ []) ≡ Off ∷ Fire ∷ [])

-- after a reset in tick 13, which is an asking too, the zone is off after tick 14 in either order, and on
-- again after tick 25 or 27
abbrev pub reset_then : Parts → List Seat → ℕ → Bool
reset_then parts order n =
    holds_alarm (small parts) nothing_retained (record { tick = 13; panel = 1; operation = Reset } ∷ []) 1
    (moments (ticks_in order n)) 0

abbrev pub ResetInBothOrders : Type 0
ResetInBothOrders =
    (parts : Parts)
    → (map (reset_then parts canonical) (13 ∷ 14 ∷ 24 ∷ 25 ∷ []) ≡ true ∷ false ∷ false ∷ true ∷ [])
    × (map (reset_then parts reversed) (13 ∷ 14 ∷ 26 ∷ 27 ∷ []) ≡ true ∷ false ∷ false ∷ true ∷ [])
