-- Small cases of outputs, with what the definitions have to give for them.
use Rattle.std.specs.Prelude.{◌≡◌, ℕ, zero, suc, ◌==◌, ◌&&◌, nat_le, nat_lt, Bool, true, false, List, [], ◌∷◌, map}
use Rattle.std.specs.Prelude.{if◌then◌else◌}
use Rattle.tick_units.specs.Orders.{canonical_seats}
use Rattle.site_types.specs.declared.combine.Combine.TheVariants.{Any}
use Rattle.site_types.specs.declared.event.Event.{Event}
use Rattle.site_types.specs.declared.event.Event.TheVariants.{Confirmed}
use Rattle.site_types.specs.declared.marker.Marker.{Marker}
use Rattle.site_types.specs.declared.operation.Operation.{Operation}
use Rattle.site_types.specs.declared.operation.Operation.TheVariants.{Override, Silence, Resound, Disable, Enable}
use Rattle.site_types.specs.declared.operation.Operation.TheVariants.{Delays}
use Rattle.site_types.specs.declared.item.Item.TheVariants.{Output as OutputItem}
use Rattle.site_types.specs.declared.output.Output.{Output}
use Rattle.site_types.specs.declared.output_kind.OutputKind.{OutputKind}
use Rattle.site_types.specs.declared.output_kind.OutputKind.TheVariants.{Sounder, Relay, Routing}
use Rattle.site_types.specs.declared.site.Site.{Site}
use Rattle.site_types.specs.declared.term.Term.TheVariants.{Zone}
use Rattle.site_types.specs.declared.zone.Zone.{Zone as ZonePlan}
use Rattle.site_types.specs.Changes.{nothing_retained}
use Rattle.site_types.specs.Done.{Done}
use Rattle.panel_rules.specs.Moments.{Moment, TickBlock, moments, tick_of}
use Rattle.panel_rules.specs.Markers.{Facts}
use Rattle.panel_rules.specs.Outputs.{is_on, is_confirmed_out, has_lasted, on_run}
use Rattle.panel_laws.specs.Examples.{bare}

-- a site of one panel with two zones and one output of a kind and a delay, whose marker is any of zones 0 and
-- 1
abbrev pub with_output : Site → ZonePlan → Output → Marker → OutputKind → ℕ → Site
with_output site zone output marker kind delay =
    record (bare site) {
      zones = zone ∷ zone ∷ [];
      outputs = record output { panel = 1; number = 1; kind = kind; marker = 0; delay = delay } ∷ [];
      markers = record marker { combine = Any; terms = Zone 0 ∷ Zone 1 ∷ [] } ∷ [];
    }

-- so many ticks in which nothing befalls but the turns
abbrev pub idle_ticks : ℕ → List TickBlock
idle_ticks zero = []
idle_ticks (suc n) = record { events = []; order = canonical_seats 1; failed = false } ∷ idle_ticks n

-- facts that have zone 0 released from one tick on and before another, and zone 1 from a third tick on; in
-- alarm by hand is zone 0 from a fourth tick on
abbrev pub facts_between : ℕ → ℕ → ℕ → ℕ → ℕ → List Moment → Facts
facts_between first last other hand panel before =
    record {
      released = λ zone. if zone == 0 then nat_le first (tick_of before)
          && nat_lt (tick_of before) last else nat_le other (tick_of before);
      by_hand = λ zone. (zone == 0) && nat_le hand (tick_of before);
      faulty = λ source. false;
    }

abbrev pub done_at : ℕ → Operation → Done
done_at tick operation = record { tick = tick; panel = 1; operation = operation }

-- whether the output is on after ticks 1, 2 and so on
abbrev pub on_after : Site → (ℕ → List Moment → Facts) → List Done → List ℕ → List Bool
on_after site facts done ticks =
    map (λ tick. is_on site facts nothing_retained done 0 (moments (idle_ticks tick))) ticks

-- never
abbrev pub never : ℕ
never = 1000

-- a sounder for zones 0 and 1, zone 0 released from tick 2 on: silenced in tick 3 it is off from 4 on; zone 1
-- is released in 6 and it is on again; silenced in 7 it is off in 8; a resound in 8 has it on in 9
abbrev pub Silenced : Type 0
Silenced =
    (site : Site) (zone : ZonePlan) (output : Output) (marker : Marker)
    → on_after (with_output site zone output marker Sounder 0) (facts_between 2 never 6 never)
    (done_at 8 Resound ∷ done_at 7 Silence ∷ done_at 3 Silence ∷ []) (1 ∷ 2 ∷ 3 ∷ 4 ∷ 5 ∷ 6 ∷ 7 ∷ 8 ∷ 9
    ∷ [])
    ≡ false ∷ true ∷ true ∷ false ∷ false ∷ true ∷ true ∷ false ∷ true ∷ []

-- a silence holds a sounder alone
abbrev pub NotSilenced : Type 0
NotSilenced =
    (site : Site) (zone : ZonePlan) (output : Output) (marker : Marker)
    → on_after (with_output site zone output marker Relay 0) (facts_between 2 never never never)
    (done_at 3 Silence ∷ []) (1 ∷ 2 ∷ 3 ∷ 4 ∷ 5 ∷ []) ≡ false ∷ true ∷ true ∷ true ∷ true ∷ []

-- an output with a delay of 3, asked from tick 2 on, is on from 5 on; a request that is broken off begins
-- anew
abbrev pub Delayed : Type 0
Delayed =
    (site : Site) (zone : ZonePlan) (output : Output) (marker : Marker)
    → (on_after (with_output site zone output marker Relay 3) (facts_between 2 never never never) []
    (1 ∷ 2 ∷ 3 ∷ 4 ∷ 5 ∷ 6 ∷ []) ≡ false ∷ false ∷ false ∷ false ∷ true ∷ true ∷ [])
    × (on_after (with_output site zone output marker Relay 3) (facts_between 2 4 5 never) [] (4 ∷ 5 ∷ 6 ∷ 7
    ∷ 8 ∷ []) ≡ false ∷ false ∷ false ∷ false ∷ true ∷ [])

-- an override in tick 3 has it on from 4 on; an override in tick 1, before the request, does nothing
abbrev pub Overridden : Type 0
Overridden =
    (site : Site) (zone : ZonePlan) (output : Output) (marker : Marker)
    → (on_after (with_output site zone output marker Relay 3) (facts_between 2 never never never)
    (done_at 3 Override ∷ []) (2 ∷ 3 ∷ 4 ∷ 5 ∷ []) ≡ false ∷ false ∷ true ∷ true ∷ [])
    × (on_after (with_output site zone output marker Relay 3) (facts_between 2 never never never)
    (done_at 1 Override ∷ []) (2 ∷ 3 ∷ 4 ∷ 5 ∷ []) ≡ false ∷ false ∷ false ∷ true ∷ [])

-- a manual call point in tick 3 has it on at once, and so have delays that are off, from the tick after
abbrev pub AtOnce : Type 0
AtOnce =
    (site : Site) (zone : ZonePlan) (output : Output) (marker : Marker)
    → (on_after (with_output site zone output marker Relay 3) (facts_between 2 never never 3) [] (2 ∷ 3 ∷ 4
    ∷ []) ≡ false ∷ true ∷ true ∷ [])
    × (on_after (with_output site zone output marker Relay 3) (facts_between 2 never never never)
    (done_at 2 (Delays false) ∷ []) (2 ∷ 3 ∷ 4 ∷ []) ≡ false ∷ true ∷ true ∷ [])

-- disabled in tick 2 and enabled in tick 4 it is off in 3 and 4, and its delay runs on meanwhile
abbrev pub Disabled : Type 0
Disabled =
    (site : Site) (zone : ZonePlan) (output : Output) (marker : Marker)
    → on_after (with_output site zone output marker Relay 1) (facts_between 1 never never never)
    (done_at 4 (Enable (OutputItem 0)) ∷ done_at 2 (Disable (OutputItem 0)) ∷ []) (1 ∷ 2 ∷ 3 ∷ 4 ∷ 5 ∷ [])
    ≡ false ∷ true ∷ false ∷ false ∷ true ∷ []

-- ticks with confirmations of the output in one of them
abbrev pub confirmed_tick : ℕ → ℕ → List Event
confirmed_tick tick confirmation = if tick == confirmation then Confirmed 0 ∷ [] else []

abbrev pub confirmed_ticks : ℕ → ℕ → List TickBlock
confirmed_ticks confirmation zero = []
confirmed_ticks confirmation (suc n) =
    record { events = confirmed_tick (suc n) confirmation; order = canonical_seats 1; failed = false }
    ∷ confirmed_ticks confirmation n

abbrev pub confirmed_after : Site → (ℕ → List Moment → Facts) → ℕ → List ℕ → List Bool
confirmed_after site facts confirmation ticks =
    map
    (λ tick. is_confirmed_out site facts nothing_retained [] 0 (moments (confirmed_ticks confirmation tick)))
    ticks

-- an output on from tick 2 to tick 5 is confirmed by a line in tick 3 until it goes off; a line in the tick
-- in which it goes on does nothing
abbrev pub ConfirmedWhileOn : Type 0
ConfirmedWhileOn =
    (site : Site) (zone : ZonePlan) (output : Output) (marker : Marker)
    → (confirmed_after (with_output site zone output marker Routing 0) (facts_between 2 6 7 never) 3
    (2 ∷ 3 ∷ 4 ∷ 5 ∷ 6 ∷ 7 ∷ 8 ∷ []) ≡ false ∷ true ∷ true ∷ true ∷ false ∷ false ∷ false ∷ [])
    × (confirmed_after (with_output site zone output marker Routing 0) (facts_between 2 6 7 never) 2
    (2 ∷ 3 ∷ 4 ∷ []) ≡ false ∷ false ∷ false ∷ [])

-- whether it has been on for 2 ticks without end
abbrev pub LastsFrom : Type 0
LastsFrom =
    (site : Site) (zone : ZonePlan) (output : Output) (marker : Marker)
    → map (λ tick. has_lasted 2 (on_run (with_output site zone output marker Routing 0) (facts_between 2
    6 7 never) nothing_retained [] 0 (moments (idle_ticks tick)))) (1 ∷ 2 ∷ 3 ∷ 4 ∷ 5 ∷ 6 ∷ 7 ∷ 8 ∷ 9
    ∷ [])
    ≡ false ∷ false ∷ false ∷ true ∷ true ∷ false ∷ false ∷ false ∷ true ∷ []
