-- Small cases, with what the definitions have to give for them.
use Rattle.std.specs.Prelude.{◌≡◌, ℕ, Bool, true, false, List, [], ◌∷◌, map, None}
use Rattle.tick_units.specs.Orders.{canonical_seats}
use Rattle.site_types.specs.declared.event.Event.TheVariants.{Op}
use Rattle.site_types.specs.declared.item.Item.TheVariants.{Zone}
use Rattle.site_types.specs.declared.operation.Operation.{Operation}
use Rattle.site_types.specs.declared.operation.Operation.TheVariants.{Mute, Silence, Disable, Enable, Clear}
use Rattle.site_types.specs.declared.site.Site.{Site}
use Rattle.site_types.specs.Changes.{nothing_retained}
use Rattle.panel_rules.specs.Moments.{TickBlock, moments}
use Rattle.panel_rules.specs.Operations.{Request, Reply, Busy, Denied, Waiting, Already, Store, WasDone, Answered}
use Rattle.panel_rules.specs.Operations.{Operations, no_operations, operations, after_desk, after_keep}

-- a site of one panel with nothing on it, and no code that opens a level
abbrev pub bare : Site → Site
bare site = record site {
  format = 1;
  panels = 1;
  codes = [];
  loops = [];
  zones = [];
  points = [];
  outputs =
      [];
  markers = [];
}

-- a tick with operations of panel 1 that give no code, in canonical order
abbrev pub tick_with : List Operation → TickBlock
tick_with asked = record {
  events = map (λ operation. Op 1 None operation) asked;
  order =
      canonical_seats 1;
  failed = false;
}

-- an answer as it is printed: its tick, its number, what it says
pub record Printed : Type 0 where
  pub tick : ℕ
  pub number : ℕ
  pub reply : Reply

abbrev pub printed : ℕ → ℕ → Reply → Printed
printed tick number reply = record { tick = tick; number = number; reply = reply }

-- all answers, the newest first
abbrev pub print_all : Operations → List Printed
print_all came = map (λ (a : Answered). printed a.tick a.request.number a.reply) came.answers

-- five mutes in a tick: four are done, and the fifth finds the panel busy
abbrev pub FiveInATick : Type 0
FiveInATick =
    (site : Site)
    → print_all
    (operations (bare site) nothing_retained
    (moments (tick_with (Mute ∷ Mute ∷ Mute ∷ Mute ∷ Mute ∷ []) ∷ [])))
    ≡ printed 1 5 Busy ∷ printed 1 4 WasDone ∷ printed 1 3 WasDone ∷ printed 1 2 WasDone ∷ printed 1 1 WasDone
    ∷ []

-- a silence without a code is denied; numbers go on over the ticks
abbrev pub DeniedWithoutACode : Type 0
DeniedWithoutACode =
    (site : Site)
    → print_all
    (operations (bare site) nothing_retained
    (moments (tick_with (Silence ∷ []) ∷ tick_with [] ∷ tick_with (Mute ∷ []) ∷ [])))
    ≡ printed 3 2 (Denied 2 1) ∷ printed 1 1 WasDone ∷ []

-- an operation of panel 1 that is asked for with the level 4
abbrev pub asked_for : ℕ → ℕ → ℕ → Operation → Request
asked_for number tick earlier operation =
    record { number = number; tick = tick; panel = 1; earlier = earlier; level = 4; operation = operation }

abbrev pub zone_off : Operation
zone_off = Disable (Zone 0)

abbrev pub zone_on : Operation
zone_on = Enable (Zone 0)

-- what became of operations after Desk took these and Keep had its turn in the same tick
abbrev pub and_tick : Site → ℕ → Bool → List Request → Operations → Operations
and_tick site tick failed asked so_far =
    after_keep tick failed (after_desk (bare site) nothing_retained asked so_far)

-- a zone is disabled twice in one tick and again two ticks later: the second waits, and is answered before
-- the first; the third finds it so
abbrev pub TwiceTheSame : Type 0
TwiceTheSame =
    (site : Site)
    → print_all
    (and_tick site 4 false (asked_for 3 4 0 zone_off ∷ [])
    (and_tick site 2 false (asked_for 1 2 0 zone_off ∷ asked_for 2 2 1 zone_off ∷ []) no_operations))
    ≡ printed 4 3 Already ∷ printed 2 1 WasDone ∷ printed 2 2 Waiting ∷ []

-- a disabling that could not be stored leaves nothing behind: the next one is done, also in the next tick,
-- and then enabling is done
abbrev pub NotStored : Type 0
NotStored =
    (site : Site)
    → print_all
    (and_tick site 5 false (asked_for 3 5 0 zone_on ∷ [])
    (and_tick site 4 false (asked_for 2 4 0 zone_off ∷ [])
    (and_tick site 3 true (asked_for 1 3 0 zone_off ∷ []) no_operations)))
    ≡ printed 5 3 WasDone ∷ printed 4 2 WasDone ∷ printed 3 1 Store ∷ []

-- where Keep had its turn before Desk, a clearing waits for the next tick, and one more waits behind it; a
-- counter is never cleared already
abbrev pub ClearedTwice : Type 0
ClearedTwice =
    (site : Site)
    → print_all
    (and_tick site 5 false (asked_for 4 5 0 Clear ∷ [])
    (after_desk (bare site) nothing_retained (asked_for 3 3 0 Clear ∷ [])
    (after_keep 3 false
    (after_desk (bare site) nothing_retained (asked_for 1 2 0 Clear ∷ asked_for 2 2 1 Clear ∷ [])
    no_operations))))
    ≡ printed 5 4 WasDone ∷ printed 3 3 Waiting ∷ printed 3 1 WasDone ∷ printed 2 2 Waiting ∷ []
