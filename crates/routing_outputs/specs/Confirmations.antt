-- What a routing or protection output is at, over all turns and confirmations so far, the newest first.
use Rattle.std.specs.Prelude.{ℕ, ◌-◌, ◌==◌, Bool, true, false, List, [], ◌∷◌, Option, Some, None, if◌then◌else◌}
use Rattle.std.specs.Prelude.{nat_le}
use Rattle.std.specs.List.{list_any}
use Rattle.site_types.specs.declared.output.Output.{Output}
use Rattle.site_types.specs.declared.site.Site.{Site}
use Rattle.site_types.specs.Bits.{has_bit}
use Rattle.site_types.specs.Events.{is_confirming}
use Rattle.tick_units.specs.Earliest.{earliest}
use Rattle.site_types.specs.Things.{numbered_output}
use Rattle.routing_outputs.specs.declared.routing_state.RoutingState.{RoutingState}
use Rattle.routing_outputs.specs.declared.routing_state.RoutingState.TheVariants.{Idle, Waiting}
use Rattle.routing_outputs.specs.declared.routing_state.RoutingState.TheVariants.{Confirmed as IsConfirmed}
use Rattle.routing_outputs.specs.declared.routing_state.RoutingState.TheVariants.{Unconfirmed}

-- what befell: a turn of a tick with the outputs that were on after it, or a confirmation of an output by its
-- number
pub data Call : Type 0 where
  Turned : ℕ → ℕ → Call
  Confirmed : ℕ → Call

abbrev pub is_confirming_output : Option Output → Bool
is_confirming_output None = false
is_confirming_output (Some output) = is_confirming output.kind

-- whether a panel has a routing or protection output with this number
abbrev pub is_watched : Site → ℕ → ℕ → Bool
is_watched site panel number = is_confirming_output (numbered_output site panel number)

-- whether an output was on after a turn: the bit of its number in the mask
abbrev pub is_on : ℕ → ℕ → Bool
is_on number on = has_bit on (number - 1)

-- a confirmation is one of a run that has begun; while there is none it does nothing
abbrev pub with_confirmation : ℕ → List Call → List Call
with_confirmation number [] = []
with_confirmation number (call ∷ calls) = Confirmed number ∷ call ∷ calls

-- the present run of an output: what befell from the turn at which it went on; nothing where it was off after
-- the latest turn
abbrev pub run_of : ℕ → List Call → List Call
run_of number [] = []
run_of number (Turned tick on ∷ calls) = if is_on number on then Turned tick on ∷ run_of number calls else []
run_of number (Confirmed other ∷ calls) = with_confirmation other (run_of number calls)

abbrev pub is_confirmation : ℕ → Call → Bool
is_confirmation number (Turned tick on) = false
is_confirmation number (Confirmed other) = other == number

-- whether the output was confirmed in a run
abbrev pub has_confirmation : ℕ → List Call → Bool
has_confirmation number run = list_any (is_confirmation number) run

-- the ticks of the turns of a run, the latest first
abbrev pub ticks_of : List Call → List ℕ
ticks_of [] = []
ticks_of (Turned tick on ∷ calls) = tick ∷ ticks_of calls
ticks_of (Confirmed other ∷ calls) = ticks_of calls

-- the latest of some ticks, the latest first, lies at least the limit after the earliest
abbrev pub spans : ℕ → List ℕ → Bool
spans limit [] = false
spans limit (latest ∷ ticks) = nat_le limit (latest - earliest latest ticks)

-- what an output is at in its present run
abbrev pub state_in : ℕ → ℕ → List Call → RoutingState
state_in limit number [] = Idle
state_in limit number (call ∷ calls) =
    if has_confirmation number (call ∷ calls) then IsConfirmed else
    (if spans limit (ticks_of (call ∷ calls)) then Unconfirmed else Waiting)

-- what an output of a panel is at; one that isn't watched is idle
abbrev pub state_of : Site → ℕ → ℕ → ℕ → List Call → RoutingState
state_of site panel limit number calls =
    if is_watched site panel number then state_in limit number (run_of number calls) else Idle

abbrev pub is_confirmed : RoutingState → Bool
is_confirmed Idle = false
is_confirmed Waiting = false
is_confirmed IsConfirmed = true
is_confirmed Unconfirmed = false

abbrev pub is_unconfirmed : RoutingState → Bool
is_unconfirmed Idle = false
is_unconfirmed Waiting = false
is_unconfirmed IsConfirmed = false
is_unconfirmed Unconfirmed = true
