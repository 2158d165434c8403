-- Which outputs a turn lets through, over all turns, overrides and switches of the delays before it, the
-- newest first.
use Rattle.std.specs.Prelude.{ℕ, ◌-◌, ◌==◌, ◌&&◌, ◌||◌, Bool, not, List, [], ◌∷◌, Option, Some, None, if◌then◌else◌}
use Rattle.std.specs.Prelude.{nat_le}
use Rattle.site_types.specs.declared.output.Output.{Output}
use Rattle.site_types.specs.declared.requests.Requests.{Requests}
use Rattle.site_types.specs.declared.site.Site.{Site}
use Rattle.site_types.specs.Bits.{has_bit}
use Rattle.tick_units.specs.Earliest.{earliest}
use Rattle.site_types.specs.Things.{numbered_output}
use Rattle.output_delays.specs.Overrides.{is_any_in}

-- what befell: a turn of a tick with what was asked for at it, an override done in a tick, or the delays
-- turned on or off
pub data Call : Type 0 where
  Turned : ℕ → Requests → Call
  Overrode : ℕ → Call
  Switched : Bool → Call

abbrev pub delay_in : Option Output → ℕ
delay_in None = 0
delay_in (Some output) = output.delay

-- the delay of an output of a panel; an output that isn't there has none
abbrev pub delay_of : Site → ℕ → ℕ → ℕ
delay_of site panel number = delay_in (numbered_output site panel number)

-- whether an output was asked for at a turn, and by hand: the bit of its number
abbrev pub is_asked : ℕ → Requests → Bool
is_asked number requests = has_bit requests.asked (number - 1)

abbrev pub is_by_hand : ℕ → Requests → Bool
is_by_hand number requests = has_bit requests.manual (number - 1)

-- the ticks of the turns of the present unbroken request for an output, the latest first; none where it
-- wasn't asked for at the latest turn
abbrev pub request_ticks : ℕ → List Call → List ℕ
request_ticks number [] = []
request_ticks number (Turned tick requests ∷ calls) =
    if is_asked number requests then tick ∷ request_ticks number calls else []
request_ticks number (Overrode tick ∷ calls) = request_ticks number calls
request_ticks number (Switched active ∷ calls) = request_ticks number calls

-- the tick of the turn at which the unbroken request began that stands at a turn in a tick
abbrev pub began : ℕ → ℕ → List Call → ℕ
began number now calls = earliest now (request_ticks number calls)

-- the ticks in which overrides were done, the latest first
abbrev pub overrides_of : List Call → List ℕ
overrides_of [] = []
overrides_of (Turned tick requests ∷ calls) = overrides_of calls
overrides_of (Overrode tick ∷ calls) = tick ∷ overrides_of calls
overrides_of (Switched active ∷ calls) = overrides_of calls

-- whether the delays of the panel are on: as they were turned last, else as at first
abbrev pub are_active : Bool → List Call → Bool
are_active first [] = first
are_active first (Turned tick requests ∷ calls) = are_active first calls
are_active first (Overrode tick ∷ calls) = are_active first calls
are_active first (Switched active ∷ calls) = active

-- a delay is over in a tick, for a request that began in a tick: it is 0, so many ticks have passed, or an
-- override was done meanwhile
abbrev pub is_over : ℕ → ℕ → ℕ → List Call → Bool
is_over delay first now calls =
    (delay == 0) || (nat_le delay (now - first) || is_any_in first now (overrides_of calls))

-- an output asked for at a turn is let through: it is asked for by hand, the delays are off, or its delay is
-- over
abbrev pub is_through : Site → ℕ → Bool → List Call → ℕ → Requests → ℕ → Bool
is_through site panel first calls now requests number =
    is_asked number requests
    && (is_by_hand number requests
    || (not (are_active first calls) || is_over (delay_of site panel number) (began number now calls) now
    calls))
