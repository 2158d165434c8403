-- What a turn makes of the timer of an output.
use Rattle.std.specs.Prelude.{ℕ, ◌-◌, ◌&&◌, Bool, false, not, Option, Some, None, unwrap_or, if◌then◌else◌, nat_le}
use Rattle.std.specs.Prelude.{nat_lt}
use Rattle.tick_units.specs.declared.tick.Tick.{Tick}
use Rattle.site_types.specs.Bits.{has_bit}
use Rattle.output_delays.specs.declared.timer.Timer.{Timer}

-- a timer after a turn at which its output is asked for or not
abbrev pub turned : Tick → Bool → Timer → Timer
turned now asked timer = record timer { since = if asked then Some (unwrap_or timer.since now) else None }

-- a timer after a turn at which these outputs are asked for
abbrev pub turned_by : Tick → ℕ → Timer → Timer
turned_by now asked timer = turned now (has_bit asked timer.place) timer

-- the latest override before a tick came in the tick of a turn or later
abbrev pub is_since : ℕ → Option Tick → Bool
is_since first None = false
is_since first (Some tick) = nat_le first tick.0

abbrev pub is_holding_since : Tick → Option Tick → ℕ → Option Tick → Bool
is_holding_since now overridden delay None = false
is_holding_since now overridden delay (Some first) =
    not (is_since first.0 overridden) && nat_lt (now.0 - first.0) delay

-- a timer holds its output back
abbrev pub is_holding : Tick → Option Tick → Timer → Bool
is_holding now overridden timer = is_holding_since now overridden timer.delay timer.since
