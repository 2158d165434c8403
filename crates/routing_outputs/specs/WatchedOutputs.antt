-- What a turn makes of what is kept of an output.
use Rattle.std.specs.Prelude.{ℕ, ◌-◌, Bool, false, Option, Some, None, unwrap_or, if◌then◌else◌, nat_le}
use Rattle.tick_units.specs.declared.tick.Tick.{Tick}
use Rattle.site_types.specs.Bits.{has_bit}
use Rattle.routing_outputs.specs.declared.watched_output.WatchedOutput.{WatchedOutput}

-- an output after a turn at which it is on or off
abbrev pub turned : Tick → Bool → WatchedOutput → WatchedOutput
turned now on output = record output { since = if on then Some (unwrap_or output.since now) else None }

-- an output after a turn with these outputs on
abbrev pub turned_by : Tick → ℕ → WatchedOutput → WatchedOutput
turned_by now on output = turned now (has_bit on output.place) output

abbrev pub is_late_since : Tick → ℕ → Option Tick → Bool
is_late_since now limit None = false
is_late_since now limit (Some first) = nat_le limit (now.0 - first.0)

-- an output has been on for the limit
abbrev pub is_late : Tick → ℕ → WatchedOutput → Bool
is_late now limit output = is_late_since now limit output.since
