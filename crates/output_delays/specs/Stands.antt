-- What is kept of the turns, overrides and switches so far.
use Rattle.std.specs.Prelude.{◌≡◌, ◌+◌, ◌==◌, ℕ, Bool, List, Option, Some, None, if◌then◌else◌}
use Rattle.std.specs.List.{filter_map}
use Rattle.tick_units.specs.declared.tick.Tick.{Tick}
use Rattle.site_types.specs.declared.site.Site.{Site}
use Rattle.site_types.specs.Limits.{output_bits}
use Rattle.tick_units.specs.Earliest.{earliest_of}
use Rattle.output_delays.specs.declared.delays.Delays.{Delays}
use Rattle.output_delays.specs.declared.timer.Timer.{Timer}
use Rattle.output_delays.specs.Kept.{Keeps}
use Rattle.output_delays.specs.Runs.{Call, are_active, delay_of, overrides_of, request_ticks}

-- the turn at which the present request for an output began
abbrev pub since : ℕ → List Call → Option Tick
since number calls = earliest_of (request_ticks number calls)

-- the timer of the output with this bit, if it has a delay
abbrev pub timer_of : Site → ℕ → List Call → ℕ → Option Timer
timer_of site panel calls k =
    if delay_of site panel (k + 1) == 0 then None else Some
    (record { place = k; delay = delay_of site panel (k + 1); since = since (k + 1) calls })

-- what is kept stands for the outputs of a panel of a site, whether its delays were on at first, and all that
-- befell
pub record StandsFor (site : Site) (panel : ℕ) (first : Bool) (calls : List Call) (delays : Delays) :
    Type 0 where
  pub active : delays.active ≡ are_active first calls
  pub timers : delays.timers.items ≡ filter_map (timer_of site panel calls) output_bits
  pub overrides : Keeps (overrides_of calls) delays.overrides
