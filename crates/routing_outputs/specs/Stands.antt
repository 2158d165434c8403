-- What is kept of the turns and confirmations so far.
use Rattle.std.specs.Prelude.{◌≡◌, ◌+◌, ◌&&◌, ℕ, Bool, true, false, List, [], ◌∷◌, Option, Some, None, if◌then◌else◌}
use Rattle.std.specs.List.{filter_map}
use Rattle.tick_units.specs.declared.tick.Tick.{Tick}
use Rattle.site_types.specs.declared.site.Site.{Site}
use Rattle.site_types.specs.Bits.{mask_of}
use Rattle.site_types.specs.Limits.{output_bits}
use Rattle.tick_units.specs.Earliest.{earliest_of}
use Rattle.routing_outputs.specs.declared.watched_output.WatchedOutput.{WatchedOutput}
use Rattle.routing_outputs.specs.declared.routing.Routing.{Routing}
use Rattle.routing_outputs.specs.Confirmations.{Call, is_watched, run_of, has_confirmation, ticks_of, spans}

-- the turn since which an output has been on
abbrev pub since : ℕ → List Call → Option Tick
since number calls = earliest_of (ticks_of (run_of number calls))

-- what is kept of the output with this bit, if it is watched
abbrev pub watched_at : Site → ℕ → List Call → ℕ → Option WatchedOutput
watched_at site panel calls k =
    if is_watched site panel (k + 1) then Some (record { place = k; since = since (k + 1) calls }) else None

abbrev pub is_running : List Call → Bool
is_running [] = false
is_running (call ∷ calls) = true

-- what is kept stands for the outputs of a panel of a site, a limit, and all that befell
pub record StandsFor (site : Site) (panel limit : ℕ) (calls : List Call) (routing : Routing) : Type 0 where
  pub kept : routing.limit ≡ limit
  pub outputs : routing.outputs.items ≡ filter_map (watched_at site panel calls) output_bits
  pub watched : routing.watched ≡ mask_of 32 (λ k. is_watched site panel (k + 1))
  pub on : routing.on ≡ mask_of 32 (λ k. is_watched site panel (k + 1) && is_running (run_of (k + 1) calls))
  pub confirmed :
      routing.confirmed ≡ mask_of 32 (λ k. is_watched site panel (k + 1)
      && has_confirmation (k + 1) (run_of (k + 1) calls))
  pub late :
      routing.late ≡ mask_of 32 (λ k. is_watched site panel (k + 1)
      && spans limit (ticks_of (run_of (k + 1) calls)))
