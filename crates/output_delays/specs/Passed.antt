-- Which requests pass, whatever the delays stand for.
use Rattle.std.specs.Prelude.{◌≡◌, ◌+◌, Bool, ℕ, List}
use Rattle.site_types.specs.declared.requests.Requests.{Requests}
use Rattle.site_types.specs.declared.site.Site.{Site}
use Rattle.site_types.specs.Bits.{mask_of}
use Rattle.output_delays.specs.declared.delays.Delays.{Delays}
use Rattle.output_delays.specs.Overrides.{AllUpTo}
use Rattle.output_delays.specs.Runs.{Call, is_through, overrides_of}
use Rattle.output_delays.specs.Stands.{StandsFor}

-- at a tick that isn't before any override, those outputs pass that are asked for in it and that no delay
-- holds back
abbrev pub PassesRequests : Delays → ℕ → Requests → ℕ → Type 0
PassesRequests delays tick requests passed =
    (site : Site) (panel : ℕ) (active : Bool) (calls : List Call)
    → StandsFor site panel active calls delays → AllUpTo tick (overrides_of calls)
    → passed ≡ mask_of 32 (λ k. is_through site panel active calls tick requests (k + 1))
