-- The masks of a panel's outputs that the parts give over the calls of a run are those of the rules.
use Rattle.std.specs.Prelude.{◌≡◌, ◌+◌, ◌-◌, ◌&&◌, not, ℕ, List}
use Rattle.site_types.specs.declared.retained.Retained.{Retained}
use Rattle.site_types.specs.declared.site.Site.{Site}
use Rattle.site_types.specs.Bits.{has_bit, mask_of}
use Rattle.site_types.specs.Done.{Done}
use Rattle.site_types.specs.Profile.{routing_of}
use Rattle.site_types.specs.Valid.{IsValid}
use Rattle.output_delays.specs.Overrides.{AllUpTo}
use Rattle.output_delays.specs.Runs.{is_through, overrides_of}
use Rattle.routing_outputs.specs.Confirmations.{state_of, is_confirmed}
use Rattle.routing_outputs.specs.Confirmations.{is_unconfirmed as is_unconfirmed_state}
use Rattle.panel_rules.specs.Moments.{Moment, tick_of, IsRun}
use Rattle.panel_rules.specs.Markers.{Facts}
use Rattle.panel_rules.specs.Outputs.{outputs_where, is_requested, may_act, is_confirmed_out}
use Rattle.panel_rules.specs.Faults.{is_unconfirmed}
use Rattle.panel_laws.specs.OperationLaws.{AreEventsOf}
use Rattle.output_calls.specs.DelayCalls.{delay_calls, requests_at}
use Rattle.output_calls.specs.DoneCalls.{IsLatestFirst}
use Rattle.output_calls.specs.RoutingCalls.{routing_calls}

-- the mask of the outputs of a panel that are confirmed, by the calls of a run and whatever the limit is, is that
-- of the rules
abbrev pub ConfirmedMaskByCalls : Type 0
ConfirmedMaskByCalls =
    (site : Site) (facts : ℕ → List Moment → Facts) (kept : Retained) (done : List Done) (limit panel : ℕ)
    (moments : List Moment) → IsValid site → IsRun site.panels moments → AreEventsOf site moments
    → mask_of 32
    (λ k. is_confirmed (state_of site panel limit (k + 1) (routing_calls site facts kept done panel moments)))
    ≡ outputs_where site panel (λ output. is_confirmed_out site facts kept done output moments)

-- the mask of the outputs of a panel that are unconfirmed, by the calls of a run, is that of the rules
abbrev pub UnconfirmedMaskByCalls : Type 0
UnconfirmedMaskByCalls =
    (site : Site) (facts : ℕ → List Moment → Facts) (kept : Retained) (done : List Done) (panel : ℕ)
    (moments : List Moment) → IsValid site → IsRun site.panels moments
    → mask_of 32
    (λ k. is_unconfirmed_state
    (state_of site panel (routing_of site.format) (k + 1) (routing_calls site facts kept done panel moments)))
    ≡ outputs_where site panel (λ output. is_unconfirmed site facts kept done output moments)

-- the mask of the outputs of a panel that pass the delays at a turn of Drive made now, by the calls of a run, is that
-- of the rules
abbrev pub ThroughMaskByCalls : Type 0
ThroughMaskByCalls =
    (site : Site) (facts : ℕ → List Moment → Facts) (kept : Retained) (done : List Done) (panel : ℕ) (before :
    List Moment) → IsValid site → IsLatestFirst done
    → mask_of 32
    (λ k. is_through site panel (not (has_bit kept.delays_off (panel - 1)))
    (delay_calls site facts done panel before) (tick_of before) (requests_at site facts panel before) (k + 1))
    ≡ outputs_where site panel
    (λ output. is_requested site facts output before && may_act site facts kept done output before)

-- no override that the delays of a panel are told of lies after the tick that began last
abbrev pub OverridesAreOver : Type 0
OverridesAreOver = (site : Site) (facts : ℕ → List Moment → Facts) (done : List Done) (panel : ℕ) (moments :
    List Moment) → AllUpTo (tick_of moments) (overrides_of (delay_calls site facts done panel moments))
