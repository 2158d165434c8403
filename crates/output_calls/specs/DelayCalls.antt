-- What befalls the delays of a panel's outputs in a run, and that they then let through what the rules let
-- act.
use Rattle.std.specs.Prelude.{◌≡◌, ◌==◌, ◌&&◌, ◌-◌, not, ℕ, List, [], ◌∷◌, Some, slice_get, if◌then◌else◌}
use Rattle.tick_units.specs.declared.task.Task.TheVariants.{Drive}
use Rattle.site_types.specs.declared.operation.Operation.{Operation}
use Rattle.site_types.specs.declared.operation.Operation.TheVariants.{Override, Delays}
use Rattle.site_types.specs.declared.output.Output.{Output}
use Rattle.site_types.specs.declared.requests.Requests.{Requests}
use Rattle.site_types.specs.declared.retained.Retained.{Retained}
use Rattle.site_types.specs.declared.site.Site.{Site}
use Rattle.site_types.specs.Bits.{has_bit}
use Rattle.site_types.specs.Done.{Done}
use Rattle.site_types.specs.Valid.{IsValid}
use Rattle.output_delays.specs.Runs.{Call, Turned as DelayTurn, Overrode, Switched, is_through}
use Rattle.panel_rules.specs.Moments.{Moment, Began, Happened, Turned, Kept, tick_of}
use Rattle.panel_rules.specs.Markers.{Facts}
use Rattle.panel_rules.specs.Outputs.{outputs_where, is_requested, is_requested_by_hand, may_act}
use Rattle.output_calls.specs.DoneCalls.{IsLatestFirst, and_done_in}

-- what an operation that was done in a tick is to the delays of its panel
abbrev pub and_delaying : ℕ → Operation → List Call → List Call
and_delaying tick Override calls = Overrode tick ∷ calls
and_delaying tick (Delays active) calls = Switched active ∷ calls
and_delaying tick _ calls = calls

module _ (site : Site) (facts : ℕ → List Moment → Facts) where
  -- the outputs of a panel that a turn of its Drive made now is asked for, and those that it is asked for by
  -- hand
  abbrev pub requests_at : ℕ → List Moment → Requests
  requests_at panel before =
      record {
        asked = outputs_where site panel (λ output. is_requested site facts output before);
        manual = outputs_where site panel (λ output. is_requested_by_hand site facts output before);
      }

  -- what befalls the delays of a panel: the turns of its Drive, each with what it is asked for, and as a tick
  -- begins what was done at the panel in the one before
  abbrev pub delay_calls : List Done → ℕ → List Moment → List Call
  delay_calls done panel [] = []
  delay_calls done panel (Began ∷ before) =
      and_done_in (and_delaying (tick_of before)) panel (tick_of before) done (delay_calls done panel before)
  delay_calls done panel (Happened event ∷ before) = delay_calls done panel before
  delay_calls done panel (Turned other Drive ∷ before) =
      if other == panel then DelayTurn (tick_of before) (requests_at panel before)
      ∷ delay_calls done panel before else delay_calls done panel before
  delay_calls done panel (Turned other task ∷ before) = delay_calls done panel before
  delay_calls done panel (Kept failed ∷ before) = delay_calls done panel before

-- at a turn of Drive made now an output passes the delays by these calls exactly where by the rules it is
-- requested and no delay holds it back; at first the delays are on where they were kept so
abbrev pub ThroughByCalls : Type 0
ThroughByCalls =
    (site : Site) (facts : ℕ → List Moment → Facts) (kept : Retained) (done : List Done) (output : ℕ) (plan :
    Output) (before : List Moment) → IsValid site → slice_get site.outputs output ≡ Some plan
    → IsLatestFirst done
    → is_through site plan.panel (not (has_bit kept.delays_off (plan.panel - 1)))
    (delay_calls site facts done plan.panel before) (tick_of before) (requests_at site facts plan.panel before)
    plan.number
    ≡ (is_requested site facts output before && may_act site facts kept done output before)
