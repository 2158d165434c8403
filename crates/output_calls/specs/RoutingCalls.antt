-- What befalls the Routing of a panel in a run, and that its outputs are then confirmed, and unconfirmed, as
-- the rules say.
use Rattle.std.specs.Prelude.{◌≡◌, ◌==◌, ℕ, List, [], ◌∷◌, Option, Some, None, slice_get, if◌then◌else◌}
use Rattle.tick_units.specs.declared.task.Task.TheVariants.{Drive}
use Rattle.site_types.specs.declared.event.Event.{Event}
use Rattle.site_types.specs.declared.event.Event.TheVariants.{Confirmed as ConfirmedEvent}
use Rattle.site_types.specs.declared.output.Output.{Output}
use Rattle.site_types.specs.declared.retained.Retained.{Retained}
use Rattle.site_types.specs.declared.site.Site.{Site}
use Rattle.site_types.specs.Done.{Done}
use Rattle.site_types.specs.Profile.{routing_of}
use Rattle.site_types.specs.Valid.{IsValid}
use Rattle.routing_outputs.specs.Confirmations.{Call, Turned as RoutingTurn, Confirmed, state_of, is_confirmed}
use Rattle.routing_outputs.specs.Confirmations.{is_unconfirmed as is_unconfirmed_state}
use Rattle.panel_rules.specs.Moments.{Moment, Began, Happened, Turned, Kept, tick_of, IsRun}
use Rattle.panel_rules.specs.Markers.{Facts}
use Rattle.panel_rules.specs.Outputs.{outputs_where, is_on, is_confirmed_out}
use Rattle.panel_rules.specs.Faults.{is_unconfirmed}
use Rattle.panel_laws.specs.OperationLaws.{AreEventsOf}

-- a confirmation of an output is one of its number, at its own panel
abbrev pub confirmed_at : ℕ → Option Output → List Call → List Call
confirmed_at panel None calls = calls
confirmed_at panel (Some output) calls =
    if output.panel == panel then Confirmed output.number ∷ calls else calls

abbrev pub and_confirmed : Site → ℕ → Event → List Call → List Call
and_confirmed site panel (ConfirmedEvent output) calls =
    confirmed_at panel (slice_get site.outputs output) calls
and_confirmed site panel _ calls = calls

module _ (site : Site) (facts : ℕ → List Moment → Facts) (kept : Retained) (done : List Done) where
  -- what befalls the Routing of a panel: the turns of its Drive, each with the outputs that are on after it,
  -- and the confirmations of its outputs
  abbrev pub routing_calls : ℕ → List Moment → List Call
  routing_calls panel [] = []
  routing_calls panel (Began ∷ before) = routing_calls panel before
  routing_calls panel (Happened event ∷ before) = and_confirmed site panel event (routing_calls panel before)
  routing_calls panel (Turned other Drive ∷ before) =
      if other == panel then RoutingTurn (tick_of before)
      (outputs_where site panel (λ output. is_on site facts kept done output (Turned panel Drive ∷ before)))
      ∷ routing_calls panel before else routing_calls panel before
  routing_calls panel (Turned other task ∷ before) = routing_calls panel before
  routing_calls panel (Kept failed ∷ before) = routing_calls panel before

-- an output is confirmed by these calls exactly where it is by the rules, whatever the limit; the events are
-- of the site, so each confirmation is of an output that asks for one
abbrev pub ConfirmedByCalls : Type 0
ConfirmedByCalls =
    (site : Site) (facts : ℕ → List Moment → Facts) (kept : Retained) (done : List Done) (limit output : ℕ)
    (plan : Output) (moments : List Moment) → IsValid site → slice_get site.outputs output ≡ Some plan
    → IsRun site.panels moments → AreEventsOf site moments
    → is_confirmed
    (state_of site plan.panel limit plan.number (routing_calls site facts kept done plan.panel moments))
    ≡ is_confirmed_out site facts kept done output moments

-- with the profile's limit an output is unconfirmed by these calls exactly where it is by the rules
abbrev pub UnconfirmedByCalls : Type 0
UnconfirmedByCalls =
    (site : Site) (facts : ℕ → List Moment → Facts) (kept : Retained) (done : List Done) (output : ℕ) (plan :
    Output) (moments : List Moment) → IsValid site → slice_get site.outputs output ≡ Some plan
    → IsRun site.panels moments
    → is_unconfirmed_state
    (state_of site plan.panel (routing_of site.format) plan.number
    (routing_calls site facts kept done plan.panel moments))
    ≡ is_unconfirmed site facts kept done output moments
