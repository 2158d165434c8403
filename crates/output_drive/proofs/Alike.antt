-- What drives the outputs of a panel stands for each run that tells it the same.
use Rattle.std.proofs.Common.{◌≡◌, ◌≢◌, ◌==◌, ℕ, Bool, false, List, ◌∷◌, Option, Some, None, slice_get}
use Rattle.std.proofs.Common.{inl, inr, if◌then◌else◌, refl, sym, ◌∙◌, ap, subst}
use Rattle.std.specs.Prelude.{not, ◌-◌}
use Rattle.std.proofs.lemmas.Bool.Decides.{eqb_tells}
use Rattle.tick_units.specs.declared.task.Task.{Task}
use Rattle.tick_units.specs.declared.task.Task.TheVariants.{Poll, Decide, Supply, Desk, Hold, Link, Effect, Keep}
use Rattle.tick_units.specs.declared.task.Task.TheVariants.{Drive as DriveTask}
use Rattle.site_types.specs.declared.event.Event.{Event}
use Rattle.site_types.specs.declared.event.Event.TheVariants.{Confirmed as ConfirmedEvent}
use Rattle.site_types.specs.declared.output.Output.{Output}
use Rattle.site_types.specs.declared.retained.Retained.{Retained}
use Rattle.site_types.specs.declared.site.Site.{Site}
use Rattle.site_types.specs.Bits.{has_bit}
use Rattle.site_types.specs.Done.{Done}
use Rattle.site_types.specs.Profile.{routing_of}
use Rattle.sounder_control.specs.Quiet.{Drove}
use Rattle.sounder_control.specs.Stands.{StandsFor as SilenceStands}
use Rattle.output_delays.specs.Runs.{Turned as DelayTurn}
use Rattle.output_delays.specs.Stands.{StandsFor as DelaysStand}
use Rattle.routing_outputs.specs.Confirmations.{Call, Turned as RoutingTurn, Confirmed}
use Rattle.routing_outputs.specs.Stands.{StandsFor as RoutingStands}
use Rattle.panel_rules.specs.Moments.{Moment, Happened, Turned, Kept, is_turn, tick_of}
use Rattle.panel_rules.specs.Markers.{Facts}
use Rattle.panel_rules.specs.Outputs.{goes_on, is_on, outputs_where, panel_of_output, released_at_effect}
use Rattle.output_calls.specs.DelayCalls.{delay_calls, requests_at}
use Rattle.output_calls.specs.RoutingCalls.{and_confirmed, confirmed_at, routing_calls}
use Rattle.output_calls.specs.SilenceCalls.{silence_calls, zone_masks}
use Rattle.output_drive.specs.declared.drive.Drive.{Drive}
use Rattle.output_drive.specs.Stands.{DrivesFor}
use Rattle.output_drive.proofs.OutputBits.{where_same}

-- two runs, each with its facts and what was done, tell the parts of a panel's outputs the same, and have the same of them on
pub record AreToldAlike (site : Site) (kept : Retained) (panel : ℕ) (facts others : ℕ → List Moment → Facts) (done more : List Done) (before moments : List Moment) :
    Type 0 where
  pub silence : silence_calls site facts done panel before ≡ silence_calls site others more panel moments
  pub delays : delay_calls site facts done panel before ≡ delay_calls site others more panel moments
  pub routing : routing_calls site facts kept done panel before ≡ routing_calls site others kept more panel moments
  pub on : (output : ℕ) → panel_of_output site output ≡ panel → is_on site facts kept done output before ≡ is_on site others kept more output moments

pub stands_alike : (site : Site) (kept : Retained) (panel : ℕ) (facts others : ℕ → List Moment → Facts) (done more : List Done) (before moments : List Moment) (drive : Drive)
    → AreToldAlike site kept panel facts others done more before moments → DrivesFor site facts kept done panel before drive
    → DrivesFor site others kept more panel moments drive
stands_alike site kept panel facts others done more before moments drive alike h = record {
  silence = subst (λ calls. SilenceStands calls drive.silence) alike.silence h.silence;
  delays = subst (λ calls. DelaysStand site panel (not (has_bit kept.delays_off (panel - 1))) calls drive.delays) alike.delays h.delays;
  routing = subst (λ calls. RoutingStands site panel (routing_of site.format) calls drive.routing) alike.routing h.routing;
  on = h.on
      ∙ where_same site panel (λ output. is_on site facts kept done output before) (λ output. is_on site others kept more output moments) alike.on;
  sounders = h.sounders;
}

-- an event confirms no output of the panel
abbrev pub ConfirmsNone : Site → ℕ → Event → Type 0
ConfirmsNone site panel (ConfirmedEvent output) = (plan : Output) → slice_get site.outputs output ≡ Some plan → plan.panel ≢ panel
ConfirmsNone site panel _ = Unit {0}

module _ (site : Site) (facts : ℕ → List Moment → Facts) (kept : Retained) (done : List Done) (panel : ℕ) (before : List Moment) where
  -- no turn of Drive of the panel
  turn_alike : (other : ℕ) (task : Task) → is_turn panel DriveTask other task ≡ false
      → AreToldAlike site kept panel facts facts done done before (Turned other task ∷ before)
  turn_alike other DriveTask apart = record {
    silence = sym
        (ap (λ b. if b then Drove (zone_masks site (released_at_effect site facts panel before)) ∷ silence_calls site facts done panel before
        else silence_calls site facts done panel before) apart);
    delays = sym
        (ap (λ b. if b then DelayTurn (tick_of before) (requests_at site facts panel before) ∷ delay_calls site facts done panel before
        else delay_calls site facts done panel before) apart);
    routing = sym
        (ap (λ b. if b then RoutingTurn (tick_of before)
        (outputs_where site panel (λ output. is_on site facts kept done output (Turned panel DriveTask ∷ before)))
        ∷ routing_calls site facts kept done panel before else routing_calls site facts kept done panel before) apart);
    on = λ output of. sym
        (ap (λ b. if b then goes_on site facts kept done output before else is_on site facts kept done output before)
        (ap (λ p. is_turn p DriveTask other DriveTask) of ∙ apart));
  }
  turn_alike other Poll apart = record { silence = refl; delays = refl; routing = refl; on = λ output of. refl }
  turn_alike other Decide apart = record { silence = refl; delays = refl; routing = refl; on = λ output of. refl }
  turn_alike other Supply apart = record { silence = refl; delays = refl; routing = refl; on = λ output of. refl }
  turn_alike other Desk apart = record { silence = refl; delays = refl; routing = refl; on = λ output of. refl }
  turn_alike other Hold apart = record { silence = refl; delays = refl; routing = refl; on = λ output of. refl }
  turn_alike other Link apart = record { silence = refl; delays = refl; routing = refl; on = λ output of. refl }
  turn_alike other Effect apart = record { silence = refl; delays = refl; routing = refl; on = λ output of. refl }
  turn_alike other Keep apart = record { silence = refl; delays = refl; routing = refl; on = λ output of. refl }

  none_confirmed : (event : Event) (calls : List Call) → ConfirmsNone site panel event → calls ≡ and_confirmed site panel event calls
  none_confirmed (ConfirmedEvent output) calls none = go (slice_get site.outputs output) refl
    where
      apart : (plan : Output) → slice_get site.outputs output ≡ Some plan → (plan.panel == panel) ≡ false
      apart plan is = elim (eqb_tells plan.panel panel) [ inl t ↦ absurd (none plan is t.1) | inr t ↦ t.0 ]

      go : (o : Option Output) → slice_get site.outputs output ≡ o → calls ≡ confirmed_at panel o calls
      go None is = refl
      go (Some plan) is = sym (ap (λ b. if b then Confirmed plan.number ∷ calls else calls) (apart plan is))
  none_confirmed event calls none = refl

  module _ (drive : Drive) (h : DrivesFor site facts kept done panel before drive) where
    -- a turn that isn't one of the panel's Drive
    pub after_other_turn : (other : ℕ) (task : Task) → is_turn panel DriveTask other task ≡ false
        → DrivesFor site facts kept done panel (Turned other task ∷ before) drive
    after_other_turn other task apart =
        stands_alike site kept panel facts facts done done before (Turned other task ∷ before) drive (turn_alike other task apart) h

    -- an event that confirms no output of the panel
    pub after_other_event : (event : Event) → ConfirmsNone site panel event → DrivesFor site facts kept done panel (Happened event ∷ before) drive
    after_other_event event none =
        stands_alike site kept panel facts facts done done before (Happened event ∷ before) drive
        (record {
          silence = refl;
          delays = refl;
          routing = none_confirmed event (routing_calls site facts kept done panel before) none;
          on = λ output of. refl;
        }) h

    pub after_kept : (failed : Bool) → DrivesFor site facts kept done panel (Kept failed ∷ before) drive
    after_kept failed =
        stands_alike site kept panel facts facts done done before (Kept failed ∷ before) drive
        (record { silence = refl; delays = refl; routing = refl; on = λ output of. refl }) h
