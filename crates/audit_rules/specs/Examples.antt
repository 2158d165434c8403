-- Three small cases, with the verdict that the rules have to give for them: a text that passes, one that doesn't show
-- a zone in time, one that shows a zone too early.
use Rattle.std.specs.Prelude.{ℕ, zero, suc, ◌==◌, true, false, List, [], ◌∷◌, replicate, None, if◌then◌else◌}
use Rattle.tick_units.specs.Orders.{canonical_seats}
use Rattle.site_types.specs.declared.buzzer.Buzzer.TheVariants.{Fire}
use Rattle.site_types.specs.declared.combine.Combine.TheVariants.{Any}
use Rattle.site_types.specs.declared.event.Event.{Event}
use Rattle.site_types.specs.declared.event.Event.TheVariants.{Point as PointEvent}
use Rattle.site_types.specs.declared.loop_plan.LoopPlan.{LoopPlan}
use Rattle.site_types.specs.declared.marker.Marker.{Marker}
use Rattle.site_types.specs.declared.output.Output.{Output}
use Rattle.site_types.specs.declared.output_kind.OutputKind.TheVariants.{Sounder, Relay}
use Rattle.site_types.specs.declared.point.Point.{Point}
use Rattle.site_types.specs.declared.point_state.PointState.TheVariants.{Alarm}
use Rattle.site_types.specs.declared.rule.Rule.TheVariants.{Plain}
use Rattle.site_types.specs.declared.site.Site.{Site}
use Rattle.site_types.specs.declared.term.Term.TheVariants.{Zone as ZoneTerm}
use Rattle.site_types.specs.declared.zone.Zone.{Zone}
use Rattle.face_text.specs.declared.face.Face.{Face}
use Rattle.face_text.specs.declared.step.Step.{Step}
use Rattle.face_text.specs.declared.timeline.Timeline.{Timeline}
use Rattle.face_text.specs.Faces.{empty_face}
use Rattle.face_reading.specs.Reading.{no_answers}
use Rattle.panel_rules.specs.Moments.{TickBlock}
use Rattle.audit_rules.specs.declared.audit_rule.AuditRule.TheVariants.{Indication, Zone as ZoneRule}
use Rattle.audit_rules.specs.declared.verdict.Verdict.TheVariants.{Passed, Failed}
use Rattle.audit_rules.specs.Verdicts.{IsJudged}

-- what stands for names and codes, of which the rules don't speak
pub record Unnamed : Type 0 where
  pub site : Site
  pub plan : LoopPlan
  pub zone : Zone
  pub point : Point
  pub output : Output
  pub marker : Marker

module _ (unnamed : Unnamed) where
  abbrev pub point_of_one : ℕ → ℕ → Point
  point_of_one address zone =
      record unnamed.point { panel = 1; line = 1; address = address; zone = zone; manual = address == 1 }

  abbrev pub zone_of_one : ℕ → Zone
  zone_of_one number = record unnamed.zone { panel = 1; number = number; rule = Plain; partner = None }

  -- one panel with a loop: in zone 1 a manual call point at address 1 and detectors at 2 and 9, in zone 2 a detector
  -- at 17; a sounder for both zones, and a relay for zone 1 after 1200 ticks
  abbrev pub site_one : Site
  site_one =
      record unnamed.site {
        format = 1;
        panels = 1;
        loops = record unnamed.plan { panel = 1; line = 1; last = 96; isolators = 16 ∷ [] } ∷ [];
        zones = zone_of_one 1 ∷ zone_of_one 2 ∷ [];
        points = point_of_one 1 0 ∷ point_of_one 2 0 ∷ point_of_one 9 0 ∷ point_of_one 17 1 ∷ [];
        outputs =
            record unnamed.output { panel = 1; number = 1; kind = Sounder; marker = 0; delay = 0 }
            ∷ record unnamed.output { panel = 1; number = 2; kind = Relay; marker = 1; delay = 1200 } ∷ [];
        markers =
            record unnamed.marker { combine = Any; terms = ZoneTerm 0 ∷ ZoneTerm 1 ∷ [] }
            ∷ record unnamed.marker { combine = Any; terms = ZoneTerm 0 ∷ [] } ∷ [];
      }

-- the detector at address 2 is in alarm from tick 1 on
abbrev pub detector_in_first : ℕ → List Event
detector_in_first tick = if tick == 1 then PointEvent 1 Alarm ∷ [] else []

-- so many ticks of a site of one panel, in canonical order: the detector at address 2 is in alarm from the first on
abbrev pub ticks_of_one : ℕ → List TickBlock
ticks_of_one zero = []
ticks_of_one (suc n) =
    record { events = detector_in_first (suc n); order = canonical_seats 1; failed = false } ∷ ticks_of_one n

-- zone 1 is shown in alarm; and the sounder is on besides
abbrev pub zone_face : Face
zone_face = record (empty_face 1) { zones = 1 ∷ replicate 7 0 }

abbrev pub fire_face : Face
fire_face = record (empty_face 1) { zones = 1 ∷ replicate 7 0; outputs = 1; buzzer = Fire; counter = 1 }

-- a tick after which the panel has a face
abbrev pub shown_in : ℕ → Face → Step
shown_in tick face = record { tick = record { 0 = tick }; faces = face ∷ []; answers = no_answers }

abbrev pub text_of_one : List Step → ℕ → Timeline
text_of_one steps last =
    record { opened = empty_face 1 ∷ []; steps = steps; last = record { 0 = last } }

-- the detector is asked in tick 12, and zone and sounder are on from then: that passes
abbrev pub PassesOne : Type 0
PassesOne =
    (unnamed : Unnamed)
    → IsJudged (site_one unnamed) (ticks_of_one 12) (text_of_one (shown_in 12 fire_face ∷ []) 12) (Passed 12)

-- the zone is due to be shown from tick 21 on: a text that shows nothing fails there
abbrev pub FailsUnshown : Type 0
FailsUnshown =
    (unnamed : Unnamed)
    → IsJudged (site_one unnamed) (ticks_of_one 40) (text_of_one [] 40) (Failed 21 Indication 1 1)

-- nothing was asked of the detector by tick 5: a text that shows the zone there fails
abbrev pub FailsUncaused : Type 0
FailsUncaused =
    (unnamed : Unnamed)
    → IsJudged (site_one unnamed) (ticks_of_one 12) (text_of_one (shown_in 5 zone_face ∷ []) 12)
    (Failed 5 ZoneRule 1 1)
