-- What stands after some moments of a site that began with nothing retained, counted.
use Rattle.std.specs.Prelude.{◌≡◌, ℕ, Bool, List, map, sum}
use Rattle.std.specs.List.{count_by, range_with_len}
use Rattle.site_types.specs.declared.output.Output.{Output}
use Rattle.site_types.specs.declared.site.Site.{Site}
use Rattle.site_types.specs.declared.zone.Zone.{Zone}
use Rattle.site_types.specs.Changes.{nothing_retained}
use Rattle.face_text.specs.declared.face.Face.{Face}
use Rattle.panel_rules.specs.Moments.{Moment, IsRun}
use Rattle.panel_rules.specs.Timeline.{face_of}
use Rattle.panel_laws.specs.FaceLaws.{shows_output, shows_zone}
use Rattle.panel_core.specs.declared.system.System.{System}
use Rattle.panel_core.specs.Stands.{StandsFor}
use Rattle.panel_drill.specs.declared.summary.Summary.{Summary}

module _ (site : Site) (moments : List Moment) where
  abbrev pub shown_face : ℕ → Face
  shown_face panel = face_of site nothing_retained panel moments

  -- the face of its own panel shows a zone in alarm
  abbrev pub shows_own_alarm : Zone → Bool
  shows_own_alarm zone = shows_zone (shown_face zone.panel) zone

  -- the face of its panel shows an output on
  abbrev pub shows_own_output : Output → Bool
  shows_own_output output = shows_output (shown_face output.panel) output

  abbrev pub zones_in_alarm : ℕ
  zones_in_alarm = count_by shows_own_alarm site.zones

  abbrev pub outputs_on : ℕ
  outputs_on = count_by shows_own_output site.outputs

  abbrev pub counter_of : ℕ → ℕ
  counter_of panel = (shown_face panel).counter

  abbrev pub sum_of_counters : ℕ
  sum_of_counters = sum (map counter_of (range_with_len 1 site.panels))

  abbrev pub summary_of : Summary
  summary_of = record { zones = zones_in_alarm; outputs = outputs_on; counter = sum_of_counters }

-- the system stands for a run
pub record MayBeCounted (system : System) : Type 0 where
  pub site : Site
  pub before : List Moment
  pub stands : StandsFor site nothing_retained before system
  pub run : IsRun site.panels before

-- what is told is so of whatever run the system stands for
abbrev pub TellsAsRuled : {X : Type 0} → (Site → List Moment → X) → System → X → Type 0
TellsAsRuled told system x =
    (site : Site) (before : List Moment) → StandsFor site nothing_retained before system → IsRun site.panels before
    → x ≡ told site before

abbrev pub TellsZones : System → ℕ → Type 0
TellsZones = TellsAsRuled zones_in_alarm

abbrev pub TellsOutputs : System → ℕ → Type 0
TellsOutputs = TellsAsRuled outputs_on

abbrev pub TellsCounters : System → ℕ → Type 0
TellsCounters = TellsAsRuled sum_of_counters

abbrev pub TellsSummary : System → Summary → Type 0
TellsSummary = TellsAsRuled summary_of
