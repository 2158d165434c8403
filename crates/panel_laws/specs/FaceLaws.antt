-- What faces show in each run of a valid site, whatever the order of turns.
use Rattle.std.specs.Prelude.{◌≡◌, ◌⊎◌, ℕ, ◌-◌, Bool, true, List, Some, slice_get, slice_index}
use Rattle.site_types.specs.declared.output.Output.{Output}
use Rattle.site_types.specs.declared.retained.Retained.{Retained}
use Rattle.site_types.specs.declared.site.Site.{Site}
use Rattle.site_types.specs.declared.zone.Zone.{Zone}
use Rattle.site_types.specs.Bits.{has_bit}
use Rattle.site_types.specs.Done.{Done}
use Rattle.site_types.specs.Valid.{IsValid}
use Rattle.face_text.specs.declared.face.Face.{Face}
use Rattle.face_text.specs.Faces.{is_in_fire}
use Rattle.panel_rules.specs.Moments.{Moment, tick_of, IsRun, IsPanel, HaveAllTurned}
use Rattle.panel_rules.specs.Due.{IsDue, LoneSignals}
use Rattle.panel_rules.specs.DueOutputs.{IsDueOn}
use Rattle.panel_rules.specs.CausedOutputs.{IsCausedAtPanel, IsCausedOutput}
use Rattle.panel_rules.specs.Faces.{face_with}
use Rattle.panel_rules.specs.Batches.{is_in_fire_alarm}

-- a face shows a zone in alarm, a zone in first state, or an output of its panel on
abbrev pub shows_zone : Face → Zone → Bool
shows_zone face zone = has_bit (slice_index face.zones (zone.panel - 1)) (zone.number - 1)

abbrev pub shows_first : Face → Zone → Bool
shows_first face zone = has_bit (slice_index face.firsts (zone.panel - 1)) (zone.number - 1)

abbrev pub shows_output : Face → Output → Bool
shows_output face output = has_bit face.outputs (output.number - 1)

-- after a tick of a run of a valid site
pub record HasEnded (site : Site) (moments : List Moment) : Type 0 where
  pub valid : IsValid site
  pub run : IsRun site.panels moments
  pub ended : HaveAllTurned site.panels moments

-- a zone that is due at a panel is shown in its face
abbrev pub DueZoneIsShown : Type 0
DueZoneIsShown =
    (site : Site) (kept : Retained) (done : List Done) (stored : Retained) (moments : List Moment) (zone :
    ℕ) (plan : Zone) (panel : ℕ) → HasEnded site moments → IsPanel site.panels panel
    → slice_get site.zones zone ≡ Some plan
    → IsDue site kept done moments zone panel
    → shows_zone (face_with site kept done stored panel moments) plan ≡ true

-- a zone that is shown in the face of a panel is caused
abbrev pub ShownZoneIsCaused : Type 0
ShownZoneIsCaused =
    (site : Site) (kept : Retained) (done : List Done) (stored : Retained) (moments : List Moment) (zone :
    ℕ) (plan : Zone) (panel : ℕ) → HasEnded site moments → IsPanel site.panels panel
    → slice_get site.zones zone ≡ Some plan
    → shows_zone (face_with site kept done stored panel moments) plan ≡ true
    → IsCausedAtPanel site kept done moments panel zone

-- an output that is due to be on is shown in the face of its panel
abbrev pub DueOutputIsShown : Type 0
DueOutputIsShown =
    (site : Site) (kept : Retained) (done : List Done) (stored : Retained) (moments : List Moment) (output :
    ℕ) (plan : Output) → HasEnded site moments → slice_get site.outputs output ≡ Some plan
    → IsDueOn site kept done moments output
    → shows_output (face_with site kept done stored plan.panel moments) plan ≡ true

-- an output that is shown is caused
abbrev pub ShownOutputIsCaused : Type 0
ShownOutputIsCaused =
    (site : Site) (kept : Retained) (done : List Done) (stored : Retained) (moments : List Moment) (output :
    ℕ) (plan : Output) → HasEnded site moments → slice_get site.outputs output ≡ Some plan
    → shows_output (face_with site kept done stored plan.panel moments) plan ≡ true
    → IsCausedOutput site kept done moments output

-- a zone of type B with one lasting signal is shown in alarm or in first state by its own panel, until its
-- time ends
abbrev pub LoneZoneIsShown : Type 0
LoneZoneIsShown =
    (site : Site) (kept : Retained) (done : List Done) (stored : Retained) (moments : List Moment) (zone :
    ℕ) (plan : Zone) → HasEnded site moments → slice_get site.zones zone ≡ Some plan
    → LoneSignals site kept done moments zone (tick_of moments)
    → (shows_zone (face_with site kept done stored plan.panel moments) plan ≡ true)
    ⊎ (shows_first (face_with site kept done stored plan.panel moments) plan ≡ true)

-- the fire alarm condition that a face tells is the one whose entries Keep counts
abbrev pub FireIsCounted : Type 0
FireIsCounted =
    (site : Site) (kept : Retained) (done : List Done) (stored : Retained) (moments : List Moment) (panel : ℕ)
    → IsPanel 8 panel
    → is_in_fire (face_with site kept done stored panel moments) ≡ is_in_fire_alarm site kept done panel
    moments
