-- What a panel shows is the face of the rules.
use Rattle.std.specs.Prelude.{◌≡◌, ℕ, List, map}
use Rattle.std.specs.List.{range_with_len}
use Rattle.site_types.specs.declared.retained.Retained.{Retained}
use Rattle.site_types.specs.declared.site.Site.{Site}
use Rattle.site_types.specs.declared.word.Word.{Word}
use Rattle.site_types.specs.Limits.{most_panels}
use Rattle.face_text.specs.declared.face.Face.{Face}
use Rattle.panel_rules.specs.Batches.{kept_after}
use Rattle.panel_rules.specs.Faces.{face_with, shown_word}
use Rattle.panel_rules.specs.Moments.{Moment, IsRun}
use Rattle.panel_core.specs.declared.shown_zones.ShownZones.{ShownZones}
use Rattle.panel_core.specs.declared.system.System.{System}
use Rattle.panel_parts.specs.Applied.{done_so_far}
use Rattle.panel_core.specs.Stands.{StandsFor}

-- for whatever run the system stands for, with the operations of the run and with what is kept after it
abbrev pub ShowsFace : System → ℕ → Face → Type 0
ShowsFace system panel face =
    (site : Site) (kept : Retained) (before : List Moment)
    → StandsFor site kept before system → IsRun site.panels before
    → face ≡ face_with site kept (done_so_far site kept before) (kept_after site kept before) panel before

-- the word of a panel that another one shows
abbrev pub ShowsWord : System → ℕ → ℕ → Word → Type 0
ShowsWord system panel source word =
    (site : Site) (kept : Retained) (before : List Moment)
    → StandsFor site kept before system → IsRun site.panels before
    → word ≡ shown_word site kept (done_so_far site kept before) panel before source

-- the zones of each panel, one kind of them, by the words that are shown
abbrev pub ShowsByWords : (Word → ℕ) → System → ℕ → List ℕ → Type 0
ShowsByWords told system panel zones =
    (site : Site) (kept : Retained) (before : List Moment)
    → StandsFor site kept before system → IsRun site.panels before
    → zones ≡ map (λ source. told (shown_word site kept (done_so_far site kept before) panel before source))
    (range_with_len 1 most_panels)

-- the zones of each panel that are in alarm and those in first state, by the words that are shown
pub record ShowsZones (system : System) (panel : ℕ) (zones : ShownZones) : Type 0 where
  pub alarms : ShowsByWords (λ (word : Word). word.alarm) system panel zones.alarms
  pub firsts : ShowsByWords (λ (word : Word). word.first) system panel zones.firsts

-- a panel can show only one face by the rules, for each run that the system stands for
abbrev pub FacesArePinned : Type 0
FacesArePinned =
    (system : System) (panel : ℕ) (face other : Face) (site : Site) (kept : Retained) (before : List Moment)
    → StandsFor site kept before system → IsRun site.panels before
    → ShowsFace system panel face → ShowsFace system panel other → face ≡ other
