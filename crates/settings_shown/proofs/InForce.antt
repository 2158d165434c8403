-- Settings that are in force and have no strange bits show what is in force.
use Rattle.std.proofs.Common.{◌≡◌, ℕ, Bool, List, refl, sym}
use Rattle.face_text.specs.declared.face.Face.{Face}
use Rattle.site_types.specs.declared.buzzer.Buzzer.{Buzzer}
use Rattle.site_types.specs.declared.fault_set.FaultSet.{FaultSet}
use Rattle.site_types.specs.declared.retained.Retained.{Retained}
use Rattle.site_types.specs.declared.site.Site.{Site}
use Rattle.site_types.specs.declared.word.Word.{Word}
use Rattle.site_types.specs.Done.{Done, PointOff, ZoneOff, OutputOff, InTest, DelaysOff, at_opening, in_force}
use Rattle.panel_rules.specs.Faces.{with_settings}
use Rattle.settings_shown.specs.OnFaces.{with_masks, with_settings_of}
use Rattle.settings_shown.specs.Shown.{InForceAreShown, ShowsSettings}
use Rattle.settings_shown.proofs.Changes.{outputs_same, points_same, zones_same}

pub in_force_shown : InForceAreShown
in_force_shown site kept tick done panel settings here own force =
    let was = own panel here in
    record {
      points =
          points_same site panel (λ j. at_opening site settings (PointOff j)) (λ j. in_force site kept (PointOff j) tick done)
          (λ j. sym (force (PointOff j) tt)) _ was.points;
      zones =
          zones_same site panel (λ j. at_opening site settings (ZoneOff j)) (λ j. in_force site kept (ZoneOff j) tick done)
          (λ j. sym (force (ZoneOff j) tt)) _ was.zones;
      outputs =
          outputs_same site panel (λ j. at_opening site settings (OutputOff j)) (λ j. in_force site kept (OutputOff j) tick done)
          (λ j. sym (force (OutputOff j) tt)) _ was.outputs;
      tests =
          zones_same site panel (λ j. at_opening site settings (InTest j)) (λ j. in_force site kept (InTest j) tick done)
          (λ j. sym (force (InTest j) tt)) _ was.tests;
      delays = force (DelaysOff panel) here;
    }

-- so a face with their masks has the settings that the rules show
pub face_shows : (site : Site) (kept : Retained) (tick : ℕ) (done : List Done) (panel : ℕ) (settings : Retained) (face : Face)
    (words : ℕ → Word) (faults : FaultSet) (on confirmed : ℕ → Bool) (buzzer : Buzzer) (counter : ℕ) → ShowsSettings site kept tick done panel settings
    → with_masks settings panel face ≡ with_settings_of (with_settings site kept done panel tick words faults on confirmed buzzer counter) face
face_shows site kept tick done panel settings face words faults on confirmed buzzer counter shows =
    rw (shows.points, shows.zones, shows.outputs, shows.tests, shows.delays) refl
