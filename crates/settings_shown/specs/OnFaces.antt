-- The settings on the face of a panel.
use Rattle.std.specs.Prelude.{◌≡◌, ◌-◌, ℕ, Bool, List, slice_index, slice_index_or}
use Rattle.face_text.specs.declared.face.Face.{Face}
use Rattle.site_types.specs.declared.buzzer.Buzzer.{Buzzer}
use Rattle.site_types.specs.declared.fault_set.FaultSet.{FaultSet}
use Rattle.site_types.specs.declared.retained.Retained.{Retained}
use Rattle.site_types.specs.declared.site.Site.{Site}
use Rattle.site_types.specs.declared.word.Word.{Word}
use Rattle.site_types.specs.Bits.{has_bit}
use Rattle.site_types.specs.Done.{Done, no_points}
use Rattle.operation_desk.specs.Replies.{AreInForce}
use Rattle.panel_rules.specs.Faces.{with_settings}
use Rattle.settings_shown.specs.Shown.{HasNoStrangeBits}

-- a face with what settings have of a panel, all else as it was
abbrev pub with_masks : Retained → ℕ → Face → Face
with_masks settings panel face =
    record face {
      points_off = slice_index_or settings.points (panel - 1) no_points;
      zones_off = slice_index settings.zones (panel - 1);
      outputs_off = slice_index settings.outputs (panel - 1);
      test = slice_index settings.tests (panel - 1);
      delays_off = has_bit settings.delays_off (panel - 1);
    }

-- a face with the settings that another one shows, all else as it was
abbrev pub with_settings_of : Face → Face → Face
with_settings_of shown face =
    record face {
      points_off = shown.points_off;
      zones_off = shown.zones_off;
      outputs_off = shown.outputs_off;
      test = shown.test;
      delays_off = shown.delays_off;
    }

-- a face was given the settings of a panel that the rules show in a tick: in whatever history those at hand are
-- in force, and whatever else the panel shows
abbrev pub GivesInForce : Retained → ℕ → Face → Face → Type 0
GivesInForce settings panel before after =
    (site : Site) (kept : Retained) (tick : ℕ) (done : List Done) → HasNoStrangeBits site settings
    → AreInForce site kept tick done settings
    → (words : ℕ → Word) (faults : FaultSet) (on confirmed : ℕ → Bool) (buzzer : Buzzer) (counter : ℕ)
    → after ≡ with_settings_of
    (with_settings site kept done panel tick words faults on confirmed buzzer counter) before
