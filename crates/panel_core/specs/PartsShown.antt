-- What the parts of a panel show of it, with the operations that are in force.
use Rattle.std.specs.Prelude.{◌≡◌, ℕ, List, ◌∷◌}
use Rattle.tick_units.specs.declared.task.Task.TheVariants.{Hold}
use Rattle.site_types.specs.declared.retained.Retained.{Retained}
use Rattle.site_types.specs.declared.site.Site.{Site}
use Rattle.site_types.specs.declared.word.Word.{Word}
use Rattle.panel_rules.specs.Faces.{buzzer_of}
use Rattle.panel_rules.specs.Moments.{Moment, Turned, IsRun}
use Rattle.panel_rules.specs.Outputs.{is_confirmed_out, is_on, outputs_where}
use Rattle.panel_rules.specs.Run.{facts_of, faults_of, tells_fault}
use Rattle.panel_rules.specs.Words.{latest_word}
use Rattle.panel_core.specs.declared.outputs_shown.OutputsShown.{OutputsShown}
use Rattle.panel_core.specs.declared.system.System.{System}
use Rattle.panel_parts.specs.Applied.{applied}
use Rattle.panel_core.specs.Stands.{StandsFor}

module _ (site : Site) (kept : Retained) (panel : ℕ) (before : List Moment) where
  -- the latest word of the panel, with the operations that are in force before
  abbrev pub own_word : List Moment → Word
  own_word =
      latest_word site kept (applied site kept before) (tells_fault site kept (applied site kept before)) panel

  -- after a turn of Hold its zones, faults and buzzer are shown as before
  pub record HoldShowsAgain : Type 0 where
    pub alarms : (own_word (Turned panel Hold ∷ before)).alarm ≡ (own_word before).alarm
    pub firsts : (own_word (Turned panel Hold ∷ before)).first ≡ (own_word before).first
    pub faults : faults_of site kept (applied site kept before) panel (Turned panel Hold ∷ before)
        ≡ faults_of site kept (applied site kept before) panel before
    pub buzzer : buzzer_of site kept (applied site kept before) panel (Turned panel Hold ∷ before)
        ≡ buzzer_of site kept (applied site kept before) panel before

  -- Drive shows its outputs that are on and those that are confirmed
  pub record DriveShows (shown : OutputsShown) : Type 0 where
    pub on : shown.on
        ≡ outputs_where site panel (λ output. is_on site (facts_of site kept (applied site kept before)) kept
        (applied site kept before) output before)
    pub confirmed : shown.confirmed
        ≡ outputs_where site panel (λ output. is_confirmed_out site (facts_of site kept (applied site kept before))
        kept (applied site kept before) output before)

-- a turn of Hold leaves what it shows of a panel
abbrev pub ShowsAgainByHold : System → ℕ → Type 0
ShowsAgainByHold system panel =
    (site : Site) (kept : Retained) (before : List Moment)
    → StandsFor site kept before system → IsRun site.panels (Turned panel Hold ∷ before)
    → HoldShowsAgain site kept panel before

abbrev pub ShowsByDrive : System → ℕ → OutputsShown → Type 0
ShowsByDrive system panel shown =
    (site : Site) (kept : Retained) (before : List Moment)
    → StandsFor site kept before system → IsRun site.panels before → DriveShows site kept panel before shown
