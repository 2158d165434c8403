-- Which indications and outputs are caused.
use Rattle.std.specs.Prelude.{◌≡◌, ℕ, ◌==◌, true, List, if◌then◌else◌}
use Rattle.tick_units.specs.declared.task.Task.TheVariants.{Effect, Drive}
use Rattle.site_types.specs.declared.retained.Retained.{Retained}
use Rattle.site_types.specs.declared.site.Site.{Site}
use Rattle.site_types.specs.Done.{Done}
use Rattle.panel_conditions.specs.Words.{has_fault}
use Rattle.panel_rules.specs.Moments.{Moment, tick_of, before_turn}
use Rattle.panel_rules.specs.Zones.{panel_of_zone}
use Rattle.panel_rules.specs.Kept.{kept_at, heard}
use Rattle.panel_rules.specs.Markers.{Facts}
use Rattle.panel_rules.specs.Outputs.{is_true_over, panel_of_output}
use Rattle.panel_rules.specs.Run.{faults_with, tells_fault}
use Rattle.panel_rules.specs.Caused.{IsCausedAt, IsCausedByHand, IsCausedOut}

-- the stamp at which a panel shows a zone: of its own zones the present tick, of others the one heard
abbrev pub shown_at : Site → ℕ → ℕ → List Moment → ℕ
shown_at site panel zone moments =
    if panel == panel_of_zone site zone then tick_of moments else heard site.panels panel
    (panel_of_zone site zone) moments

module _ (site : Site) (kept : Retained) (done : List Done) (moments : List Moment) where
  -- a zone that a panel shows is caused
  abbrev pub IsCausedAtPanel : ℕ → ℕ → Type 0
  IsCausedAtPanel panel zone = IsCausedAt site kept done moments zone (shown_at site panel zone moments)

  -- what had befallen before the Effect turn that the latest turn of Drive went by
  abbrev pub before_effect : ℕ → List Moment
  before_effect panel = before_turn panel Effect (before_turn panel Drive moments)

  -- facts each true one of which is caused at the stamp that the panel had heard at that Effect turn: zones
  -- are released, call points in alarm by hand, and a panel that tells a fault had one
  pub record AreCaused (panel : ℕ) (facts : Facts) : Type 0 where
    pub released : (zone : ℕ) → facts.released zone ≡ true
        → IsCausedOut site kept done moments zone
        (heard site.panels panel (panel_of_zone site zone) (before_effect panel))
    pub by_hand : (zone : ℕ) → facts.by_hand zone ≡ true
        → IsCausedByHand site kept done moments zone
        (heard site.panels panel (panel_of_zone site zone) (before_effect panel))
    pub faults : (source : ℕ) → facts.faulty source ≡ true
        → has_fault
        (faults_with site kept done (tells_fault site kept done) source
        (kept_at site.panels panel source (before_effect panel))) ≡ true

  -- an output is caused: such facts make its marker true
  pub record IsCausedOutput (output : ℕ) : Type 0 where
    pub facts : Facts
    pub caused : AreCaused (panel_of_output site output) facts
    pub asks : is_true_over site output facts ≡ true
