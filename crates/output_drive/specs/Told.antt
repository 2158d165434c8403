-- What is told of the outputs of a panel, whatever run it stands for.
use Rattle.std.specs.Prelude.{◌≡◌, ℕ, List}
use Rattle.site_types.specs.declared.retained.Retained.{Retained}
use Rattle.site_types.specs.declared.site.Site.{Site}
use Rattle.site_types.specs.Done.{Done}
use Rattle.site_types.specs.Valid.{IsValid}
use Rattle.panel_rules.specs.Moments.{Moment, IsRun}
use Rattle.panel_rules.specs.Markers.{Facts}
use Rattle.panel_rules.specs.Outputs.{is_confirmed_out, is_on, outputs_where}
use Rattle.panel_rules.specs.Faults.{is_unconfirmed}
use Rattle.panel_laws.specs.OperationLaws.{AreEventsOf}
use Rattle.output_drive.specs.declared.drive.Drive.{Drive}
use Rattle.output_drive.specs.Stands.{DrivesFor}

-- the outputs that are on
abbrev pub TellsOn : Drive → ℕ → Type 0
TellsOn drive mask =
    (site : Site) (facts : ℕ → List Moment → Facts) (kept : Retained) (done : List Done) (panel : ℕ) (before :
    List Moment) → DrivesFor site facts kept done panel before drive
    → mask ≡ outputs_where site panel (λ output. is_on site facts kept done output before)

-- the outputs that are confirmed, in a run with events of the site
abbrev pub TellsConfirmed : Drive → ℕ → Type 0
TellsConfirmed drive mask =
    (site : Site) (facts : ℕ → List Moment → Facts) (kept : Retained) (done : List Done) (panel : ℕ) (before :
    List Moment) → DrivesFor site facts kept done panel before drive → IsValid site → IsRun site.panels before
    → AreEventsOf site before
    → mask ≡ outputs_where site panel (λ output. is_confirmed_out site facts kept done output before)

-- the outputs that are unconfirmed, in a run
abbrev pub TellsUnconfirmed : Drive → ℕ → Type 0
TellsUnconfirmed drive mask =
    (site : Site) (facts : ℕ → List Moment → Facts) (kept : Retained) (done : List Done) (panel : ℕ) (before :
    List Moment) → DrivesFor site facts kept done panel before drive → IsValid site → IsRun site.panels before
    → mask ≡ outputs_where site panel (λ output. is_unconfirmed site facts kept done output before)
