-- What a turn of Keep may find: few operations wait, and its batch is small and of the site.
use Rattle.std.specs.Prelude.{◌≡◌, ◌≤◌, ◌==◌, ◌&&◌, Bool, true, List, length}
use Rattle.std.specs.List.{list_all, list_any}
use Rattle.site_types.specs.declared.change.Change.{Change}
use Rattle.site_types.specs.declared.change.Change.TheVariants.{Point, Zone, Output, Delays, Count, Clear, Test}
use Rattle.site_types.specs.declared.output.Output.{Output as OutputPlan}
use Rattle.site_types.specs.declared.retained.Retained.{Retained}
use Rattle.site_types.specs.declared.site.Site.{Site}
use Rattle.site_types.specs.Changes.{CanApply}
use Rattle.site_types.specs.Events.{is_panel}
use Rattle.site_types.specs.Profile.{last_address_of}
use Rattle.site_types.specs.Valid.{IsValid}
use Rattle.coincidence_rules.specs.Places.{is_numbered}
use Rattle.panel_conditions.specs.Points.{is_addressed}
use Rattle.panel_rules.specs.Moments.{Moment, IsRun, has_kept}
use Rattle.panel_rules.specs.Operations.{operations}
use Rattle.panel_laws.specs.OperationLaws.{AreOfSite}
use Rattle.panel_rules.specs.Batches.{batch}

-- a change is of a point, zone or output that the site has, or of one of its panels
abbrev pub is_change_of : Site → Change → Bool
is_change_of site (Point panel line address off) = list_any (is_addressed panel line address) site.points
is_change_of site (Zone panel number off) = list_any (is_numbered panel number) site.zones
is_change_of site (Output panel number off) =
    list_any (λ (plan : OutputPlan). (plan.panel == panel) && (plan.number == number)) site.outputs
is_change_of site (Delays panel off) = is_panel site panel
is_change_of site (Count panel entries) = is_panel site panel
is_change_of site (Clear panel) = is_panel site panel
is_change_of site (Test panel number on) = list_any (is_numbered panel number) site.zones

-- at most 64 operations wait for Keep, and once it has had its turn only the 32 that Desks may accept in a
-- tick
abbrev pub FewWait : Type 0
FewWait =
    (site : Site) (kept : Retained) (moments : List Moment)
    → IsValid site → IsRun site.panels moments → AreOfSite site moments
    → (length (operations site kept moments).waiting ≤ 64)
    × (has_kept moments ≡ true → length (operations site kept moments).waiting ≤ 32)

-- a batch has at most 72 changes, a count of each panel and those that wait, and each is of the site
abbrev pub BatchesFit : Type 0
BatchesFit =
    (site : Site) (kept : Retained) (moments : List Moment)
    → IsValid site → IsRun site.panels moments → AreOfSite site moments
    → (length (batch site kept moments) ≤ 72)
    × (list_all (is_change_of site) (batch site kept moments) ≡ true)

-- the address of a point lies within a loop of the site's format
abbrev pub IsWithinLoops : Site → Change → Type 0
IsWithinLoops site (Point panel line address off) = address ≤ last_address_of site.format
IsWithinLoops site (Zone panel number off) = Unit {0}
IsWithinLoops site (Output panel number off) = Unit {0}
IsWithinLoops site (Delays panel off) = Unit {0}
IsWithinLoops site (Count panel entries) = Unit {0}
IsWithinLoops site (Clear panel) = Unit {0}
IsWithinLoops site (Test panel number on) = Unit {0}

-- what a change of a valid site names has a place in what is retained
abbrev pub ChangesHavePlaces : Type 0
ChangesHavePlaces =
    (site : Site) (change : Change) → IsValid site → is_change_of site change ≡ true
    → CanApply change × IsWithinLoops site change
