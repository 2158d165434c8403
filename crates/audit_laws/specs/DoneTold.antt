-- The answers of a run's text tell what was done, its opening faces what was kept of points and zones.
use Rattle.std.specs.Prelude.{◌≡◌, ◌↔◌, ℕ, List, [], Some, slice_get}
use Rattle.site_types.specs.declared.retained.Retained.{Retained}
use Rattle.site_types.specs.declared.site.Site.{Site}
use Rattle.site_types.specs.Done.{Done, InTest, PointOff, ZoneOff, at_opening}
use Rattle.site_types.specs.Valid.{IsValid}
use Rattle.panel_rules.specs.Moments.{TickBlock, moments}
use Rattle.panel_rules.specs.Operations.{operations}
use Rattle.panel_rules.specs.Records.{AreOrdered}
use Rattle.panel_rules.specs.Timeline.{faces_of, timeline_of}
use Rattle.run_text.specs.Failures.{as_recorded}
use Rattle.audit_rules.specs.ToldDone.{retained_by}
use Rattle.audit_laws.specs.ZonesJudged.{TellsOfZones, account_of_text}

-- an operation is among those that were done
pub record IsAmongDone (done : Done) (all : List Done) : Type 0 where
  pub place : ℕ
  pub is : slice_get all place ≡ Some done

-- a text tells as done exactly what the run has done, in its tick and at its panel; of one tick, the order of the
-- two may differ
abbrev pub DoneIsTold : Type 0
DoneIsTold =
    (site : Site) (kept : Retained) (ticks : List TickBlock) (done : Done) → AreOrdered site.panels ticks
    → IsAmongDone done (account_of_text site (as_recorded ticks) (timeline_of site kept (moments ticks))).done
    ↔ IsAmongDone done (operations site kept (moments ticks)).done

-- the opening faces tell the settings of each point and zone as they were kept, whatever else was kept
pub record TellsSettings (site : Site) (kept : Retained) : Type 0 where
  pub points : (point : ℕ)
      → at_opening site (retained_by (faces_of site kept [])) (PointOff point) ≡ at_opening site kept (PointOff point)
  pub zones : (zone : ℕ)
      → at_opening site (retained_by (faces_of site kept [])) (ZoneOff zone) ≡ at_opening site kept (ZoneOff zone)
  pub tests : (zone : ℕ)
      → at_opening site (retained_by (faces_of site kept [])) (InTest zone) ≡ at_opening site kept (InTest zone)

abbrev pub SettingsAreTold : Type 0
SettingsAreTold = (site : Site) (kept : Retained) → IsValid site → TellsSettings site kept

-- a run's text makes of zones, up to each tick, what the run makes of them by then
abbrev pub ZonesAreTold : Type 0
ZonesAreTold =
    (site : Site) (kept : Retained) (ticks : List TickBlock) → IsValid site → AreOrdered site.panels ticks
    → TellsOfZones site kept ticks
