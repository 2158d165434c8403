-- Two accounts of what was kept and done that make the same of zones. A text tells what was done in the order of the
-- operations and a run in the order of turns, and a text that is read later tells also what was done later: zones
-- make no difference there.
use Rattle.std.specs.Prelude.{◌≡◌, ◌≤◌, ℕ, List, Some, slice_get}
use Rattle.site_types.specs.declared.retained.Retained.{Retained}
use Rattle.site_types.specs.declared.site.Site.{Site}
use Rattle.site_types.specs.declared.zone.Zone.{Zone}
use Rattle.site_types.specs.Done.{Done, cancelled_before, floor_before, is_blocked}
use Rattle.site_types.specs.Valid.{IsValid}
use Rattle.panel_rules.specs.Faces.{face_with}
use Rattle.panel_rules.specs.Moments.{Moment, tick_of}
use Rattle.panel_laws.specs.FaceLaws.{shows_zone}
use Rattle.audit_laws.specs.RecordedMoments.{without_failures}

-- what was kept and done by one account and by another
pub record Account : Type 0 where
  pub kept : Retained
  pub done : List Done

-- up to a tick the same points are blocked, and each zone has its last floor and its last cancelling in the same tick
pub record AreAlikeForZones (site : Site) (one other : Account) (tick : ℕ) : Type 0 where
  pub blocked : (point x : ℕ) → x ≤ tick
      → is_blocked site one.kept one.done point x ≡ is_blocked site other.kept other.done point x
  pub floors : (zone x : ℕ) → x ≤ tick → floor_before site zone x one.done ≡ floor_before site zone x other.done
  pub cancellings : (zone x : ℕ) → x ≤ tick
      → cancelled_before zone x one.done ≡ cancelled_before zone x other.done

-- a face shows a zone by one of two accounts that are alike for zones up to now, with what befell as a record tells it,
-- exactly where it does by the other, with all that befell
abbrev pub AlikeZonesAreShown : Type 0
AlikeZonesAreShown =
    (site : Site) (one other : Account) (stored also_stored : Retained) (moments : List Moment) (panel place : ℕ)
    (plan : Zone) → IsValid site → slice_get site.zones place ≡ Some plan
    → AreAlikeForZones site one other (tick_of moments)
    → shows_zone (face_with site one.kept one.done stored panel (without_failures moments)) plan
    ≡ shows_zone (face_with site other.kept other.done also_stored panel moments) plan
