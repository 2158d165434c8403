-- What faces show of settings: what was accepted is shown from the second tick after it on.
use Rattle.std.specs.Prelude.{◌≡◌, ◌≤◌, ◌+◌, ◌-◌, ◌==◌, ℕ, Bool, false, true, List, Some, slice_get}
use Rattle.std.specs.List.{list_any}
use Rattle.site_types.specs.declared.item.Item.TheVariants.{Point as PointItem, Output as OutputItem}
use Rattle.site_types.specs.declared.output.Output.{Output}
use Rattle.site_types.specs.declared.point.Point.{Point}
use Rattle.site_types.specs.declared.retained.Retained.{Retained}
use Rattle.site_types.specs.declared.site.Site.{Site}
use Rattle.site_types.specs.declared.zone.Zone.{Zone}
use Rattle.site_types.specs.Bits.{has_bit, has_point}
use Rattle.site_types.specs.Done.{Done, Setting, PointOff, ZoneOff, OutputOff, InTest, DelaysOff, Counter}
use Rattle.site_types.specs.Done.{in_force, value_set}
use Rattle.site_types.specs.Events.{has_item, has_zone, is_some_with}
use Rattle.site_types.specs.Valid.{IsValid}
use Rattle.face_text.specs.declared.face.Face.{Face}
use Rattle.panel_rules.specs.Moments.{Moment, tick_of, IsRun}
use Rattle.panel_rules.specs.Operations.{Answered, setting_asked, operations}
use Rattle.panel_laws.specs.OperationLaws.{AreOfSite}
use Rattle.panel_rules.specs.Timeline.{failed_ticks}
use Rattle.panel_rules.specs.Faces.{face_with}
use Rattle.panel_laws.specs.OtherDeadlines.{NoneBetween, is_by_desk}

-- a setting is at a panel: that of a point, a zone or an output of it, of its delays or its counter
abbrev pub is_setting_at : Site → ℕ → Setting → Bool
is_setting_at site panel (PointOff point) = has_item site panel (PointItem point)
is_setting_at site panel (ZoneOff zone) = has_zone site panel zone
is_setting_at site panel (OutputOff output) = has_item site panel (OutputItem output)
is_setting_at site panel (InTest zone) = has_zone site panel zone
is_setting_at site panel (DelaysOff other) = other == panel
is_setting_at site panel (Counter other) = other == panel

-- the face of its panel shows a setting: the thing as disabled, the zone as in test, the delays as off; a
-- counter is shown as a number, and never so
abbrev pub shows_setting : Site → Face → Setting → Bool
shows_setting site face (PointOff point) =
    is_some_with (λ (p : Point). has_point face.points_off p.line p.address) (slice_get site.points point)
shows_setting site face (ZoneOff zone) =
    is_some_with (λ (z : Zone). has_bit face.zones_off (z.number - 1)) (slice_get site.zones zone)
shows_setting site face (OutputOff output) =
    is_some_with (λ (o : Output). has_bit face.outputs_off (o.number - 1)) (slice_get site.outputs output)
shows_setting site face (InTest zone) =
    is_some_with (λ (z : Zone). has_bit face.test (z.number - 1)) (slice_get site.zones zone)
shows_setting site face (DelaysOff panel) = face.delays_off
shows_setting site face (Counter panel) = false

-- the face of a panel shows exactly those of its settings that are in force at the tick
abbrev pub SettingsAreShown : Type 0
SettingsAreShown =
    (site : Site) (kept : Retained) (done : List Done) (stored : Retained) (moments : List Moment) (panel : ℕ)
    (setting : Setting) → IsValid site → is_setting_at site panel setting ≡ true
    → shows_setting site (face_with site kept done stored panel moments) setting
    ≡ in_force site kept setting (tick_of moments) done

-- an operation on a setting was accepted for Keep, and no turn of Keep failed in its tick and the next one
pub record WasAccepted (site : Site) (kept : Retained) (moments : List Moment) (a : Answered)
    (setting : Setting) : Type 0 where
  pub place : ℕ
  pub is : slice_get (operations site kept moments).answers place ≡ Some a
  pub on : setting_asked a.request ≡ Some setting
  pub by_keep : is_by_desk a.reply ≡ false
  pub stored : (tick : ℕ) → a.request.tick ≤ tick → tick ≤ a.request.tick + 1
      → list_any (λ failed. failed == tick) (failed_ticks moments) ≡ false

-- from the second tick after an accepted operation on, the face of its panel shows the setting as the
-- operation set it, until another operation on the setting is done: a disablement is shown, a test, and that
-- delays are off
abbrev pub AcceptedIsShown : Type 0
AcceptedIsShown =
    (site : Site) (kept : Retained) (stored : Retained) (moments : List Moment) (a : Answered) (setting :
    Setting)
    → IsValid site → IsRun site.panels moments → AreOfSite site moments
    → WasAccepted site kept moments a setting
    → a.request.tick + 2 ≤ tick_of moments
    → NoneBetween setting a.tick (tick_of moments) (operations site kept moments).done
    → shows_setting site
    (face_with site kept (operations site kept moments).done stored a.request.panel moments) setting
    ≡ value_set a.request.operation
