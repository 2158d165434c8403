-- What the operations that were done make of settings, floors and cancellings. An operation is in force from
-- the tick after its own.
use Rattle.std.specs.Prelude.{ℕ, ◌-◌, ◌≤◌, max, Bool, true, false, not, List, [], ◌∷◌, Option, Some, None, slice_get}
use Rattle.std.specs.Prelude.{slice_index, slice_index_or, if◌then◌else◌, ◌==◌, ◌&&◌, ◌||◌, nat_lt, nat_le}
use Rattle.site_types.specs.declared.site.Site.{Site}
use Rattle.site_types.specs.declared.point.Point.{Point as PointPlan}
use Rattle.site_types.specs.declared.zone.Zone.{Zone as ZonePlan}
use Rattle.site_types.specs.declared.output.Output.{Output as OutputPlan}
use Rattle.site_types.specs.declared.point_set.PointSet.{PointSet}
use Rattle.site_types.specs.declared.retained.Retained.{Retained}
use Rattle.site_types.specs.declared.item.Item.{Item}
use Rattle.site_types.specs.declared.item.Item.TheVariants.{Point, Zone, Output}
use Rattle.site_types.specs.declared.operation.Operation.{Operation}
use Rattle.site_types.specs.declared.operation.Operation.TheVariants.{Mute, Override, Silence, Resound, Reset, Cancel}
use Rattle.site_types.specs.declared.operation.Operation.TheVariants.{Disable, Enable, Test, Untest, Delays, Clear}
use Rattle.site_types.specs.Bits.{has_bit, has_point}

-- an operation that was done: in which tick, at which panel; lists of these have the newest first
pub record Done : Type 0 where
  pub tick : ℕ
  pub panel : ℕ
  pub operation : Operation

-- what an operation may set until another sets it anew: a point, zone or output is disabled, a zone is in
-- test, a panel's delays are off, a panel's counter
pub data Setting : Type 0 where
  PointOff : (point : ℕ) → Setting
  ZoneOff : (zone : ℕ) → Setting
  OutputOff : (output : ℕ) → Setting
  InTest : (zone : ℕ) → Setting
  DelaysOff : (panel : ℕ) → Setting
  Counter : (panel : ℕ) → Setting

abbrev pub same_setting : Setting → Setting → Bool
same_setting (PointOff a) (PointOff b) = a == b
same_setting (ZoneOff a) (ZoneOff b) = a == b
same_setting (OutputOff a) (OutputOff b) = a == b
same_setting (InTest a) (InTest b) = a == b
same_setting (DelaysOff a) (DelaysOff b) = a == b
same_setting (Counter a) (Counter b) = a == b
same_setting _ _ = false

-- the disablement of a point, zone or output
abbrev pub item_off : Item → Setting
item_off (Point point) = PointOff point
item_off (Zone zone) = ZoneOff zone
item_off (Output output) = OutputOff output

-- the setting that an operation at a panel is on
abbrev pub operation_setting : ℕ → Operation → Option Setting
operation_setting panel (Disable item) = Some (item_off item)
operation_setting panel (Enable item) = Some (item_off item)
operation_setting panel (Test zone) = Some (InTest zone)
operation_setting panel (Untest zone) = Some (InTest zone)
operation_setting panel (Delays on) = Some (DelaysOff panel)
operation_setting panel Clear = Some (Counter panel)
operation_setting panel _ = None

abbrev pub setting_of : Done → Option Setting
setting_of d = operation_setting d.panel d.operation

-- what an operation makes of its setting: true for disabled, in test, off; a counter has no such value
abbrev pub value_set : Operation → Bool
value_set (Disable item) = true
value_set (Test zone) = true
value_set (Delays on) = not on
value_set _ = false

-- an operation is kept over a power cut exactly where it is on a setting
abbrev pub is_kept_operation : Operation → Bool
is_kept_operation (Disable item) = true
is_kept_operation (Enable item) = true
is_kept_operation (Test zone) = true
is_kept_operation (Untest zone) = true
is_kept_operation (Delays on) = true
is_kept_operation Clear = true
is_kept_operation _ = false

-- no point by default
abbrev pub no_points : PointSet
no_points = record { loops = [] }

-- what is kept of a point, a zone, an output and a panel
abbrev pub kept_point : Retained → Option PointPlan → Bool
kept_point kept None = false
kept_point kept (Some p) = has_point (slice_index_or kept.points (p.panel - 1) no_points) p.line p.address

abbrev pub kept_zone : Retained → Option ZonePlan → Bool
kept_zone kept None = false
kept_zone kept (Some z) = has_bit (slice_index kept.zones (z.panel - 1)) (z.number - 1)

abbrev pub kept_output : Retained → Option OutputPlan → Bool
kept_output kept None = false
kept_output kept (Some o) = has_bit (slice_index kept.outputs (o.panel - 1)) (o.number - 1)

abbrev pub kept_test : Retained → Option ZonePlan → Bool
kept_test kept None = false
kept_test kept (Some z) = has_bit (slice_index kept.tests (z.panel - 1)) (z.number - 1)

-- the value that a setting has by what is kept
abbrev pub at_opening : Site → Retained → Setting → Bool
at_opening site kept (PointOff point) = kept_point kept (slice_get site.points point)
at_opening site kept (ZoneOff zone) = kept_zone kept (slice_get site.zones zone)
at_opening site kept (OutputOff output) = kept_output kept (slice_get site.outputs output)
at_opening site kept (InTest zone) = kept_test kept (slice_get site.zones zone)
at_opening site kept (DelaysOff panel) = has_bit kept.delays_off (panel - 1)
at_opening site kept (Counter panel) = false

-- the setting of delays or of a counter is of a panel from 1 to 8
abbrev pub IsSetting : Setting → Type 0
IsSetting (DelaysOff panel) = (1 ≤ panel) × (panel ≤ 8)
IsSetting (Counter panel) = (1 ≤ panel) × (panel ≤ 8)
IsSetting _ = Unit {0}

abbrev pub is_setting : Setting → Option Setting → Bool
is_setting setting None = false
is_setting setting (Some other) = same_setting setting other

-- whether an operation was on the setting
abbrev pub is_on : Setting → Done → Bool
is_on setting d = is_setting setting (setting_of d)

-- the value of a setting at x: by the latest operation on it that was done in a tick before x, else the one
-- at opening
abbrev pub in_force : Site → Retained → Setting → ℕ → List Done → Bool
in_force site kept setting x [] = at_opening site kept setting
in_force site kept setting x (d ∷ ds) =
    if is_on setting d && nat_lt d.tick x then value_set d.operation else in_force site kept setting x ds

-- the latest tick before x with an operation of a kind, else 0
abbrev pub latest_before : (Done → Bool) → ℕ → List Done → ℕ
latest_before test x [] = 0
latest_before test x (d ∷ ds) =
    if test d && nat_lt d.tick x then max d.tick (latest_before test x ds) else latest_before test x ds

abbrev pub is_of_panel : ℕ → Option ZonePlan → Bool
is_of_panel panel None = false
is_of_panel panel (Some z) = panel == z.panel

-- a floor of a zone: a reset of its panel, its disabling or its test
abbrev pub is_floor : Site → ℕ → ℕ → Operation → Bool
is_floor site zone panel Reset = is_of_panel panel (slice_get site.zones zone)
is_floor site zone panel (Disable (Zone other)) = other == zone
is_floor site zone panel (Test other) = other == zone
is_floor site zone panel _ = false

abbrev pub moves_floor : Site → ℕ → Done → Bool
moves_floor site zone d = is_floor site zone d.panel d.operation

-- the tick of the last floor of a zone before x, else 0
abbrev pub floor_before : Site → ℕ → ℕ → List Done → ℕ
floor_before site zone x done = latest_before (moves_floor site zone) x done

abbrev pub is_cancel : ℕ → Operation → Bool
is_cancel zone (Cancel other) = other == zone
is_cancel zone _ = false

abbrev pub cancels : ℕ → Done → Bool
cancels zone d = is_cancel zone d.operation

-- the tick of the last cancelling of a zone before x, else 0
abbrev pub cancelled_before : ℕ → ℕ → List Done → ℕ
cancelled_before zone x done = latest_before (cancels zone) x done

abbrev pub is_mute : Operation → Bool
is_mute Mute = true
is_mute _ = false

abbrev pub mutes : ℕ → Done → Bool
mutes panel d = d.panel == panel && is_mute d.operation

-- the tick of the last mute of a panel before x, else 0
abbrev pub muted_before : ℕ → ℕ → List Done → ℕ
muted_before panel x done = latest_before (mutes panel) x done

abbrev pub is_override : Operation → Bool
is_override Override = true
is_override _ = false

-- whether an override was done at a panel in one of the ticks from the first on, and before x
abbrev pub override_done_in : ℕ → ℕ → ℕ → List Done → Bool
override_done_in panel first x [] = false
override_done_in panel first x (d ∷ ds) =
    (d.panel == panel && is_override d.operation && nat_le first d.tick && nat_lt d.tick x)
    || override_done_in panel first x ds

-- for a silence its tick, for a resound none, for others what was
abbrev pub silence_then : Operation → ℕ → Option ℕ → Option ℕ
silence_then Silence tick before = Some tick
silence_then Resound tick before = None
silence_then _ tick before = before

-- the tick of the silence that is the last silence or resound of a panel before x, if it is one
abbrev pub silence_before : ℕ → ℕ → List Done → Option ℕ
silence_before panel x [] = None
silence_before panel x (d ∷ ds) =
    if d.panel == panel && nat_lt d.tick x then silence_then d.operation d.tick (silence_before panel x ds)
    else silence_before panel x ds

-- whether the zone of a point is disabled or in test at x
abbrev pub is_zone_blocked : Site → Retained → List Done → Option PointPlan → ℕ → Bool
is_zone_blocked site kept done None x = false
is_zone_blocked site kept done (Some p) x = in_force site kept (ZoneOff p.zone) x done
    || in_force site kept (InTest p.zone) x done

-- whether at x a point is disabled, or its zone is disabled or in test
abbrev pub is_blocked : Site → Retained → List Done → ℕ → ℕ → Bool
is_blocked site kept done point x = in_force site kept (PointOff point) x done
    || is_zone_blocked site kept done (slice_get site.points point) x

-- each was done by this tick
abbrev pub AreBy : ℕ → List Done → Type 0
AreBy tick [] = Unit {0}
AreBy tick (d ∷ ds) = (d.tick ≤ tick) × AreBy tick ds
