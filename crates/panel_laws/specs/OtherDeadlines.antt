-- The other deadlines, at the panel that owns the thing, in each run of a valid site and whatever the order
-- of turns.
use Rattle.std.specs.Prelude.{◌≡◌, ◌≤◌, ◌<◌, ◌+◌, ◌-◌, ◌==◌, ◌⊎◌, ℕ, Bool, true, false, List, Some, slice_get}
use Rattle.std.specs.List.{list_any}
use Rattle.site_types.specs.declared.loop_plan.LoopPlan.{LoopPlan}
use Rattle.site_types.specs.declared.piece_state.PieceState.TheVariants.{Open, Short}
use Rattle.site_types.specs.declared.point.Point.{Point}
use Rattle.site_types.specs.declared.point_state.PointState.TheVariants.{Gone}
use Rattle.site_types.specs.declared.retained.Retained.{Retained}
use Rattle.site_types.specs.declared.site.Site.{Site}
use Rattle.site_types.specs.declared.supply_kind.SupplyKind.{SupplyKind}
use Rattle.site_types.specs.declared.zone.Zone.{Zone}
use Rattle.site_types.specs.Bits.{has_bit, has_point}
use Rattle.site_types.specs.Done.{Done, Setting, in_force, is_on, value_set}
use Rattle.site_types.specs.Profile.{fault_of, reset_of}
use Rattle.site_types.specs.Things.{loop_of}
use Rattle.supply_monitor.specs.Supply.{wait_of}
use Rattle.panel_conditions.specs.Missing.{is_off}
use Rattle.panel_links.specs.Stands.{is_link_of}
use Rattle.panel_rules.specs.Moments.{Moment, tick_of, up_to, IsPanel, IsRun}
use Rattle.panel_rules.specs.States.{state_of, piece_of, is_up, is_bad, supply_number}
use Rattle.panel_rules.specs.Ring.{links_between, link_on}
use Rattle.panel_rules.specs.Due.{reached_at, Signals}
use Rattle.panel_rules.specs.Operations.{Reply, Store, WasDone, Answered, setting_asked, operations}
use Rattle.panel_rules.specs.Timeline.{failed_ticks}
use Rattle.panel_rules.specs.Faces.{face_with}
use Rattle.panel_laws.specs.FaceLaws.{HasEnded, shows_zone}

-- after a reset, or any tick, what signals from the next tick on is shown again on the zone's panel within
-- the profile's ticks of a reset; what a single detector of type A needs is added to both sides
abbrev pub StandsAgain : Type 0
StandsAgain =
    (site : Site) (kept : Retained) (done : List Done) (stored : Retained) (moments : List Moment) (zone :
    ℕ) (plan : Zone) (reset addition settled : ℕ) → HasEnded site moments
    → slice_get site.zones zone ≡ Some plan
    → Signals site kept done moments zone (tick_of moments) settled → settled ≤ reset + 1 + addition
    → reset + reset_of site.format + addition ≤ tick_of moments
    → shows_zone (face_with site kept done stored plan.panel moments) plan ≡ true

-- an open and a short piece of cable are shown in their own tick
abbrev pub PieceIsShown : Type 0
PieceIsShown =
    (site : Site) (kept : Retained) (done : List Done) (stored : Retained) (moments : List Moment)
    (panel line piece : ℕ) (plan : LoopPlan) → HasEnded site moments → IsPanel site.panels panel
    → 1 ≤ line → line ≤ 4
    → loop_of site panel line ≡ Some plan → piece ≤ plan.last
    → (piece_of panel line piece moments ≡ Open
    → has_bit (face_with site kept done stored panel moments).faults.broken (line - 1) ≡ true)
    × (piece_of panel line piece moments ≡ Short
    → has_bit (face_with site kept done stored panel moments).faults.shorted (line - 1) ≡ true)

-- a link that is down is shown in its own tick, at both of its panels
abbrev pub LinkIsShown : Type 0
LinkIsShown =
    (site : Site) (kept : Retained) (done : List Done) (stored : Retained) (moments : List Moment)
    (panel link : ℕ) → HasEnded site moments → IsPanel site.panels panel → 1 ≤ link → link ≤ 8
    → is_link_of site.panels panel link ≡ true → is_up link moments ≡ false
    → has_bit (face_with site kept done stored panel moments).faults.links (link - 1) ≡ true

-- a point was gone or not reached at each tick of a span that ends now and is as long as the profile's ticks
-- of a fault; the span begins at tick 1 or later
pub record IsAway (site : Site) (moments : List Moment) (point first : ℕ) : Type 0 where
  pub begins : 1 ≤ first
  pub long : first + fault_of site.format ≤ tick_of moments
  pub away : (tick : ℕ) → first ≤ tick → tick ≤ tick_of moments → (state_of point (up_to tick moments) ≡ Gone)
      ⊎ (reached_at site point (up_to tick moments) ≡ false)

-- a point that was gone or not reached for the profile's ticks of a fault up to now is shown as missing, where neither
-- it nor its zone is disabled
abbrev pub AwayIsMissing : Type 0
AwayIsMissing =
    (site : Site) (kept : Retained) (done : List Done) (stored : Retained) (moments : List Moment)
    (point first : ℕ) (plan : Point) → HasEnded site moments → slice_get site.points point ≡ Some plan
    → IsAway site moments point first → is_off site kept done point (tick_of moments) ≡ false
    → has_point (face_with site kept done stored plan.panel moments).faults.missing plan.line plan.address
    ≡ true

-- a supply was bad at each tick of a span that ends now and is as long as its wait and the profile's ticks of
-- a fault; the span begins at tick 1 or later
pub record IsBadThrough (site : Site) (moments : List Moment) (panel : ℕ) (kind : SupplyKind) (first : ℕ) :
    Type 0 where
  pub begins : 1 ≤ first
  pub long : first + wait_of kind site.waits + fault_of site.format ≤ tick_of moments + 1
  pub bad : (tick : ℕ) → first ≤ tick → tick ≤ tick_of moments → is_bad panel kind (up_to tick moments) ≡ true

-- the fault of a supply that was bad for its wait and the profile's ticks of a fault up to now is shown
abbrev pub BadSupplyIsShown : Type 0
BadSupplyIsShown =
    (site : Site) (kept : Retained) (done : List Done) (stored : Retained) (moments : List Moment) (panel :
    ℕ) (kind : SupplyKind) (first : ℕ) → HasEnded site moments → IsPanel site.panels panel
    → IsBadThrough site moments panel kind first
    → has_bit (face_with site kept done stored panel moments).faults.supply (supply_number kind) ≡ true

-- one link of each of the two ways round the ring between two panels was down at each tick of a span that
-- ends now and is as long as the profile's ticks of a fault; the span begins at tick 1 or later
pub record IsCutOff (site : Site) (moments : List Moment) (panel other first : ℕ) : Type 0 where
  pub begins : 1 ≤ first
  pub long : first + fault_of site.format ≤ tick_of moments
  pub one : ℕ
  pub one_on : one < links_between site.panels other panel
  pub one_down : (tick : ℕ) → first ≤ tick → tick ≤ tick_of moments
      → is_up (link_on site.panels other one) (up_to tick moments) ≡ false
  pub two : ℕ
  pub two_on : two < links_between site.panels panel other
  pub two_down : (tick : ℕ) → first ≤ tick → tick ≤ tick_of moments
      → is_up (link_on site.panels panel two) (up_to tick moments) ≡ false

-- the one shows the other as silent
abbrev pub CutOffIsSilent : Type 0
CutOffIsSilent =
    (site : Site) (kept : Retained) (done : List Done) (stored : Retained) (moments : List Moment)
    (panel other first : ℕ) → HasEnded site moments → IsPanel site.panels panel
    → IsPanel site.panels other
    → IsCutOff site moments panel other first
    → has_bit (face_with site kept done stored panel moments).faults.silent (other - 1) ≡ true

-- no other operation on a setting was done after a tick and before another one
abbrev pub NoneBetween : Setting → ℕ → ℕ → List Done → Type 0
NoneBetween setting first tick done = (place : ℕ) (d : Done) → slice_get done place ≡ Some d
    → is_on setting d ≡ true → first < d.tick → tick ≤ d.tick

-- an operation on a setting was done by the tick after its own, and its setting is as it set it from the tick
-- after on, until another operation on it is done
pub record HoldsFrom (site : Site) (kept : Retained) (moments : List Moment) (setting : Setting) (a :
    Answered) : Type 0 where
  pub was_done : a.reply ≡ WasDone
  pub soon : a.tick ≤ a.request.tick + 1
  pub holds : (tick : ℕ) → a.tick < tick → NoneBetween setting a.tick tick (operations site kept moments).done
      → in_force site kept setting tick (operations site kept moments).done ≡ value_set a.request.operation

-- an operation on a setting that Desk did not answer itself is done and in force so, where no turn of Keep
-- failed in its tick and the next one
abbrev pub is_by_desk : Reply → Bool
is_by_desk Store = false
is_by_desk WasDone = false
is_by_desk _ = true

abbrev pub AcceptedIsInForce : Type 0
AcceptedIsInForce =
    (site : Site) (kept : Retained) (moments : List Moment) (place : ℕ) (a : Answered) (setting : Setting)
    → IsRun site.panels moments → slice_get (operations site kept moments).answers place ≡ Some a
    → setting_asked a.request ≡ Some setting → is_by_desk a.reply ≡ false
    → ((tick : ℕ) → a.request.tick ≤ tick → tick ≤ a.request.tick + 1
    → list_any (λ failed. failed == tick) (failed_ticks moments) ≡ false)
    → HoldsFrom site kept moments setting a
