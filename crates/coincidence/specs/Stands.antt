-- The part that decides stands for the operations done and the answers taken.
use Rattle.std.specs.Prelude.{◌≡◌, ◌<◌, ◌≤◌, ℕ, Bool, true, false, List, [], ◌∷◌, Option, Some, None, length}
use Rattle.std.specs.Prelude.{slice_get, take, ◌==◌, ◌&&◌, nat_le, if◌then◌else◌}
use Rattle.tick_units.specs.Lane.{LaneState, turn_count}
use Rattle.tick_units.specs.declared.switch.Switch.{Switch}
use Rattle.site_types.specs.declared.site.Site.{Site}
use Rattle.site_types.specs.declared.point.Point.{Point as PointPlan}
use Rattle.site_types.specs.declared.zone.Zone.{Zone as ZonePlan}
use Rattle.site_types.specs.declared.answer.Answer.{Answer}
use Rattle.site_types.specs.declared.retained.Retained.{Retained}
use Rattle.site_types.specs.declared.item.Item.{Item}
use Rattle.site_types.specs.declared.item.Item.TheVariants.{Zone}
use Rattle.site_types.specs.declared.operation.Operation.{Operation}
use Rattle.site_types.specs.declared.operation.Operation.TheVariants.{Reset, Disable, Enable, Test}
use Rattle.site_types.specs.Done.{Done, Setting, PointOff, ZoneOff, InTest, is_on, in_force, floor_before, cancels}
use Rattle.site_types.specs.Done.{AreBy}
use Rattle.site_types.specs.Profile.{missing_askings}
use Rattle.coincidence_rules.specs.Applied.{TellsLast}
use Rattle.coincidence_rules.specs.Counted.{is_counted}
use Rattle.coincidence_rules.specs.Missing.{latest_of, begins_silent}
use Rattle.coincidence_rules.specs.InOrder.{AreInOrder}
use Rattle.coincidence.specs.declared.point_watch.PointWatch.{PointWatch}
use Rattle.coincidence.specs.declared.zone_watch.ZoneWatch.{ZoneWatch}
use Rattle.coincidence.specs.declared.decide.Decide.{Decide}
use Rattle.coincidence.specs.Parts.{switch_at, besides}
use Rattle.coincidence_rules.specs.Kept.{latest_besides, run_of, may_pair}
use Rattle.coincidence_rules.specs.Wired.{IsWired}
use Rattle.coincidence.specs.Places.{HasGoingOn}
use Rattle.coincidence.specs.Premises.{IsOwn, MayTake, MayApply}
use Rattle.coincidence.specs.ZoneMasks.{TellZonesOf}

-- the operation is a reset
abbrev pub is_reset : Operation → Bool
is_reset Reset = true
is_reset _ = false

-- a reset of the panel
abbrev pub resets : ℕ → Done → Bool
resets panel d = is_reset d.operation && (d.panel == panel)

-- the operation disables the zone or begins its test
abbrev pub is_move : ℕ → Operation → Bool
is_move zone (Disable (Zone other)) = other == zone
is_move zone (Test other) = other == zone
is_move zone _ = false

-- a disabling or a test of the zone
abbrev pub moves : ℕ → Done → Bool
moves zone d = is_move zone d.operation

-- the tick of the last operation on a setting, else 0
abbrev pub set_in : Setting → List Done → ℕ
set_in setting [] = 0
set_in setting (d ∷ ds) = if is_on setting d then d.tick else set_in setting ds

-- a switch tells a setting at each tick from its own on
pub record TellsSetting (site : Site) (kept : Retained) (setting : Setting) (done : List Done) (switch :
    Switch) : Type 0 where
  pub at : (x : ℕ) → switch.since.0 ≤ x → in_force site kept setting x done ≡ switch_at x switch
  pub since : switch.since.0 ≡ set_in setting done

-- what is kept of a point tells of the operations done and the answers taken
pub record WatchesPoint (site : Site) (kept : Retained) (done : List Done) (taken : List Answer) (place :
    ℕ) (point : PointPlan) (watch : PointWatch) : Type 0 where
  pub zone : watch.zone ≡ point.zone
  pub manual : watch.manual ≡ point.manual
  pub off : TellsSetting site kept (PointOff place) done watch.off
  pub silent : (n : ℕ) → n ≤ missing_askings → begins_silent n (latest_of place taken) ≡ nat_le n watch.silent
  pub few : watch.silent ≤ missing_askings
  pub run : watch.run ≡ run_of (is_counted site kept done) (λ x. floor_before site point.zone x done) place
      None taken

-- what is kept of a zone tells of the operations done and the answers taken
pub record WatchesZone (site : Site) (kept : Retained) (done : List Done) (taken : List Answer) (place :
    ℕ) (zone : ZonePlan) (watch : ZoneWatch) : Type 0 where
  pub number : watch.number ≡ zone.number
  pub rule : watch.rule ≡ zone.rule
  pub partner : watch.partner ≡ zone.partner
  pub off : TellsSetting site kept (ZoneOff place) done watch.off
  pub test : TellsSetting site kept (InTest place) done watch.test
  pub moved : TellsLast (moves place) done watch.moved
  pub cancelled : TellsLast (cancels place) done watch.cancelled
  pub recent : (point : ℕ)
      → besides point watch.recent ≡ latest_besides (may_pair site kept done place zone.rule) point None taken

-- the part stands for the operations done and the answers taken
pub record DecidesFor (site : Site) (kept : Retained) (panel : ℕ) (done : List Done) (taken : List Answer)
    (decide : Decide) : Type 0 where
  pub wired : IsWired site
  pub at : decide.panel ≡ panel
  pub point_count : length decide.points ≡ length site.points
  pub zone_count : length decide.zones.items ≡ length site.zones
  pub points : (place : ℕ) (watch : PointWatch) (point : PointPlan)
      → slice_get decide.points place ≡ Some watch → slice_get site.points place ≡ Some point
      → point.panel ≡ panel
      → WatchesPoint site kept done taken place point watch
  pub zones : (place : ℕ) (watch : ZoneWatch) (zone : ZonePlan)
      → slice_get decide.zones.items place ≡ Some watch → slice_get site.zones place ≡ Some zone
      → zone.panel ≡ panel
      → WatchesZone site kept done taken place zone watch
  pub reset : TellsLast (resets panel) done decide.reset
  pub going_on : HasGoingOn decide.going_on decide.since.0 decide.reset decide.points decide.zones.items
  pub order : AreInOrder taken
  pub own : (k : ℕ) (answer : Answer) → slice_get taken k ≡ Some answer → IsOwn site panel answer.point
  pub told : TellZonesOf site.points site.zones decide.told.blocks.items

-- an answer of the panel, not earlier than any answer taken nor than the tick of any operation done
pub record Fits (site : Site) (panel : ℕ) (done : List Done) (taken : List Answer) (answer : Answer) :
    Type 0 where
  pub own : IsOwn site panel answer.point
  pub since : AreBy answer.stamp.0 done
  pub late : (k : ℕ) (other : Answer) → slice_get taken k ≡ Some other → other.stamp.0 ≤ answer.stamp.0

-- the part stands for something of which a relation holds
pub record StandsWith (decide : Decide) (Holds : Site → Retained → ℕ → List Done → List Answer → Type 0) :
    Type 0 where
  pub site : Site
  pub kept : Retained
  pub panel : ℕ
  pub done : List Done
  pub taken : List Answer
  pub stands : DecidesFor site kept panel done taken decide
  pub may : Holds site kept panel done taken

-- the part that decides stands for some operations done and answers taken with which an answer fits
abbrev pub CanObserve : Decide → Answer → Type 0
CanObserve decide answer =
    StandsWith decide (λ site kept panel done taken. Fits site panel done taken answer)

-- the part that decides stands for some operations done and answers taken after which more answers may be taken
abbrev pub CanTake : Decide → List Answer → Type 0
CanTake decide answers =
    StandsWith decide (λ site kept panel done taken. MayTake site panel done taken answers)

-- the part that decides stands for some operations done and answers taken after which an operation may be applied in a
-- tick
abbrev pub CanApply : Decide → Operation → ℕ → Type 0
CanApply decide operation tick =
    StandsWith decide (λ site kept panel done taken. MayApply site panel done taken operation tick)

-- what a turn takes of a lane
abbrev pub taken_by : LaneState Answer → List Answer
taken_by lane = take (turn_count lane) lane.items

-- the zone is of the panel
pub record IsOwnZone (site : Site) (panel place : ℕ) : Type 0 where
  pub zone : ZonePlan
  pub is : slice_get site.zones place ≡ Some zone
  pub at : zone.panel ≡ panel

-- a thing is disabled or enabled
abbrev pub off_operation : Bool → Item → Operation
off_operation true item = Disable item
off_operation false item = Enable item

-- a partner, if there is one, is one of so many zones
abbrev pub IsPlaceIn : Option ℕ → ℕ → Type 0
IsPlaceIn None count = Unit {0}
IsPlaceIn (Some place) count = place < count

-- a partner, if there is one, is a zone of the panel
abbrev pub IsOwnPartner : Site → ℕ → Option ℕ → Type 0
IsOwnPartner site panel None = Unit {0}
IsOwnPartner site panel (Some place) = IsOwnZone site panel place
