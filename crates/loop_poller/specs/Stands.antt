-- What a poller keeps of its site and of what it was told.
use Rattle.std.specs.Prelude.{◌≡◌, ℕ, ◌+◌, ◌-◌, ◌/◌, ◌<◌, ◌≤◌, false, List, length, Option, Some, None}
use Rattle.std.specs.Prelude.{slice_get, slice_index_or}
use Rattle.site_types.specs.declared.loop_plan.LoopPlan.{LoopPlan}
use Rattle.site_types.specs.declared.point_state.PointState.{PointState}
use Rattle.site_types.specs.declared.point_state.PointState.TheVariants.{Quiet}
use Rattle.site_types.specs.declared.site.Site.{Site}
use Rattle.site_types.specs.Valid.{IsValid}
use Rattle.isolators.specs.Reach.{Cable}
use Rattle.loop_poller.specs.declared.group.Group.{Group}
use Rattle.loop_poller.specs.declared.polled_line.PolledLine.{PolledLine}
use Rattle.loop_poller.specs.declared.poller.Poller.{Poller}
use Rattle.site_types.specs.Things.{loop_of}
use Rattle.loop_poller.specs.Asked.{status_on}
use Rattle.loop_poller.specs.Blocks.{AreBlocks}
use Rattle.loop_poller.specs.Cables.{CableStands}
use Rattle.loop_poller.specs.Groups.{AreGroups}
use Rattle.loop_poller.specs.Points.{ArePoints}
use Rattle.loop_poller.specs.Calls.{Call, told_broken, told_cable, told_point, told_shorted}

-- a loop of the panel
pub record LineStands (site : Site) (panel line : ℕ) (cable : Cable) (polled : PolledLine) : Type 0 where
  pub points : ArePoints site panel line polled.points.items
  pub groups : AreGroups polled.points.items polled.groups.items
  pub cable_stands : CableStands (loop_of site panel line) cable polled.cable

-- nothing is wrong with the cable of a loop
pub record IsSoundLine (polled : PolledLine) : Type 0 where
  pub whole : (site : Site) (panel line : ℕ) (cable : Cable) → LineStands site panel line cable polled
      → (status_on (loop_of site panel line) cable).broken ≡ false
  pub unshorted : (site : Site) (panel line : ℕ) (cable : Cable) → LineStands site panel line cable polled
      → (status_on (loop_of site panel line) cable).shorted ≡ false

-- a group of a loop begins at this address, and nothing is wrong with the cable
pub record IsSoundGroup (polled : PolledLine) (first : ℕ) (group : Group) : Type 0 where
  pub is : slice_get polled.groups.items ((first - 1) / 8) ≡ Some (Some group)
  pub sound : IsSoundLine polled

-- the states of the site's points
pub record AreStates (site : Site) (points : ℕ → PointState) (states : List PointState) : Type 0 where
  pub size : length states ≡ length site.points
  pub each : (point : ℕ) → point < length site.points → slice_index_or states point Quiet ≡ points point

-- a poller asks the points of a panel of a site, by what it was told, the newest first
pub record AsksFor (site : Site) (panel : ℕ) (calls : List Call) (poller : Poller) : Type 0 where
  pub valid : IsValid site
  pub format : poller.profile.format ≡ site.format
  pub lines : (place : ℕ) (line : PolledLine) → slice_get poller.lines place ≡ Some line
      → LineStands site panel (place + 1) (told_cable calls (place + 1)) line
  pub blocks : AreBlocks poller.lines poller.blocks.items
  pub states : AreStates site (told_point calls) poller.states

-- the masks of a poller have the loops whose cable has a fault, by what it was told
pub record KnowsFaults (site : Site) (panel : ℕ) (calls : List Call) (poller : Poller) : Type 0 where
  pub broken : poller.broken ≡ told_broken site panel calls
  pub shorted : poller.shorted ≡ told_shorted site panel calls

-- a poller stands for a panel of a site, and for what it was told, the newest first
pub record StandsFor (site : Site) (panel : ℕ) (calls : List Call) (poller : Poller) : Type 0 where
  pub asks : AsksFor site panel calls poller
  pub faults : KnowsFaults site panel calls poller

-- a poller asks the points of some panel of a site, whatever its masks have
pub record StandsForSome (poller : Poller) : Type 0 where
  pub site : Site
  pub panel : ℕ
  pub calls : List Call
  pub asks : AsksFor site panel calls poller

-- a poller keeps these groups of four loops under a number, and no loop has a fault
pub record IsSoundBlock (poller : Poller) (number : ℕ) (groups : List Group) : Type 0 where
  pub is : slice_get poller.blocks.items number ≡ Some (Some groups)
  pub whole : poller.broken ≡ 0
  pub unshorted : poller.shorted ≡ 0

-- a poller has a state for this point
abbrev pub HasPoint : Poller → ℕ → Type 0
HasPoint poller point = point < length poller.states

-- an address is one of its loop
abbrev pub IsOnLoop : Option LoopPlan → ℕ → Type 0
IsOnLoop None address = Unit {0}
IsOnLoop (Some plan) address = address ≤ plan.last
