-- What the parts that hold make of a finding or an operation, and what they show at a tick.
use Rattle.std.specs.Prelude.{◌≡◌, ◌⊎◌, ℕ, ◌-◌, Bool, true, false, not, List, Option, Some, None, slice_get}
use Rattle.std.specs.Prelude.{bit_or, ◌+◌, ◌<◌, ◌≤◌, ◌==◌, ◌&&◌, slice_index, slice_index_or}
use Rattle.std.specs.Prelude.{nat_lt, nat_le, if◌then◌else◌}
use Rattle.std.specs.Option.{is_some}
use Rattle.tick_units.specs.declared.tick.Tick.{Tick}
use Rattle.site_types.specs.declared.site.Site.{Site}
use Rattle.site_types.specs.declared.point.Point.{Point as PointPlan}
use Rattle.site_types.specs.declared.point_set.PointSet.{PointSet}
use Rattle.site_types.specs.declared.retained.Retained.{Retained}
use Rattle.site_types.specs.declared.item.Item.{Item}
use Rattle.site_types.specs.declared.item.Item.TheVariants.{Point, Zone, Output}
use Rattle.site_types.specs.declared.operation.Operation.{Operation}
use Rattle.site_types.specs.declared.operation.Operation.TheVariants.{Reset, Disable, Enable, Test}
use Rattle.site_types.specs.Bits.{has_bit, mask_of}
use Rattle.site_types.specs.Done.{is_cancel, kept_point, kept_zone}
use Rattle.coincidence_rules.specs.declared.finding.Finding.{Finding}
use Rattle.answer_lanes.specs.declared.finding_block.FindingBlock.{FindingBlock}
use Rattle.answer_lanes.specs.declared.finding_group.FindingGroup.{FindingGroup}
use Rattle.answer_lanes.specs.declared.run.Run.{Run}
use Rattle.answer_lanes.specs.declared.told.Told.{Told}
use Rattle.answer_lanes.specs.Blocks.{eight_found, none_told}
use Rattle.tick_units.specs.LastTicks.{last_at, last_if}
use Rattle.panel_conditions.specs.declared.sign.Sign.{Sign}
use Rattle.panel_conditions.specs.declared.sign.Sign.TheVariants.{Alarm, Manual, Released, First}
use Rattle.panel_conditions.specs.declared.signs.Signs.{Signs}
use Rattle.panel_conditions.specs.declared.zone_watch.ZoneWatch.{ZoneWatch}
use Rattle.panel_conditions.specs.declared.zones.Zones.{Zones}
use Rattle.panel_conditions.specs.declared.asked.Asked.{Asked}
use Rattle.panel_conditions.specs.declared.asked.Asked.TheVariants.{Disabled, ZoneDisabled}
use Rattle.panel_conditions.specs.declared.point_switch.PointSwitch.{PointSwitch}
use Rattle.panel_conditions.specs.declared.points.Points.{Points}
use Rattle.panel_conditions.specs.Told.{others_telling, own_telling}
use Rattle.panel_conditions.specs.PointSets.{address_in, put_at, put_all, set_without}

-- the later of two stamps, where the second one is of something that was told
abbrev pub stamp_if : Bool → Tick → Tick → Tick
stamp_if on stamp latest = if on && nat_lt latest.0 stamp.0 then stamp else latest

-- ---- zones

-- the operation moves the floor of the zone at a place of this panel
abbrev pub raises : ℕ → Operation → Bool
raises place Reset = true
raises place (Disable (Zone other)) = other == place
raises place (Test other) = other == place
raises place _ = false

-- there is a zone, and the operation passes the test of it
abbrev pub on_watched : (ℕ → Bool) → Option ℕ → Bool
on_watched test None = false
on_watched test (Some place) = test place

abbrev pub zone_done : Operation → Tick → ZoneWatch → ZoneWatch
zone_done operation at watch =
    record watch {
      floor = last_if (on_watched (λ place. raises place operation) watch.place) at watch.floor;
      cancelled = last_if (on_watched (λ place. is_cancel place operation) watch.place) at watch.cancelled;
    }

-- a zone takes note of what a finding tells by a bit
abbrev pub zone_told : ℕ → Finding → ZoneWatch → ZoneWatch
zone_told bit finding watch =
    record watch {
      confirmed = stamp_if (has_bit finding.confirmed bit) finding.stamp watch.confirmed;
      called = stamp_if (has_bit finding.manual bit) finding.stamp watch.called;
      released = stamp_if (has_bit finding.released bit) finding.stamp watch.released;
      told = stamp_if (has_bit finding.counted bit && not (has_bit finding.manual bit)) finding.stamp watch.told;
    }

-- a zone takes note of what a finding tells of it
abbrev pub zone_taken : Finding → ZoneWatch → ZoneWatch
zone_taken finding watch = zone_told watch.bit finding watch

abbrev pub first_shows : ℕ → ZoneWatch → Option ℕ → Bool
first_shows tick watch None = false
first_shows tick watch (Some within) =
    not (nat_lt (last_at tick watch.floor) watch.confirmed.0)
    && ((nat_lt (last_at tick watch.floor) watch.told.0 && nat_lt (last_at tick watch.cancelled) watch.told.0)
    && nat_le (tick - watch.told.0) within)

abbrev pub sign_shows : Sign → ℕ → ZoneWatch → Bool
sign_shows Alarm tick watch = nat_lt (last_at tick watch.floor) watch.confirmed.0
sign_shows Manual tick watch = nat_lt (last_at tick watch.floor) watch.called.0
sign_shows Released tick watch = nat_lt (last_at tick watch.floor) watch.released.0
sign_shows First tick watch = first_shows tick watch watch.within

abbrev pub zone_shows : Sign → ℕ → ZoneWatch → Bool
zone_shows sign tick watch = is_some watch.place && sign_shows sign tick watch

abbrev pub watch_shows : Sign → ℕ → Option ZoneWatch → Bool
watch_shows sign tick None = false
watch_shows sign tick (Some watch) = zone_shows sign tick watch

-- the zones of which a finding tells
abbrev pub told_by : Finding → ℕ
told_by finding = bit_or (bit_or (bit_or finding.counted finding.confirmed) finding.manual) finding.released

-- a finding tells of a zone, by its bit, that an answer of a detector counted, confirmed it and released it
pub record TellsPlainly (bit : ℕ) (finding : Finding) : Type 0 where
  pub counted : has_bit finding.counted bit ≡ true
  pub confirmed : has_bit finding.confirmed bit ≡ true
  pub released : has_bit finding.released bit ≡ true
  pub manual : has_bit finding.manual bit ≡ false

-- of each of these zones it is told that an answer of a detector counted, confirmed it and released it
abbrev pub plain_told : ℕ → Told
plain_told zones = record { counted = zones; confirmed = zones; manual = 0; released = zones }

-- of each zone that is told of no less and no more is told
pub record IsPlain (told : Told) : Type 0 where
  pub counted : told.counted ≡ told.confirmed
  pub released : told.released ≡ told.confirmed
  pub manual : told.manual ≡ 0

-- one of a block's eights tells of the zones of its group plainly, where it tells of any
abbrev pub TellsEightPlainly : FindingBlock → ℕ → Type 0
TellsEightPlainly block number =
    0 < own_telling (eight_found block number) → IsPlain (slice_index_or block.told number none_told)

-- all eights of a block do
abbrev pub ArePlain : FindingBlock → Type 0
ArePlain block =
    TellsEightPlainly block 0 × TellsEightPlainly block 1 × TellsEightPlainly block 2 × TellsEightPlainly block 3

-- the zones that one of a block's eights confirms: those of its group and the other ones, if any finding tells of them
abbrev pub eight_confirms : FindingBlock → ℕ → ℕ
eight_confirms block number =
    bit_or (if own_telling (eight_found block number) == 0 then 0
    else (slice_index_or block.told number none_told).confirmed)
    (if others_telling (eight_found block number) == 0 then 0 else slice_index block.other_zones number)

-- the zones that a block's eights confirm
abbrev pub block_confirms : FindingBlock → ℕ
block_confirms block =
    bit_or (bit_or (bit_or (eight_confirms block 0) (eight_confirms block 1)) (eight_confirms block 2))
    (eight_confirms block 3)

-- what findings to an asking tell of zones, as a finding of no point in particular
abbrev pub told_finding : Tick → Told → Finding
told_finding stamp told = record {
  stamp = stamp;
  point = 0;
  counted = told.counted;
  confirmed = told.confirmed;
  manual = told.manual;
  released = told.released;
  missing = false;
}

-- one of a run's findings tells of zones
pub record HasTelling (run : Run FindingGroup) : Type 0 where
  pub place : ℕ
  pub from : run.taken ≤ place
  pub below : place < run.taken + run.count
  pub tells : has_bit run.first.telling place ≡ true

-- a finding tells nothing but what is shown
pub record IsShown (finding : Finding) (signs : Signs) : Type 0 where
  pub alarm : bit_or (bit_or finding.counted finding.confirmed) signs.alarm ≡ signs.alarm
  pub manual : bit_or finding.manual signs.manual ≡ signs.manual
  pub released : bit_or finding.released signs.released ≡ signs.released

-- the zones of which a finding tells are to be looked at, where it tells anything that isn't shown
abbrev pub Marks : Finding → Zones → Zones → Type 0
Marks finding before zones =
    (zones.changed ≡ bit_or before.changed (told_by finding))
    ⊎ ((zones.changed ≡ before.changed) × IsShown finding before.signs)

-- the zone at one place takes note of what the finding tells by the bit of that number, each other one stays
abbrev pub zone_taken_at : ℕ → Finding → ℕ → ZoneWatch → ZoneWatch
zone_taken_at place finding other watch = if place == other then zone_told place finding watch else watch

-- the later of two ticks
abbrev pub later_tick : Tick → Tick → Tick
later_tick a b = if nat_lt a.0 b.0 then b else a

-- nothing is told of any zone
abbrev pub no_signs : Signs
no_signs = record { alarm = 0; manual = 0; released = 0; first = 0 }

-- the mask of one sign
abbrev pub sign_mask : Sign → Signs → ℕ
sign_mask Alarm signs = signs.alarm
sign_mask Manual signs = signs.manual
sign_mask Released signs = signs.released
sign_mask First signs = signs.first

-- the mask of the zones that show a sign at a tick
abbrev pub sign_at : Sign → ℕ → List ZoneWatch → ℕ
sign_at sign tick watches = mask_of 32 (λ k. watch_shows sign tick (slice_get watches k))

-- the mask of a sign drawn anew for the zones to look at, as it was for all others
abbrev pub drawn_mask : Sign → ℕ → List ZoneWatch → ℕ → ℕ → ℕ
drawn_mask sign tick watches look before =
    mask_of 32 (λ k. if has_bit look k then watch_shows sign tick (slice_get watches k) else has_bit before k)

-- what zones show at a tick
abbrev pub signs_at : ℕ → List ZoneWatch → Signs
signs_at tick watches =
    record {
      alarm = sign_at Alarm tick watches;
      manual = sign_at Manual tick watches;
      released =
          sign_at Released tick watches;
      first = sign_at First tick watches;
    }

-- ---- points

-- a set of points that may change, with these points in it from the opening on
abbrev pub points_from : PointSet → PointSwitch
points_from points = record { before = points; after = points; since = record { 0 = 0 } }

-- a set that changes, at a tick that isn't before its own
abbrev pub points_at : ℕ → PointSwitch → PointSet
points_at x switch = if nat_lt switch.since.0 x then switch.after else switch.before

-- what is set from now on is in force after this tick
abbrev pub begun : Tick → PointSwitch → PointSwitch
begun at switch = if nat_lt switch.since.0 at.0 then record {
  before = switch.after;
  after =
      switch.after;
  since = at;
} else switch

-- the set is changed in a tick
abbrev pub switch_points : (PointSet → PointSet) → Tick → PointSwitch → PointSwitch
switch_points change at switch = record (begun at switch) { after = change (begun at switch).after }

-- an item is disabled or enabled in a tick
abbrev pub item_set : Item → Bool → Tick → Points → Points
item_set (Point point) on at points =
    record points {
      off =
          switch_points (put_at (address_in (slice_get points.addresses.items point)) on) at points.off;
    }
item_set (Zone zone) on at points =
    record points {
      zone_off =
          switch_points (put_all (slice_get points.of_zones.items zone) on) at points.zone_off;
    }
item_set (Output output) on at points = points

-- an operation is done in a tick
abbrev pub points_done : Operation → Tick → Points → Points
points_done (Disable item) at points = item_set item true at points
points_done (Enable item) at points = item_set item false at points
points_done _ at points = points

-- the point of a finding is missing or not
abbrev pub points_taken : Finding → Points → Points
points_taken finding points =
    record points {
      missing =
          put_at (address_in (slice_get points.addresses.items finding.point)) finding.missing points.missing;
      changed = true;
    }

-- the missing points that aren't disabled, nor their zone
abbrev pub points_shown : ℕ → Points → PointSet
points_shown tick points =
    set_without (set_without points.missing (points_at tick points.off)) (points_at tick points.zone_off)

-- ---- points at the opening

-- what is asked of a point is so
abbrev pub is_so : Site → Retained → Asked → PointPlan → Bool
is_so site kept Disabled p = kept_point kept (Some p)
is_so site kept ZoneDisabled p = kept_zone kept (slice_get site.zones p.zone)

-- there is a point, and what is asked of it is so
abbrev pub is_asked : Site → Retained → Asked → Option PointPlan → Bool
is_asked site kept asked None = false
is_asked site kept asked (Some p) = is_so site kept asked p

-- there is a point, and it is of the zone at a place
abbrev pub is_of_zone : ℕ → Option PointPlan → Bool
is_of_zone zone None = false
is_of_zone zone (Some p) = p.zone == zone
