-- What the parts that decide make of an answer or an operation.
use Rattle.std.specs.Prelude.{◌≡◌, ℕ, ◌+◌, Bool, false, Option, Some, None, ◌==◌, ◌&&◌, nat_lt, if◌then◌else◌}
use Rattle.std.specs.Option.{is_none}
use Rattle.tick_units.specs.declared.tick.Tick.{Tick}
use Rattle.tick_units.specs.declared.switch.Switch.{Switch}
use Rattle.site_types.specs.declared.heard.Heard.{Heard}
use Rattle.site_types.specs.declared.heard.Heard.TheVariants.{Quiet, Alarm, Silent}
use Rattle.coincidence_rules.specs.Kept.{run_then}
use Rattle.site_types.specs.declared.point.Point.{Point as PointPlan}
use Rattle.site_types.specs.declared.zone.Zone.{Zone as ZonePlan}
use Rattle.site_types.specs.declared.retained.Retained.{Retained}
use Rattle.site_types.specs.Done.{kept_point, kept_zone, kept_test}
use Rattle.site_types.specs.Profile.{missing_askings}
use Rattle.tick_units.specs.LastTicks.{last_if, never_done}
use Rattle.coincidence.specs.declared.point_stamp.PointStamp.{PointStamp}
use Rattle.coincidence.specs.declared.recent.Recent.{Recent}
use Rattle.coincidence.specs.declared.point_watch.PointWatch.{PointWatch}
use Rattle.coincidence.specs.declared.zone_watch.ZoneWatch.{ZoneWatch}

-- a switch at a tick that isn't before its own
abbrev pub switch_at : ℕ → Switch → Bool
switch_at x switch = if nat_lt switch.since.0 x then switch.now else switch.was

abbrev pub switch_after : Bool → Tick → Switch → Switch
switch_after value at switch = record { was = switch.now; now = value; since = at }

abbrev pub stamp_of : Option PointStamp → Option Tick
stamp_of None = None
stamp_of (Some seen) = Some seen.stamp

abbrev pub besides_by : ℕ → Option PointStamp → Option PointStamp → Option Tick
besides_by point None other = stamp_of other
besides_by point (Some seen) other = if seen.point == point then stamp_of other else Some seen.stamp

-- the latest stamp of another point than this one
abbrev pub besides : ℕ → Recent → Option Tick
besides point recent = besides_by point recent.latest recent.other

abbrev pub other_after : ℕ → Option PointStamp → Option PointStamp → Option PointStamp
other_after point None other = other
other_after point (Some seen) other = if seen.point == point then other else Some seen

-- the latest two after one more answer of a point
abbrev pub noted : ℕ → Tick → Recent → Recent
noted point stamp recent = record {
  latest = Some (record { point = point; stamp = stamp });
  other =
      other_after point recent.latest recent.other;
}

-- how many of the last answers were silent, to those that make a point missing
abbrev pub silent_then : Heard → ℕ → ℕ
silent_then Silent n = if nat_lt n missing_askings then n + 1 else n
silent_then _ n = 0

-- a point after an answer, with whether it counts and the floor before it
abbrev pub point_noted : Heard → Bool → Tick → Tick → PointWatch → PointWatch
point_noted heard counted floor stamp watch =
    record watch { silent = silent_then heard watch.silent; run = run_then counted floor.0 stamp watch.run }

-- an answer leaves what is kept of its point as it is, whenever it comes
abbrev pub StaysNoted : Heard → Bool → Tick → PointWatch → Type 0
StaysNoted heard counted floor watch = (stamp : Tick) → point_noted heard counted floor stamp watch ≡ watch

-- a point whose last answer was heard and didn't count
abbrev pub is_at_rest : PointWatch → Bool
is_at_rest watch = (watch.silent == 0) && is_none watch.run

-- a point whose last answers were silent, as many as make it missing
abbrev pub stays_missing : PointWatch → Bool
stays_missing watch = (watch.silent == missing_askings) && is_none watch.run

-- an answer that is heard so leaves what is kept of its point as it is
abbrev pub leaves_watch : Heard → PointWatch → Bool
leaves_watch Quiet watch = is_at_rest watch
leaves_watch Silent watch = stays_missing watch
leaves_watch Alarm watch = false

-- a zone after it was disabled or enabled at a tick; a disabling moves its floor
abbrev pub zone_switched : Bool → Tick → ZoneWatch → ZoneWatch
zone_switched off at watch =
    record watch { off = switch_after off at watch.off; moved = last_if off at watch.moved }

-- a zone after its test began or ended at a tick; a test moves its floor
abbrev pub zone_tested : Bool → Tick → ZoneWatch → ZoneWatch
zone_tested on at watch =
    record watch { test = switch_after on at watch.test; moved = last_if on at watch.moved }

-- a zone after an answer of one of its points, which may make a pair or not
abbrev pub zone_noted : Bool → ℕ → Tick → ZoneWatch → ZoneWatch
zone_noted pairs point stamp watch =
    if pairs then record watch { recent = noted point stamp watch.recent } else watch

-- a switch, a point and a zone as they are kept at the start
abbrev pub switch_begun : Bool → Switch
switch_begun value = record { was = value; now = value; since = record { 0 = 0 } }

abbrev pub point_begun : PointPlan → Bool → PointWatch
point_begun point off = record {
  zone = point.zone;
  manual = point.manual;
  off = switch_begun off;
  silent =
      0;
  run = None;
}

abbrev pub zone_begun : ZonePlan → Bool → Bool → ZoneWatch
zone_begun zone off test =
    record {
      number = zone.number;
      rule = zone.rule;
      partner = zone.partner;
      off = switch_begun off;
      test = switch_begun test;
      moved = never_done;
      cancelled = never_done;
      recent = record { latest = None; other = None };
    }

-- a point and a zone as they are kept at the start, with what is retained of them
abbrev pub point_from : Retained → PointPlan → PointWatch
point_from kept point = point_begun point (kept_point kept (Some point))

abbrev pub zone_from : Retained → ZonePlan → ZoneWatch
zone_from kept zone = zone_begun zone (kept_zone kept (Some zone)) (kept_test kept (Some zone))
