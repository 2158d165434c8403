-- What the operations done before a tick say of a zone whose alarms that count confirm and release it by themselves.
use Rattle.std.specs.Prelude.{true, ◌≡◌, ◌<◌, ℕ, None, Option, Some, max, slice_get, slice_index_or, ◌||◌}
use Rattle.tick_units.specs.declared.last_done.LastDone.{LastDone}
use Rattle.tick_units.specs.LastTicks.{last_at}
use Rattle.site_types.specs.declared.answer.Answer.{Answer}
use Rattle.site_types.specs.declared.rule.Rule.TheVariants.{Plain}
use Rattle.coincidence.specs.declared.decide.Decide.{Decide}
use Rattle.coincidence.specs.declared.judgement.Judgement.{Judgement}
use Rattle.coincidence.specs.declared.plain_zone.PlainZone.{PlainZone}
use Rattle.coincidence.specs.declared.point_watch.PointWatch.{PointWatch}
use Rattle.coincidence.specs.declared.zone_watch.ZoneWatch.{ZoneWatch}
use Rattle.coincidence.specs.Parts.{StaysNoted, switch_at}

-- all operations on a zone that may block its alarms or move its floor lie before a tick
pub record IsSettledAt (x : ℕ) (reset : LastDone) (watch : ZoneWatch) : Type 0 where
  pub last_reset : reset.tick.0 < x
  pub moved : watch.moved.tick.0 < x
  pub off : watch.off.since.0 < x
  pub test : watch.test.since.0 < x

-- what is said of a plain zone is what the operations done before a tick say of it, by what is kept of the zone and by
-- the last reset of its panel
pub record IsSaidAt (x : ℕ) (reset : LastDone) (zone : PlainZone) (watch : ZoneWatch) : Type 0 where
  pub rule : watch.rule ≡ Plain
  pub partner : watch.partner ≡ None
  pub number : watch.number ≡ zone.number
  pub blocked : zone.blocked ≡ (switch_at x watch.off || switch_at x watch.test)
  pub floor : zone.floor.0 ≡ max (last_at x reset) (last_at x watch.moved)
  pub settled : zone.settled ≡ true → IsSettledAt x reset watch

-- what is said of a plain zone holds at a tick, by what is kept
abbrev pub IsKnown : ℕ → Decide → PlainZone → Type 0
IsKnown x decide zone =
    (watch : ZoneWatch) → slice_get decide.zones.items zone.zone ≡ Some watch → IsSaidAt x decide.reset zone watch

-- what is said of a zone, if anything is said, holds by what is kept
abbrev pub KnowsZone : ℕ → Decide → Option PlainZone → Type 0
KnowsZone x decide None = Unit {0}
KnowsZone x decide (Some zone) = IsKnown x decide zone

-- what is said of a plain zone and holds at a tick by what was kept still holds by what is kept now
abbrev pub KeepsKnown : Decide → Decide → Type 0
KeepsKnown old decide = (x : ℕ) (zone : PlainZone) → IsKnown x old zone → IsKnown x decide zone

-- what is said of a zone holds by what is kept, at an answer's tick, and the zone is that of the answer's point
pub record IsOfPoint (answer : Answer) (decide : Decide) (zone : PlainZone) : Type 0 where
  pub known : IsKnown answer.stamp.0 decide zone
  pub own : (watch : PointWatch) → watch ≡ slice_index_or decide.points answer.point watch → zone.zone ≡ watch.zone

-- by what a judgement says of an answer, whether it counts and which floor came last before it, the answer leaves what
-- is kept of its point as it is
pub record RunGoesOn (answer : Answer) (judgement : Judgement) (decide : Decide) : Type 0 where
  pub watch : PointWatch
  pub read : watch ≡ slice_index_or decide.points answer.point watch
  pub stays : StaysNoted answer.heard judgement.counted judgement.floor watch
