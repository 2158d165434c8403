-- Alarms that go on in a plain zone: each of them counts, and changes nothing of what is kept of its point.
use Rattle.std.specs.Prelude.{◌≡◌, [], ◌∷◌, ◌+◌, ◌*◌, ◌<◌, ◌≤◌, ℕ, List, Some, false, slice_get}
use Rattle.std.specs.Prelude.{slice_index_or, true}
use Rattle.site_types.specs.declared.heard.Heard.TheVariants.{Alarm}
use Rattle.site_types.specs.declared.retained.Retained.{Retained}
use Rattle.site_types.specs.declared.site.Site.{Site}
use Rattle.site_types.specs.Done.{Done}
use Rattle.answer_lanes.specs.Places.{has_place}
use Rattle.site_types.specs.declared.answer.Answer.{Answer}
use Rattle.site_types.specs.Bits.{has_bit}
use Rattle.answer_lanes.specs.declared.answer_block.AnswerBlock.{AnswerBlock}
use Rattle.answer_lanes.specs.declared.answer_group.AnswerGroup.{AnswerGroup}
use Rattle.answer_lanes.specs.declared.run.Run.{Run}
use Rattle.answer_lanes.specs.declared.finding_block.FindingBlock.{FindingBlock}
use Rattle.answer_lanes.specs.Blocks.{eight_finding_at, eight_found, eight_of}
use Rattle.answer_lanes.specs.Points.{answer_at, mask_if}
use Rattle.coincidence_rules.specs.Counted.{is_alarm, is_silent}
use Rattle.coincidence_rules.specs.declared.finding.Finding.{Finding}
use Rattle.coincidence.specs.declared.block_zones.BlockZones.{BlockZones}
use Rattle.coincidence.specs.declared.decide.Decide.{Decide}
use Rattle.coincidence.specs.declared.point_watch.PointWatch.{PointWatch}
use Rattle.coincidence.specs.declared.zone_part.ZonePart.{ZonePart}
use Rattle.coincidence.specs.declared.zone_watch.ZoneWatch.{ZoneWatch}
use Rattle.coincidence.specs.Changes.{FindsNext, TakesAnswers}
use Rattle.coincidence.specs.Places.{GoesOnFrom}
use Rattle.coincidence.specs.Stands.{DecidesFor}
use Rattle.coincidence.specs.ZoneMasks.{mask_in}

-- an answer is an alarm of one of the points whose alarms go on
pub record IsMarkedAlarm (decide : Decide) (answer : Answer) : Type 0 where
  pub alarm : answer.heard ≡ Alarm
  pub has : has_place decide.going_on answer.point ≡ true

-- all answers of a run of which the bits of a byte tell are alarms of points whose alarms go on
abbrev pub AreMarkedAlarms : Decide → Run AnswerGroup → ℕ → Type 0
AreMarkedAlarms decide run bits =
    (k : ℕ) → k < run.count → has_bit bits k ≡ true → IsMarkedAlarm decide (answer_at run.first (run.taken + k))

-- the bits of a byte tell of answers of a run, all of them alarms of points whose alarms go on, and the tick of the run
-- isn't before the latest one in which a point was marked
pub record AreGoingOn (decide : Decide) (run : Run AnswerGroup) (bits : ℕ) : Type 0 where
  pub within : (k : ℕ) → has_bit bits k ≡ true → k < run.count
  pub marked : AreMarkedAlarms decide run bits
  pub since : decide.since.0 ≤ run.first.stamp.0

-- all answers of a block of which the bits of a word tell, eight for each eight, are alarms of points whose alarms go
-- on, and the tick of the block isn't before the latest one in which a point was marked
pub record AreGoingOnIn (decide : Decide) (block : AnswerBlock) (word : ℕ) : Type 0 where
  pub marked : (number k : ℕ) → number < 4 → k < 8 → has_bit word (8 * number + k) ≡ true
      → IsMarkedAlarm decide (answer_at (eight_of block number) k)
  pub since : decide.since.0 ≤ block.stamp.0

-- an answer is of a point in a zone
pub record IsInZone (decide : Decide) (answer : Answer) (zone : ℕ) : Type 0 where
  pub watch : PointWatch
  pub read : watch ≡ slice_index_or decide.points answer.point watch
  pub own : zone ≡ watch.zone

-- of the bits of a byte some are the last ones
pub record AreLastOf (bits last : ℕ) : Type 0 where
  pub among : (k : ℕ) → has_bit last k ≡ true → has_bit bits k ≡ true
  pub before_them : (k j : ℕ) → has_bit bits k ≡ true → has_bit last k ≡ false → has_bit last j ≡ true → k < j
  pub most : last ≤ bits

-- of the answers of a run of which the bits of a byte tell, those before the last ones are of points in a zone
pub record IsFrontInZone (decide : Decide) (run : Run AnswerGroup) (zone bits last : ℕ) : Type 0 where
  pub in_zone : (k : ℕ) → has_bit bits k ≡ true → has_bit last k ≡ false
      → IsInZone decide (answer_at run.first (run.taken + k)) zone
  pub tail : AreLastOf bits last

-- from an answer's tick on the alarms of its point go on
abbrev pub IsToBeMarked : Decide → Answer → Type 0
IsToBeMarked decide answer = (point : PointWatch) (zone : ZoneWatch) → slice_get decide.points answer.point ≡ Some point
    → slice_get decide.zones.items point.zone ≡ Some zone → GoesOnFrom answer.stamp.0 decide.reset point zone

-- no more than the points whose alarms go on is kept anew
pub record MarksGoingOn (old decide : Decide) : Type 0 where
  pub points : decide.points ≡ old.points
  pub zones : decide.zones.items ≡ old.zones.items
  pub reset : decide.reset ≡ old.reset
  pub stands : (site : Site) (kept : Retained) (panel : ℕ) (done : List Done) (taken : List Answer)
      → DecidesFor site kept panel done taken old → DecidesFor site kept panel done taken decide

-- the finding of an answer that confirms and releases these zones where it is an alarm
abbrev pub telling_of : ℕ → Answer → Finding
telling_of zones answer = record {
  stamp = answer.stamp;
  point = answer.point;
  counted = mask_if (is_alarm answer.heard) zones;
  confirmed = mask_if (is_alarm answer.heard) zones;
  manual = 0;
  released = mask_if (is_alarm answer.heard) zones;
  missing = is_silent answer.heard;
}

-- each answer of a block is found to confirm and release the zone of its point where it is an alarm
abbrev pub TellEach : AnswerBlock → BlockZones → FindingBlock → Type 0
TellEach answers zones found =
    (number k : ℕ) → number < 4 → k < 8
    → eight_finding_at (eight_found found number) k
    ≡ telling_of (mask_in zones number k) (answer_at (eight_of answers number) k)

-- an alarm leaves all that is kept as it is, and confirms and releases these zones
pub record ConfirmsAgain (decide : Decide) (answer : Answer) (zones : ℕ) : Type 0 where
  pub taken : TakesAnswers decide (answer ∷ []) decide
  pub found : FindsNext decide answer (telling_of zones answer)

-- of the answers of a run of which the bits of a byte tell there are some before the last ones; these leave all that is
-- kept as it is, and where they are alarms confirm and release the zones of a part
pub record ConfirmsPart (decide : Decide) (run : Run AnswerGroup) (bits : ℕ) (part : ZonePart) : Type 0 where
  pub again : (k : ℕ) → has_bit bits k ≡ true → has_bit part.behind k ≡ false
      → ConfirmsAgain decide (answer_at run.first (run.taken + k)) part.zones
  pub tail : AreLastOf bits part.behind
  pub fewer : part.behind < bits
