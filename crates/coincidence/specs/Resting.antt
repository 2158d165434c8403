-- Answers that change nothing of what is kept: quiet ones of points at rest, silent ones of points that stay missing.
use Rattle.std.specs.Prelude.{◌≡◌, ◌+◌, ◌<◌, ◌≤◌, ℕ, Some, false, min, slice_get, true}
use Rattle.site_types.specs.declared.answer.Answer.{Answer}
use Rattle.site_types.specs.Bits.{has_bit}
use Rattle.answer_lanes.specs.declared.answer_group.AnswerGroup.{AnswerGroup}
use Rattle.answer_lanes.specs.declared.finding_group.FindingGroup.{FindingGroup}
use Rattle.answer_lanes.specs.declared.run.Run.{Run}
use Rattle.answer_lanes.specs.Points.{answer_at, finding_at}
use Rattle.coincidence_rules.specs.Counted.{is_silent}
use Rattle.coincidence_rules.specs.declared.finding.Finding.{Finding}
use Rattle.coincidence.specs.declared.decide.Decide.{Decide}
use Rattle.coincidence.specs.declared.point_watch.PointWatch.{PointWatch}
use Rattle.coincidence.specs.Parts.{leaves_watch}

-- the answer leaves what is kept of its point as it is
abbrev pub LeavesPoint : Decide → Answer → Type 0
LeavesPoint decide answer =
    (watch : PointWatch) → slice_get decide.points answer.point ≡ Some watch → leaves_watch answer.heard watch ≡ true

-- the finding of such an answer: it tells of no zone, and the point is missing where the answer is silent
abbrev pub plain_of : Answer → Finding
plain_of answer = record {
  stamp = answer.stamp;
  point = answer.point;
  counted = 0;
  confirmed = 0;
  manual = 0;
  released = 0;
  missing = is_silent answer.heard;
}

-- the answers of a run are among the first eight of their group, and of points with different numbers
pub record IsWithinEight (run : Run AnswerGroup) : Type 0 where
  pub places : run.taken + run.count ≤ 8
  pub points : run.first.point ≤ 65527

-- the bits of a byte tell which of the first eight answers of a group leave what is kept of their points as it is
abbrev pub AreStill : Decide → AnswerGroup → ℕ → Type 0
AreStill decide answers bits = (k : ℕ) → k < 8 → has_bit bits k ≡ true → LeavesPoint decide (answer_at answers k)

-- the bits of a byte tell which answers of a run may change what is kept of their points
pub record TellsChanging (decide : Decide) (run : Run AnswerGroup) (bits : ℕ) : Type 0 where
  pub within : (k : ℕ) → has_bit bits k ≡ true → k < run.count
  pub left : (k : ℕ) → k < run.count → has_bit bits k ≡ false → LeavesPoint decide (answer_at run.first (run.taken + k))

-- the finding is of the answer at a place of a group
pub record IsFoundAt (place : ℕ) (answers : AnswerGroup) (finding : Finding) : Type 0 where
  pub stamp : finding.stamp ≡ answers.stamp
  pub point : finding.point ≡ min (answers.point + place) 65535

-- what is found of the answer at a place of a group is plain
abbrev pub IsPlainAt : ℕ → AnswerGroup → FindingGroup → Type 0
IsPlainAt place answers found = finding_at found place ≡ plain_of (answer_at answers place)
