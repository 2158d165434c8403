-- What is said of points whose places follow one another.
use Rattle.std.specs.Prelude.{◌+◌, ℕ, Bool, if◌then◌else◌, min}
use Rattle.site_types.specs.declared.answer.Answer.{Answer}
use Rattle.site_types.specs.declared.heard.Heard.{Heard}
use Rattle.site_types.specs.declared.heard.Heard.TheVariants.{Alarm, Quiet, Silent}
use Rattle.site_types.specs.Bits.{has_bit}
use Rattle.coincidence_rules.specs.declared.finding.Finding.{Finding}
use Rattle.answer_lanes.specs.declared.answer_group.AnswerGroup.{AnswerGroup}
use Rattle.answer_lanes.specs.declared.finding_group.FindingGroup.{FindingGroup}

-- what is heard of the point at a place of a group, where these masks tell which are in alarm and which are silent
abbrev pub heard_at : ℕ → ℕ → ℕ → Heard
heard_at alarms silents place = if has_bit alarms place then Alarm else if has_bit silents place then Silent else Quiet

-- the answer of the point that many places behind the first one of a group, or of the last place that has a number
abbrev pub answer_at : AnswerGroup → ℕ → Answer
answer_at group place = record {
  stamp = group.stamp;
  point = min (group.point + place) 65535;
  heard = heard_at group.alarms group.silents place;
}

-- a mask where it is told, else an empty one
abbrev pub mask_if : Bool → ℕ → ℕ
mask_if told mask = if told then mask else 0

-- the finding of the point that many places behind the first one of a group, or of the last place that has a number
abbrev pub finding_at : FindingGroup → ℕ → Finding
finding_at group place = record {
  stamp = group.stamp;
  point = min (group.point + place) 65535;
  counted = mask_if (has_bit group.telling place) group.counted;
  confirmed = mask_if (has_bit group.telling place) group.confirmed;
  manual = mask_if (has_bit group.telling place) group.manual;
  released = mask_if (has_bit group.telling place) group.released;
  missing = has_bit group.missing place;
}
