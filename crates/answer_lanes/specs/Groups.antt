-- Which answers of a group are so, and which finding can stand in one or go behind a run of them.
use Rattle.std.specs.Prelude.{◌≡◌, ◌⊎◌, ◌+◌, ◌<◌, ◌≢◌, ℕ, Bool, min, true}
use Rattle.site_types.specs.declared.heard.Heard.{Heard}
use Rattle.site_types.specs.declared.heard.Heard.TheVariants.{Quiet, Silent}
use Rattle.site_types.specs.Bits.{has_bit}
use Rattle.coincidence_rules.specs.declared.finding.Finding.{Finding}
use Rattle.answer_lanes.specs.declared.answer_group.AnswerGroup.{AnswerGroup}
use Rattle.answer_lanes.specs.declared.finding_group.FindingGroup.{FindingGroup}
use Rattle.answer_lanes.specs.declared.run.Run.{Run}
use Rattle.answer_lanes.specs.Points.{heard_at}

-- an answer is quiet and the first bit is set, or it is silent and the other one is
abbrev pub IsMatching : Heard → Bool → Bool → Type 0
IsMatching heard quiet silent = ((heard ≡ Quiet) × (quiet ≡ true)) ⊎ ((heard ≡ Silent) × (silent ≡ true))

-- of eight answers of a group, from the one at a place on, the bits are set of those that are quiet with their bit set
-- in a first byte or silent with it set in a second one, and of no others
pub record AreMatching (group : AnswerGroup) (from quiet silent bits : ℕ) : Type 0 where
  pub set : (k : ℕ) → k < 8 → has_bit bits k ≡ true
      → IsMatching (heard_at group.alarms group.silents (from + k)) (has_bit quiet k) (has_bit silent k)
  pub all : (k : ℕ) → k < 8
      → IsMatching (heard_at group.alarms group.silents (from + k)) (has_bit quiet k) (has_bit silent k)
      → has_bit bits k ≡ true

-- a finding tells of no zone
pub record TellsNone (finding : Finding) : Type 0 where
  pub counted : finding.counted ≡ 0
  pub confirmed : finding.confirmed ≡ 0
  pub manual : finding.manual ≡ 0
  pub released : finding.released ≡ 0

-- a finding tells of zones what those of a group do that tell of any
pub record TellsLike (finding : Finding) (group : FindingGroup) : Type 0 where
  pub counted : finding.counted ≡ group.counted
  pub confirmed : finding.confirmed ≡ group.confirmed
  pub manual : finding.manual ≡ group.manual
  pub released : finding.released ≡ group.released

-- a finding can stand at a place of a group: it has the stamp of the group, is of the point at that place, and tells
-- of zones nothing, or what those of the group do that tell of any
pub record CanHave (place : ℕ) (finding : Finding) (group : FindingGroup) : Type 0 where
  pub within : place < 8
  pub stamp : finding.stamp ≡ group.stamp
  pub point : finding.point ≡ min (group.point + place) 65535
  pub told : (group.telling ≡ 0) ⊎ (TellsNone finding ⊎ TellsLike finding group)

-- a run can't take a finding behind those that it holds: it holds some, and the finding can't stand at the place behind
-- the last
pub record CannotTake (finding : Finding) (run : Run FindingGroup) : Type 0 where
  pub some : run.count ≢ 0
  pub taken : CanHave (run.taken + run.count) finding run.first → ⊥
