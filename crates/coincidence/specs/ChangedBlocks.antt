-- Whole blocks of which some answers change what is kept, and what is found of them by the bits of two words: each
-- answer tells plainly of the zone of its point or of none, and its point is missing or not.
use Rattle.std.specs.Prelude.{◌≡◌, ◌/◌, ◌%◌, ◌<◌, ◌≤◌, ℕ, List, [], ◌∷◌, map, true}
use Rattle.std.specs.List.{range_with_len}
use Rattle.site_types.specs.declared.answer.Answer.{Answer}
use Rattle.site_types.specs.declared.retained.Retained.{Retained}
use Rattle.site_types.specs.declared.site.Site.{Site}
use Rattle.site_types.specs.Bits.{has_bit}
use Rattle.site_types.specs.Done.{Done}
use Rattle.answer_lanes.specs.declared.answer_block.AnswerBlock.{AnswerBlock}
use Rattle.answer_lanes.specs.declared.finding_block.FindingBlock.{FindingBlock}
use Rattle.answer_lanes.specs.declared.run.Run.{Run}
use Rattle.answer_lanes.specs.Blocks.{block_answer_at, block_finding_at}
use Rattle.answer_lanes.specs.Points.{mask_if}
use Rattle.answer_lanes.specs.Runs.{items_of}
use Rattle.coincidence_rules.specs.declared.finding.Finding.{Finding}
use Rattle.coincidence_rules.specs.Counted.{is_alarm, is_silent}
use Rattle.coincidence_rules.specs.Findings.{finding_of, findings_after}
use Rattle.coincidence.specs.declared.block_findings.BlockFindings.{BlockFindings}
use Rattle.coincidence.specs.declared.block_zones.BlockZones.{BlockZones}
use Rattle.coincidence.specs.declared.decide.Decide.{Decide}
use Rattle.coincidence.specs.declared.plain_finding.PlainFinding.{PlainFinding}
use Rattle.coincidence.specs.Changes.{TakesAnswers}
use Rattle.coincidence.specs.Premises.{MayTake}
use Rattle.coincidence.specs.Stands.{DecidesFor}
use Rattle.coincidence.specs.Steady.{HasNumberedPoints, all_of_block}
use Rattle.coincidence.specs.ZoneMasks.{IsMaskAt, TellsBlockZones, mask_in}

-- a run holds all of a block, and the points of each eight have different numbers
pub record IsWholeBlock (run : Run AnswerBlock) : Type 0 where
  pub whole : all_of_block run.first ≡ run
  pub numbers : HasNumberedPoints run.first

-- the first answers of a block
abbrev pub first_of_block : AnswerBlock → ℕ → List Answer
first_of_block block count = items_of block_answer_at (record { first = block; taken = 0; count = count })

-- the finding of an answer that tells plainly of these zones or of none, and whose point is missing or not
abbrev pub found_plainly : Answer → ℕ → PlainFinding → Finding
found_plainly answer zones found = record {
  stamp = answer.stamp;
  point = answer.point;
  counted = mask_if found.telling zones;
  confirmed = mask_if found.telling zones;
  manual = 0;
  released = mask_if found.telling zones;
  missing = found.missing;
}

-- an answer that comes after those taken tells plainly of the zone of its point or of none, and the point is missing or
-- not
abbrev pub FindsPlainly : Decide → Answer → PlainFinding → Type 0
FindsPlainly old answer found =
    (site : Site) (kept : Retained) (panel : ℕ) (done : List Done) (taken : List Answer)
    → DecidesFor site kept panel done taken old → MayTake site panel done taken (answer ∷ [])
    → (zones : ℕ) → IsMaskAt site.points site.zones answer.point zones
    → found_plainly answer zones found ≡ finding_of site kept panel done taken answer

-- an answer is taken after those before it, and this is found of it
pub record TakesPlainly (old : Decide) (answer : Answer) (told : PlainFinding) (decide : Decide) : Type 0 where
  pub taken : TakesAnswers old (answer ∷ []) decide
  pub found : FindsPlainly old answer told

-- what is found of an answer by what is heard alone: an alarm tells of its zone, and the point of a silent one is
-- missing
abbrev pub heard_plainly : Answer → PlainFinding
heard_plainly answer = record { telling = is_alarm answer.heard; missing = is_silent answer.heard }

-- an answer leaves all that is kept as it is, and no more is found of it than what is heard
abbrev pub PassesPlainly : Decide → Answer → Type 0
PassesPlainly decide answer = TakesPlainly decide answer (heard_plainly answer) decide

-- the answers of a block of which the bits of a word tell leave all that is kept as it is
abbrev pub ArePassedIn : Decide → AnswerBlock → ℕ → Type 0
ArePassedIn decide block word =
    (place : ℕ) → place < 32 → has_bit word place ≡ true → PassesPlainly decide (block_answer_at block place)

-- the answers of a block from a place on, before another place, leave all that is kept as it is
pub record PassesTo (decide : Decide) (block : AnswerBlock) (place next : ℕ) : Type 0 where
  pub least : place ≤ next
  pub most : next ≤ 32
  pub passed : (k : ℕ) → place ≤ k → k < next → PassesPlainly decide (block_answer_at block k)

-- what is found of the answer at a place of a block
abbrev pub found_by_bits : BlockFindings → ℕ → PlainFinding
found_by_bits found place = record { telling = has_bit found.telling place; missing = has_bit found.missing place }

-- its finding, where it is known in which zones the points of the block stand
abbrev pub finding_by_bits : AnswerBlock → BlockZones → BlockFindings → ℕ → Finding
finding_by_bits block zones found place =
    found_plainly (block_answer_at block place) (mask_in zones (place / 8) (place % 8)) (found_by_bits found place)

-- no more is found of the answers of a block from a place on than what is heard
abbrev pub AreHeardFrom : AnswerBlock → ℕ → BlockFindings → Type 0
AreHeardFrom block place found =
    (k : ℕ) → place ≤ k → k < 32 → found_by_bits found k ≡ heard_plainly (block_answer_at block k)

-- the first answers of a block are taken after those before them, and this is found of each
pub record TakesFirst (old : Decide) (block : AnswerBlock) (found : BlockFindings) (decide : Decide) : Type 0 where
  pub few : found.count ≤ 32
  pub taken : TakesAnswers old (first_of_block block found.count) decide
  pub each : (site : Site) (kept : Retained) (panel : ℕ) (done : List Done) (taken : List Answer)
      → DecidesFor site kept panel done taken old
      → MayTake site panel done taken (first_of_block block found.count)
      → (zones : BlockZones) → TellsBlockZones site.points site.zones zones → zones.firsts ≡ block.firsts
      → findings_after site kept panel done taken (first_of_block block found.count)
      ≡ map (finding_by_bits block zones found) (range_with_len 0 found.count)

-- the findings of all answers of a block are those of which so much is found
abbrev pub TellPlainly : AnswerBlock → BlockZones → BlockFindings → FindingBlock → Type 0
TellPlainly block zones found told =
    (place : ℕ) → place < 32 → block_finding_at told place ≡ finding_by_bits block zones found place
