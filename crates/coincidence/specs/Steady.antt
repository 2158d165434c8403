-- Answers of whole eights and blocks that change nothing of what is kept, and what is told of them at once.
use Rattle.std.specs.Prelude.{◌≡◌, ◌+◌, ◌*◌, ◌<◌, ◌≤◌, ℕ, [], ◌∷◌, List, slice_index, true}
use Rattle.answer_lanes.specs.declared.answer_block.AnswerBlock.{AnswerBlock}
use Rattle.answer_lanes.specs.declared.answer_group.AnswerGroup.{AnswerGroup}
use Rattle.answer_lanes.specs.declared.finding_block.FindingBlock.{FindingBlock}
use Rattle.answer_lanes.specs.declared.finding_eight.FindingEight.{FindingEight}
use Rattle.answer_lanes.specs.declared.run.Run.{Run}
use Rattle.answer_lanes.specs.Blocks.{eight_finding_at, eight_found, eight_of}
use Rattle.answer_lanes.specs.Points.{answer_at}
use Rattle.site_types.specs.Bits.{has_bit}
use Rattle.coincidence_rules.specs.Counted.{is_silent}
use Rattle.coincidence.specs.declared.decide.Decide.{Decide}
use Rattle.coincidence.specs.Resting.{LeavesPoint, plain_of}

-- all that a block holds
abbrev pub all_of_block : {S : Type 0} → S → Run S
all_of_block block = record { first = block; taken = 0; count = 32 }

-- the points of each eight of a block have different numbers
abbrev pub HasNumberedPoints : AnswerBlock → Type 0
HasNumberedPoints block = (number : ℕ) → number < 4 → slice_index block.firsts number ≤ 65527

-- the bits of a word, eight for each eight of a block, tell which of its answers leave what is kept of their points as
-- it is
abbrev pub AreStillIn : Decide → AnswerBlock → ℕ → Type 0
AreStillIn decide block word = (number k : ℕ) → number < 4 → k < 8 → has_bit word (8 * number + k) ≡ true
    → LeavesPoint decide (answer_at (eight_of block number) k)

-- all answers of a block leave what is kept of their points as it is
abbrev pub AreLeftIn : Decide → AnswerBlock → Type 0
AreLeftIn decide block = (number k : ℕ) → number < 4 → k < 8 → LeavesPoint decide (answer_at (eight_of block number) k)

-- the bits of a byte for each eight of a block are set of those of its answers that are silent
abbrev pub AreSilentIn : AnswerBlock → List ℕ → Type 0
AreSilentIn block bytes =
    (number k : ℕ) → number < 4 → k < 8
    → has_bit (slice_index bytes number) k ≡ is_silent ((answer_at (eight_of block number) k).heard)

-- what is found of all answers of an eight is plain
abbrev pub IsPlainEight : AnswerGroup → FindingEight → Type 0
IsPlainEight answers found = (k : ℕ) → k < 8 → eight_finding_at found k ≡ plain_of (answer_at answers k)

-- what is found of all answers of a block is plain
abbrev pub IsPlainBlock : AnswerBlock → FindingBlock → Type 0
IsPlainBlock block found = (number : ℕ) → number < 4 → IsPlainEight (eight_of block number) (eight_found found number)

-- all answers of a block are quiet
pub record IsQuietBlock (block : AnswerBlock) : Type 0 where
  pub alarms : block.alarms ≡ 0 ∷ 0 ∷ 0 ∷ 0 ∷ []
  pub silents : block.silents ≡ 0 ∷ 0 ∷ 0 ∷ 0 ∷ []
