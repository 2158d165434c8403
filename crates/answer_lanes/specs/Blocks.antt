-- Blocks of four eights of points, asked in one tick.
use Rattle.std.specs.Prelude.{◌≡◌, ◌≤◌, ◌/◌, ◌%◌, [], ◌∷◌, ℕ, All, List, if◌then◌else◌, slice_index, slice_index_or}
use Rattle.tick_units.specs.declared.tick.Tick.{Tick}
use Rattle.site_types.specs.Bits.{has_bit}
use Rattle.site_types.specs.declared.answer.Answer.{Answer}
use Rattle.coincidence_rules.specs.declared.finding.Finding.{Finding}
use Rattle.answer_lanes.specs.declared.answer_block.AnswerBlock.{AnswerBlock}
use Rattle.answer_lanes.specs.declared.answer_group.AnswerGroup.{AnswerGroup}
use Rattle.answer_lanes.specs.declared.finding_block.FindingBlock.{FindingBlock}
use Rattle.answer_lanes.specs.declared.finding_eight.FindingEight.{FindingEight}
use Rattle.answer_lanes.specs.declared.finding_group.FindingGroup.{FindingGroup}
use Rattle.answer_lanes.specs.declared.told.Told.{Told}
use Rattle.answer_lanes.specs.Points.{answer_at, finding_at}

-- one of the eights of a block of answers, counted from 0
abbrev pub eight_of : AnswerBlock → ℕ → AnswerGroup
eight_of block number = record {
  stamp = block.stamp;
  point = slice_index block.firsts number;
  alarms = slice_index block.alarms number;
  silents = slice_index block.silents number;
}

-- a block has nothing in the eights behind the first one
abbrev pub HasFirstAlone : AnswerBlock → Type 0
HasFirstAlone block =
    (number : ℕ) → 1 ≤ number
    → eight_of block number ≡ record { stamp = block.stamp; point = 0; alarms = 0; silents = 0 }

-- the answer at a place of a block, eight for each eight
abbrev pub block_answer_at : AnswerBlock → ℕ → Answer
block_answer_at block place = answer_at (eight_of block (place / 8)) (place % 8)

-- nothing is told of any zone
abbrev pub none_told : Told
none_told = record { counted = 0; confirmed = 0; manual = 0; released = 0 }

-- what the findings of a group tell of zones that tell of any
abbrev pub group_tells : FindingGroup → Told
group_tells group = record {
  counted = group.counted;
  confirmed = group.confirmed;
  manual = group.manual;
  released = group.released;
}

-- the findings of a group, where those that tell do so plainly of these zones: they count, confirm and release
abbrev pub plainly : ℕ → FindingGroup → FindingGroup
plainly zones group = record {
  stamp = group.stamp;
  point = group.point;
  missing = group.missing;
  telling = group.telling;
  counted = zones;
  confirmed = zones;
  manual = 0;
  released = zones;
}

-- the finding at a place of an eight: that of its group, or one that tells plainly of the other zones
abbrev pub eight_finding_at : FindingEight → ℕ → Finding
eight_finding_at eight place =
    finding_at (if has_bit eight.others place then plainly eight.other_zones eight.group else eight.group) place

-- the findings of a group as an eight: none tells of other zones
abbrev pub eight_of_group : FindingGroup → FindingEight
eight_of_group group = record { group = group; others = 0; other_zones = 0 }

-- the points of eights were all asked in the tick of the first one
abbrev pub AreOfStamp : List FindingEight → Type 0
AreOfStamp [] = Unit {0}
AreOfStamp (eight ∷ eights) = All (λ other. other.group.stamp ≡ eight.group.stamp) eights

-- one of the eights of a block of findings, counted from 0
abbrev pub eight_found : FindingBlock → ℕ → FindingEight
eight_found block number =
    let told = slice_index_or block.told number none_told in
    record {
      group = record {
        stamp = block.stamp;
        point = slice_index block.firsts number;
        missing = slice_index block.missing number;
        telling = slice_index block.telling number;
        counted = told.counted;
        confirmed = told.confirmed;
        manual = told.manual;
        released = told.released;
      };
      others = slice_index block.others number;
      other_zones = slice_index block.other_zones number;
    }

-- a group of which nothing was found
abbrev pub nothing_found : Tick → FindingGroup
nothing_found stamp = record {
  stamp = stamp;
  point = 0;
  missing = 0;
  telling = 0;
  counted = 0;
  confirmed = 0;
  manual = 0;
  released = 0;
}

-- a block has no findings in the eights behind the first one
abbrev pub HasFirstFound : FindingBlock → Type 0
HasFirstFound block = (number : ℕ) → 1 ≤ number → eight_found block number ≡ eight_of_group (nothing_found block.stamp)

-- the finding at a place of a block, eight for each eight
abbrev pub block_finding_at : FindingBlock → ℕ → Finding
block_finding_at block place = eight_finding_at (eight_found block (place / 8)) (place % 8)
