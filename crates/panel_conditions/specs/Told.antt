-- What the last findings of points told of them: for each place, whether it was told missing. It is kept as a set.
use Rattle.std.specs.Prelude.{◌≡◌, ◌≢◌, ◌⊎◌, ◌+◌, ◌<◌, ◌≤◌, ℕ, Bool, List, Some, bit_and, bit_xor, map, slice_get}
use Rattle.std.specs.Prelude.{slice_index}
use Rattle.std.specs.List.{range_with_len}
use Rattle.site_types.specs.Bits.{has_bit}
use Rattle.coincidence_rules.specs.declared.finding.Finding.{Finding}
use Rattle.answer_lanes.specs.declared.run.Run.{Run}
use Rattle.answer_lanes.specs.declared.finding_block.FindingBlock.{FindingBlock}
use Rattle.answer_lanes.specs.declared.finding_eight.FindingEight.{FindingEight}
use Rattle.answer_lanes.specs.declared.finding_group.FindingGroup.{FindingGroup}
use Rattle.answer_lanes.specs.declared.place_set.PlaceSet.{PlaceSet}
use Rattle.answer_lanes.specs.Blocks.{eight_found, plainly}
use Rattle.answer_lanes.specs.Places.{has_place}
use Rattle.answer_lanes.specs.Points.{finding_at}
use Rattle.panel_conditions.specs.Missing.{missing_found}

-- the first places, so many, as the list of which of them a set has
abbrev pub are_places : PlaceSet → ℕ → List Bool
are_places set count = map (has_place set) (range_with_len 0 count)

-- by the places of points, whether the last finding of each told it missing
abbrev pub TellMissing : List Finding → List Bool → Type 0
TellMissing taken told = (place : ℕ) (b : Bool) → slice_get told place ≡ Some b
    → b ≡ missing_found taken place

-- all that a block holds
abbrev pub block_run : FindingBlock → Run FindingBlock
block_run block = record { first = block; taken = 0; count = 32 }

-- all that one of a block's eights holds
abbrev pub eight_run : FindingBlock → ℕ → Run FindingEight
eight_run block number = record { first = eight_found block number; taken = 0; count = 8 }

-- eight findings of a group
abbrev pub group_run : FindingGroup → Run FindingGroup
group_run group = record { first = group; taken = 0; count = 8 }

-- which of an eight's findings tell of its other zones
abbrev pub others_telling : FindingEight → ℕ
others_telling eight = bit_and eight.group.telling eight.others

-- which of an eight's findings tell of the zones of its group
abbrev pub own_telling : FindingEight → ℕ
own_telling eight = bit_xor eight.group.telling (others_telling eight)

-- a group of whose findings these tell
abbrev pub with_telling : ℕ → FindingGroup → FindingGroup
with_telling telling group = record group { telling = telling }

-- an eight's findings, of which those tell that tell of the zones of its group
abbrev pub own_of : FindingEight → FindingGroup
own_of eight = with_telling (own_telling eight) eight.group

-- an eight's findings, of which those tell that tell of its other zones
abbrev pub others_of : FindingEight → FindingGroup
others_of eight = plainly eight.other_zones (with_telling (others_telling eight) eight.group)

-- the last finding of each point of a run told it missing, or not, as the run does
abbrev pub AreTold : List Bool → Run FindingGroup → Type 0
AreTold told run = (place : ℕ) → run.taken ≤ place → place < run.taken + run.count
    → slice_get told (finding_at run.first place).point ≡ Some (has_bit run.first.missing place)

-- the last finding of each point of one of a block's eights told it missing, or not, as the block does
abbrev pub AreToldInEight : List Bool → FindingBlock → ℕ → Type 0
AreToldInEight told block number = AreTold told (group_run (eight_found block number).group)

-- the last finding of each point of a block told it missing, or not, as the block does
abbrev pub AreToldInBlock : List Bool → FindingBlock → Type 0
AreToldInBlock told block = AreToldInEight told block 0 × AreToldInEight told block 1
    × AreToldInEight told block 2 × AreToldInEight told block 3

-- of so many places there are eight from each of four on
abbrev pub HaveEights : ℕ → List ℕ → Type 0
HaveEights count firsts = (number : ℕ) → number < 4 → slice_index firsts number + 8 ≤ count

-- one mark is set, where the point has one
abbrev pub MarksTold : ℕ → Bool → List Bool → List Bool → Type 0
MarksTold place missing old new' = (k : ℕ) (b : Bool) → slice_get new' k ≡ Some b
    → ((k ≡ place) × (missing ≡ b)) ⊎ ((k ≢ place) × (slice_get old k ≡ Some b))
