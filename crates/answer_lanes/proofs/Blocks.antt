-- The items of a block are those of its eights.
use Rattle.std.proofs.Common.{◌≡◌, ℕ, zero, suc, ◌+◌, ◌≤◌, ◌/◌, ◌%◌, [], ◌∷◌, map, refl, ◌∙◌, ap, arith, false, true, if◌then◌else◌}
use Rattle.std.specs.List.{range_with_len}
use Rattle.answer_lanes.specs.declared.answer_block.AnswerBlock.{AnswerBlock}
use Rattle.answer_lanes.specs.declared.finding_block.FindingBlock.{FindingBlock}
use Rattle.answer_lanes.specs.declared.finding_eight.FindingEight.{FindingEight}
use Rattle.answer_lanes.specs.declared.run.Run.{Run}
use Rattle.answer_lanes.specs.Blocks.{block_answer_at, block_finding_at, eight_finding_at, eight_found, eight_of, plainly}
use Rattle.answer_lanes.specs.Points.{answer_at, finding_at}
use Rattle.answer_lanes.specs.Runs.{all_items, items_of}
use Rattle.site_types.specs.Bits.{has_bit}
use Rattle.site_types.proofs.Masks.{has_bit-zero}

-- all that a block holds
abbrev pub whole_run : {S : Type 0} → S → Run S
whole_run block = record { first = block; taken = 0; count = 32 }

-- all that one of its eights holds
abbrev pub eight_run : {S : Type 0} → S → Run S
eight_run eight = record { first = eight; taken = 0; count = 8 }

pub answers_of_eights : (block : AnswerBlock) → items_of block_answer_at (whole_run block)
    ≡ all_items answer_at (eight_run (eight_of block 0) ∷ eight_run (eight_of block 1) ∷ eight_run (eight_of block 2) ∷ eight_run (eight_of block 3) ∷ [])
answers_of_eights block = refl

pub findings_of_eights : (block : FindingBlock) → items_of block_finding_at (whole_run block)
    ≡ all_items eight_finding_at (eight_run (eight_found block 0) ∷ eight_run (eight_found block 1) ∷ eight_run (eight_found block 2)
    ∷ eight_run (eight_found block 3) ∷ [])
findings_of_eights block = refl

-- the items of a run within the first eight of a block are those of the eight
within_first : {S T U : Type 0} (item_at : U → ℕ → T) (eight : S → ℕ → U) (block : S) (taken count : ℕ) → taken + count ≤ 8
    → map (λ k. item_at (eight block (k / 8)) (k % 8)) (range_with_len taken count) ≡ map (item_at (eight block 0)) (range_with_len taken count)
within_first item_at eight block taken zero few = refl
within_first item_at eight block taken (suc count) few =
    let first : taken / 8 ≡ 0 = omega (arith, few) in
    let same : taken % 8 ≡ taken = omega (arith, few) in
    let more : (taken + 1) + count ≤ 8 = omega (arith, few) in
    ap (λ x. x ∷ map (λ k. item_at (eight block (k / 8)) (k % 8)) (range_with_len (taken + 1) count))
    (ap (λ n. item_at (eight block n) (taken % 8)) first ∙ ap (item_at (eight block 0)) same)
    ∙ ap (λ xs. item_at (eight block 0) taken ∷ xs) (within_first item_at eight block (taken + 1) count more)

pub answers_of_first : (run : Run AnswerBlock) → run.taken + run.count ≤ 8
    → items_of block_answer_at run ≡ items_of answer_at (record { first = eight_of run.first 0; taken = run.taken; count = run.count })
answers_of_first run few = within_first answer_at eight_of run.first run.taken run.count few

pub findings_of_first : (run : Run FindingBlock) → run.taken + run.count ≤ 8
    → items_of block_finding_at run ≡ items_of eight_finding_at (record { first = eight_found run.first 0; taken = run.taken; count = run.count })
findings_of_first run few = within_first eight_finding_at eight_found run.first run.taken run.count few

-- the finding at a place of an eight of which none tells of other zones there is that of its group
pub finding_of_group : (eight : FindingEight) (place : ℕ) → has_bit eight.others place ≡ false → eight_finding_at eight place ≡ finding_at eight.group place
finding_of_group eight place own = ap (λ b. finding_at (if b then plainly eight.other_zones eight.group else eight.group) place) own

-- and one that does is told plainly
pub finding_of_others : (eight : FindingEight) (place : ℕ) → has_bit eight.others place ≡ true
    → eight_finding_at eight place ≡ finding_at (plainly eight.other_zones eight.group) place
finding_of_others eight place other = ap (λ b. finding_at (if b then plainly eight.other_zones eight.group else eight.group) place) other

-- where none of an eight tells of other zones, its findings are those of its group
pub findings_of_group : (eight : FindingEight) (taken count : ℕ) → eight.others ≡ 0
    → items_of eight_finding_at (record { first = eight; taken = taken; count = count })
    ≡ items_of finding_at (record { first = eight.group; taken = taken; count = count })
findings_of_group eight taken zero none = refl
findings_of_group eight taken (suc count) none =
    ap (λ x. x ∷ map (eight_finding_at eight) (range_with_len (taken + 1) count))
    (finding_of_group eight taken (ap (λ m. has_bit m taken) none ∙ has_bit-zero taken))
    ∙ ap (λ xs. finding_at eight.group taken ∷ xs) (findings_of_group eight (taken + 1) count none)
