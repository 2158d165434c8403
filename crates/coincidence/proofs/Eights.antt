-- Runs of blocks are taken one eight behind the other.
use Rattle.std.proofs.Common.{◌≡◌, ◌+◌, ◌*◌, ◌/◌, ◌%◌, ◌≤◌, ℕ, zero, suc, List, [], ◌∷◌, ◌++◌, append-nil, append_assoc, length, length-append, map, min, refl, sym, ◌∙◌, ap, subst, arith}
use Rattle.std.specs.List.{range_with_len}
use Rattle.tick_units.specs.Lane.{LaneState}
use Rattle.site_types.specs.declared.answer.Answer.{Answer}
use Rattle.coincidence_rules.specs.declared.finding.Finding.{Finding}
use Rattle.answer_lanes.specs.declared.answer_block.AnswerBlock.{AnswerBlock}
use Rattle.answer_lanes.specs.declared.answer_group.AnswerGroup.{AnswerGroup}
use Rattle.answer_lanes.specs.declared.run.Run.{Run}
use Rattle.answer_lanes.specs.Blocks.{block_answer_at, eight_of}
use Rattle.answer_lanes.specs.Points.{answer_at}
use Rattle.answer_lanes.specs.Runs.{front_of, items_of, rest_of}
use Rattle.answer_lanes.proofs.Moving.{length_run, run_parts}
use Rattle.coincidence.specs.declared.decide.Decide.{Decide}
use Rattle.coincidence.specs.Changes.{CanTakeAnswerRun, CanTakeRunOf, PutsFindings, TakesAnswerRun, TakesAnswers, TakesRunOf}
use Rattle.coincidence.specs.Stands.{CanTake}
use Rattle.coincidence.proofs.Turned.{can_behind, can_front, puts_both, puts_none, room_behind, takes_both, takes_none}

-- the answers of a block at places of one eight are those of the eight
at_eight : (block : AnswerBlock) (number taken count : ℕ) → taken + count ≤ 8
    → map (block_answer_at block) (range_with_len (8 * number + taken) count) ≡ map (answer_at (eight_of block number)) (range_with_len taken count)
at_eight block number taken zero few = refl
at_eight block number taken (suc count) few =
    let this : (8 * number + taken) / 8 ≡ number = omega (arith, few) in
    let there : (8 * number + taken) % 8 ≡ taken = omega (arith, few) in
    let next : 8 * number + taken + 1 ≡ 8 * number + (taken + 1) = omega arith in
    let more : (taken + 1) + count ≤ 8 = omega (arith, few) in
    ap (λ x. x ∷ map (block_answer_at block) (range_with_len (8 * number + taken + 1) count))
    (ap (λ n. answer_at (eight_of block n) ((8 * number + taken) % 8)) this ∙ ap (answer_at (eight_of block number)) there)
    ∙ ap (λ xs. answer_at (eight_of block number) taken ∷ xs)
    (ap (λ n. map (block_answer_at block) (range_with_len n count)) next ∙ at_eight block number (taken + 1) count more)

pub answers_at_eight : (block : AnswerBlock) (taken count : ℕ) → taken % 8 + count ≤ 8
    → items_of block_answer_at (record { first = block; taken = taken; count = count })
    ≡ items_of answer_at (record { first = eight_of block (taken / 8); taken = taken % 8; count = count })
answers_at_eight block taken count few =
    let at : taken ≡ 8 * (taken / 8) + taken % 8 = omega arith in
    ap (λ n. map (block_answer_at block) (range_with_len n count)) at ∙ at_eight block (taken / 8) (taken % 8) count few

-- of some answers some are left; those in front of them are taken after those before, and one finding for each is put into the lane
pub record TakesFront (old : Decide) (answers left : List Answer) (lane : LaneState Finding) (now : Decide) (put : LaneState Finding) : Type 0 where
  pub front : List Answer
  pub parts : answers ≡ front ++ left
  pub taken : TakesAnswers old front now
  pub found : PutsFindings old front lane put

pub none_in_front : (decide : Decide) (answers : List Answer) (lane : LaneState Finding) → TakesFront decide answers answers lane decide lane
none_in_front decide answers lane = record { front = []; parts = refl; taken = takes_none decide; found = puts_none decide lane }

module _ {old now : Decide} (run left : Run AnswerBlock) {lane put : LaneState Finding}
    (h : TakesFront old (items_of block_answer_at run) (items_of block_answer_at left) lane now put) (eight : Run AnswerGroup)
    (is : items_of answer_at eight ≡ items_of block_answer_at (front_of eight.count left)) (few : eight.count ≤ left.count) where
  parts_left : items_of block_answer_at left ≡ items_of answer_at eight ++ items_of block_answer_at (rest_of eight.count left)
  parts_left =
      let least : min left.count eight.count ≡ eight.count = omega (arith, few) in
      run_parts block_answer_at left eight.count
      ∙ ap (λ n. items_of block_answer_at (front_of eight.count left) ++ items_of block_answer_at (rest_of n left)) least
      ∙ ap (λ xs. xs ++ items_of block_answer_at (rest_of eight.count left)) (sym is)

  -- the first eight of what is left may be taken
  pub can_take_eight : eight.taken + eight.count ≤ 8 → CanTakeRunOf block_answer_at old run lane → CanTakeAnswerRun now eight put
  can_take_eight within can =
      let behind = items_of block_answer_at (rest_of eight.count left) in
      let may = subst (CanTake old) (h.parts) can.may in
      let whole = ap length h.parts ∙ length-append h.front (items_of block_answer_at left) in
      let part = ap length parts_left ∙ length-append (items_of answer_at eight) behind in
      let all = length_run block_answer_at run in
      let this = length_run answer_at eight in
      record {
        short = omega (arith, within);
        room = room_behind old h.front lane put run.count eight.count (can_front old h.front (items_of block_answer_at left) may) h.found can.room
            (omega (arith, whole, part, all, this));
        may = can_front now (items_of answer_at eight) behind (subst (CanTake now) parts_left (can_behind old now h.front (items_of block_answer_at left) h.taken may));
      }

  -- and then is in front
  pub eight_in_front : (next : Decide) (after : LaneState Finding) → TakesAnswerRun now eight put next after
      → TakesFront old (items_of block_answer_at run) (items_of block_answer_at (rest_of eight.count left)) lane next after
  eight_in_front next after one =
      let this = items_of answer_at eight in
      record {
        front = h.front ++ this;
        parts = h.parts ∙ ap (λ xs. h.front ++ xs) parts_left ∙ sym (append_assoc h.front this (items_of block_answer_at (rest_of eight.count left)));
        taken = takes_both old now next h.front this h.taken one.taken;
        found = puts_both old now h.front this lane put after h.taken h.found one.put;
      }

-- where none is left all are taken
pub all_in_front : {old now : Decide} (run left : Run AnswerBlock) {lane put : LaneState Finding}
    → TakesFront old (items_of block_answer_at run) (items_of block_answer_at left) lane now put → left.count ≡ 0 → TakesRunOf block_answer_at old run lane now put
all_in_front {old} {now} run left {lane} {put} h none =
    let same : h.front ≡ items_of block_answer_at run =
    sym (h.parts ∙ ap (λ n. h.front ++ map (block_answer_at left.first) (range_with_len left.taken n)) none ∙ append-nil h.front) in
    record {
      taken = subst (λ xs. TakesAnswers old xs now) same h.taken;
      put = subst (λ xs. PutsFindings old xs lane put) same h.found;
    }

-- an eight that holds all that a run does
module _ (run : Run AnswerBlock) (eight : Run AnswerGroup) (is : items_of answer_at eight ≡ items_of block_answer_at (front_of eight.count run))
    (all : run.count ≤ eight.count) where
  same_items : items_of answer_at eight ≡ items_of block_answer_at run
  same_items =
      let most : min run.count eight.count ≡ run.count = omega (arith, all) in
      is ∙ ap (λ n. map (block_answer_at run.first) (range_with_len run.taken n)) most

  pub run_by_eight : (old : Decide) (lane : LaneState Finding) (now : Decide) (put : LaneState Finding) → TakesAnswerRun old eight lane now put
      → TakesRunOf block_answer_at old run lane now put
  run_by_eight old lane now put one = record {
    taken = subst (λ xs. TakesAnswers old xs now) same_items one.taken;
    put = subst (λ xs. PutsFindings old xs lane put) same_items one.put;
  }
