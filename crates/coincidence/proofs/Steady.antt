-- Answers that leave all that is kept as it is are told of at once, eight by eight.
use Rattle.std.proofs.Common.{◌+◌, Bool, ◌≤◌, true, false, not, ◌&&◌, if◌then◌else◌, ◌≡◌, ℕ, zero, suc, ◌<◌, List, [], ◌∷◌, ◌++◌}
use Rattle.std.proofs.Common.{map, refl, slice_index, sym, ◌∙◌, ap, subst, arith}
use Rattle.std.specs.List.{range_with_len}
use Rattle.tick_units.specs.Lane.{LaneState, with_put}
use Rattle.site_types.specs.declared.answer.Answer.{Answer}
use Rattle.site_types.specs.Bits.{has_bit}
use Rattle.site_types.specs.declared.heard.Heard.TheVariants.{Alarm, Quiet, Silent}
use Rattle.coincidence_rules.specs.Counted.{is_silent}
use Rattle.coincidence_rules.specs.declared.finding.Finding.{Finding}
use Rattle.answer_lanes.specs.declared.answer_block.AnswerBlock.{AnswerBlock}
use Rattle.answer_lanes.specs.declared.answer_group.AnswerGroup.{AnswerGroup}
use Rattle.answer_lanes.specs.declared.finding_block.FindingBlock.{FindingBlock}
use Rattle.answer_lanes.specs.declared.finding_eight.FindingEight.{FindingEight}
use Rattle.answer_lanes.specs.declared.run.Run.{Run}
use Rattle.answer_lanes.specs.Blocks.{block_answer_at, block_finding_at, eight_finding_at, eight_found, eight_of, eight_of_group, none_told}
use Rattle.answer_lanes.specs.Points.{answer_at, heard_at, mask_if}
use Rattle.answer_lanes.specs.Runs.{items_of}
use Rattle.coincidence.specs.declared.decide.Decide.{Decide}
use Rattle.coincidence.specs.Changes.{FindsNext, PutsFindings, TakesAnswers}
use Rattle.coincidence.specs.Resting.{AreStill, LeavesPoint, TellsChanging, plain_of}
use Rattle.coincidence.specs.Parts.{is_at_rest}
use Rattle.coincidence.specs.Places.{TellsEight}
use Rattle.coincidence.specs.Steady.{AreLeftIn, AreSilentIn, IsPlainBlock, all_of_block}
use Rattle.answer_lanes.proofs.Blocks.{finding_of_group}
use Rattle.answer_lanes.proofs.MaskBits.{lt_is}
use Rattle.coincidence.proofs.PlaceSets.{ones_have}
use Rattle.coincidence.proofs.Resting.{finds_at_rest, still_quiet, takes_one_at_rest}
use Rattle.coincidence.proofs.FindingIs.{same_finding}
use Rattle.coincidence.proofs.Turned.{put_both, put_none, puts_both, puts_none, puts_one, takes_both, takes_none}
use Rattle.site_types.proofs.Masks.{has_bit-zero}

-- all that an eight holds
abbrev pub all_of_eight : {S : Type 0} → S → Run S
all_of_eight eight = record { first = eight; taken = 0; count = 8 }

-- some answers leave all that is kept as it is, and these findings are theirs
pub record AreSteady (decide : Decide) (answers : List Answer) (found : List Finding) : Type 0 where
  pub taken : TakesAnswers decide answers decide
  pub put : (lane : LaneState Finding) → PutsFindings decide answers lane (with_put lane found)

-- the answers of a block leave all that is kept as it is, and another block has their findings
abbrev pub IsSteadyBlock : Decide → AnswerBlock → FindingBlock → Type 0
IsSteadyBlock decide block found =
    AreSteady decide (items_of block_answer_at (all_of_block block)) (items_of block_finding_at (all_of_block found))

-- the answers of an eight, and its findings
abbrev pub answers_in : AnswerGroup → List Answer
answers_in eight = items_of answer_at (all_of_eight eight)

abbrev pub found_in : FindingEight → List Finding
found_in eight = items_of eight_finding_at (all_of_eight eight)

none_steady : (decide : Decide) → AreSteady decide [] []
none_steady decide = record {
  taken = takes_none decide;
  put = λ lane. subst (PutsFindings decide [] lane) (put_none lane) (puts_none decide lane);
}

more_steady : (decide : Decide) (xs ys : List Answer) (fs gs : List Finding) → AreSteady decide xs fs → AreSteady decide ys gs
    → AreSteady decide (xs ++ ys) (fs ++ gs)
more_steady decide xs ys fs gs first second = record {
  taken = takes_both decide decide decide xs ys first.taken second.taken;
  put = λ lane.
      subst (PutsFindings decide (xs ++ ys) lane) (put_both lane fs gs)
      (puts_both decide decide xs ys lane (with_put lane fs) (with_put (with_put lane fs) gs) first.taken (first.put lane) (second.put (with_put lane fs)));
}

-- where all four eights of a block are so, the block is
pub steady_block : (decide : Decide) (block : AnswerBlock) (found : FindingBlock)
    → ((number : ℕ) → number < 4 → AreSteady decide (answers_in (eight_of block number)) (found_in (eight_found found number)))
    → IsSteadyBlock decide block found
steady_block decide block found each =
    let a = λ (n : ℕ). answers_in (eight_of block n) in
    let f = λ (n : ℕ). found_in (eight_found found n) in
    let fourth = more_steady decide (a 3) [] (f 3) [] (each 3 (omega arith)) (none_steady decide) in
    let third = more_steady decide (a 2) (a 3 ++ []) (f 2) (f 3 ++ []) (each 2 (omega arith)) fourth in
    let second = more_steady decide (a 1) (a 2 ++ (a 3 ++ [])) (f 1) (f 2 ++ (f 3 ++ [])) (each 1 (omega arith)) third in
    more_steady decide (a 0) (a 1 ++ (a 2 ++ (a 3 ++ []))) (f 0) (f 1 ++ (f 2 ++ (f 3 ++ []))) (each 0 (omega arith)) second

-- ---- each answer of an eight

steady_from : (decide : Decide) (answers : AnswerGroup) (found : FindingEight) (taken count : ℕ)
    → ((k : ℕ) → k < taken + count → AreSteady decide (answer_at answers k ∷ []) (eight_finding_at found k ∷ []))
    → AreSteady decide (map (answer_at answers) (range_with_len taken count)) (map (eight_finding_at found) (range_with_len taken count))
steady_from decide answers found taken zero each = none_steady decide
steady_from decide answers found taken (suc count) each =
    more_steady decide (answer_at answers taken ∷ []) (map (answer_at answers) (range_with_len (taken + 1) count)) (eight_finding_at found taken ∷ [])
    (map (eight_finding_at found) (range_with_len (taken + 1) count)) (each taken (omega arith))
    (steady_from decide answers found (taken + 1) count (λ k small. each k (omega (arith, small))))

-- where each answer of an eight leaves all that is kept as it is, the eight does
pub steady_each : (decide : Decide) (answers : AnswerGroup) (found : FindingEight)
    → ((k : ℕ) → k < 8 → AreSteady decide (answer_at answers k ∷ []) (eight_finding_at found k ∷ []))
    → AreSteady decide (answers_in answers) (found_in found)
steady_each decide answers found each = steady_from decide answers found 0 8 (λ k small. each k (omega (arith, small)))

pub steady_one : (decide : Decide) (answer : Answer) (finding : Finding) → TakesAnswers decide (answer ∷ []) decide → FindsNext decide answer finding
    → AreSteady decide (answer ∷ []) (finding ∷ [])
steady_one decide answer finding takes finds = record {
  taken = takes;
  put = λ lane. puts_one decide answer finding lane (with_put lane (finding ∷ [])) finds refl;
}

-- a block of which all answers leave what is kept of their points as it is
pub left_block : (decide : Decide) (block : AnswerBlock) (found : FindingBlock) → IsPlainBlock block found → AreLeftIn decide block
    → IsSteadyBlock decide block found
left_block decide block found plain left =
    steady_block decide block found
    (λ number less.
    steady_each decide (eight_of block number) (eight_found found number)
    (λ k small.
    let item = answer_at (eight_of block number) k in
    let leaves_point = left number k less small in
    steady_one decide item (eight_finding_at (eight_found found number) k) (takes_one_at_rest decide item leaves_point)
    (subst (FindsNext decide item) (sym (plain number less k small)) (finds_at_rest decide item leaves_point))))

-- what holds of each of the four numbers holds of all
pub all_four : (P : ℕ → Type 0) → P 0 → P 1 → P 2 → P 3 → (number : ℕ) → number < 4 → P number
all_four P p q r s zero less = p
all_four P p q r s (suc zero) less = q
all_four P p q r s (suc (suc zero)) less = r
all_four P p q r s (suc (suc (suc zero))) less = s
all_four P p q r s (suc (suc (suc (suc number)))) less = absurd (omega (arith, less))

-- where nothing is told of zones what is found is plain
plain_at : (answers : AnswerGroup) (missing k : ℕ) → has_bit missing k ≡ is_silent (answer_at answers k).heard
    → eight_finding_at (eight_of_group (record {
      stamp = answers.stamp;
      point = answers.point;
      missing = missing;
      telling = 0;
      counted = 0;
      confirmed = 0;
      manual = 0;
      released = 0;
    })) k ≡ plain_of (answer_at answers k)
plain_at answers missing k silent =
    let none : mask_if (has_bit 0 k) 0 ≡ 0 = ap (λ b. mask_if b 0) (has_bit-zero k) in
    finding_of_group _ k (has_bit-zero k) ∙ same_finding (answer_at answers k) _ 0 _ 0 _ 0 _ 0 _ _ none none none none silent

pub plain_found : (answers : AnswerBlock) (missing : List ℕ) → AreSilentIn answers missing → IsPlainBlock answers (record {
  stamp = answers.stamp;
  firsts = answers.firsts;
  missing = missing;
  telling = 0 ∷ 0 ∷ 0 ∷ 0 ∷ [];
  told = none_told ∷ none_told ∷ none_told ∷ none_told ∷ [];
  others = 0 ∷ 0 ∷ 0 ∷ 0 ∷ [];
  other_zones = 0 ∷ 0 ∷ 0 ∷ 0 ∷ [];
})
plain_found answers missing silents zero less k small = plain_at (eight_of answers 0) (slice_index missing 0) k (silents 0 k less small)
plain_found answers missing silents (suc zero) less k small = plain_at (eight_of answers 1) (slice_index missing 1) k (silents 1 k less small)
plain_found answers missing silents (suc (suc zero)) less k small = plain_at (eight_of answers 2) (slice_index missing 2) k (silents 2 k less small)
plain_found answers missing silents (suc (suc (suc zero))) less k small = plain_at (eight_of answers 3) (slice_index missing 3) k (silents 3 k less small)
plain_found answers missing silents (suc (suc (suc (suc number)))) less k small = absurd (omega (arith, less))

-- of a quiet answer nothing is silent
pub quiet_at : (answers : AnswerGroup) (k : ℕ) → answers.alarms ≡ 0 → answers.silents ≡ 0 → has_bit 0 k ≡ is_silent (answer_at answers k).heard
quiet_at answers k no_alarms no_silents =
    has_bit-zero k
    ∙ sym (ap (λ m. is_silent (heard_at m answers.silents k)) no_alarms ∙ ap (λ m. is_silent (heard_at 0 m k)) no_silents
    ∙ ap (λ b. is_silent (if b then Alarm else if b then Silent else Quiet)) (has_bit-zero k))

-- of eight quiet answers of points at rest none changes what is kept
pub none_changing : (decide : Decide) (answers : AnswerGroup) → answers.point ≤ 65527 → answers.alarms ≡ 0 → answers.silents ≡ 0
    → TellsEight is_at_rest decide.points answers.point 255 → TellsChanging decide (all_of_eight answers) 0
none_changing decide answers points no_alarms no_silents rests = record {
  within = λ k set_bit. absurd (let no = has_bit-zero k in cc);
  left = λ k small clear.
      let here : k ≡ 0 + k = omega arith in
      subst (λ n. LeavesPoint decide (answer_at answers n)) here (still k small (ones_have 8 (omega arith) k ∙ lt_is k 8 small));
}
  where
    both : (b : Bool) → b ≡ (b && true)
    both true = refl
    both false = refl

    still : AreStill decide answers 255
    still =
        still_quiet decide answers points 255 0 255 rests no_silents
        (λ k small. has_bit-zero k ∙ sym (ap (λ m. has_bit m (0 + k)) no_alarms ∙ has_bit-zero (0 + k)))
        (λ k small. both (has_bit 255 k) ∙ sym (ap (λ b. has_bit 255 k && not b) (has_bit-zero k)))

-- a run that holds all of a block
pub whole_is : (run : Run AnswerBlock) → run.taken ≡ 0 → run.count ≡ 32 → all_of_block run.first ≡ run
whole_is run begins ends =
    ap (λ n. record { first = run.first; taken = n; count = 32 }) (sym begins) ∙ ap (λ n. record { first = run.first; taken = run.taken; count = n }) (sym ends)
