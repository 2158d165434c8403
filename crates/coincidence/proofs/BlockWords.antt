-- All answers of a block at once, by the bits of words.
use Rattle.std.proofs.Common.{◌≡◌, ℕ, ◌+◌, ◌*◌, ◌^◌, ◌<◌, ◌≤◌, ◌&&◌, ◌||◌, Bool, true, false, not, bit_and, refl, sym, ◌∙◌}
use Rattle.std.proofs.Common.{ap, subst, arith, slice_get, slice_index, Some, List, [], ◌∷◌, ◌==◌, if◌then◌else◌}
use Rattle.std.specs.Int.{w32, bit_not}
use Rattle.std.specs.Int.Bits.{bit_or}
use Rattle.std.proofs.lemmas.Nat.{and_le_r}
use Rattle.std.proofs.lemmas.Nat.Bits.{bit_at_ones}
use Rattle.site_types.specs.declared.heard.Heard.TheVariants.{Alarm, Quiet, Silent}
use Rattle.site_types.specs.Bits.{has_bit}
use Rattle.site_types.proofs.Masks.{has_bit-and, has_bit-not, has_bit-or, has_bit-zero}
use Rattle.answer_lanes.specs.declared.answer_block.AnswerBlock.{AnswerBlock}
use Rattle.answer_lanes.specs.Blocks.{eight_of}
use Rattle.answer_lanes.specs.Places.{has_place}
use Rattle.answer_lanes.specs.Points.{answer_at}
use Rattle.answer_lanes.specs.Words.{AreBitsOf, AreEights}
use Rattle.answer_lanes.proofs.MaskBits.{lt_is, matches}
use Rattle.coincidence_rules.specs.Counted.{is_silent}
use Rattle.coincidence_rules.proofs.Lists.{and_both}
use Rattle.coincidence.specs.declared.decide.Decide.{Decide}
use Rattle.coincidence.specs.declared.point_watch.PointWatch.{PointWatch}
use Rattle.coincidence.specs.GoingOn.{AreGoingOnIn}
use Rattle.coincidence.specs.Parts.{is_at_rest, stays_missing}
use Rattle.coincidence.specs.Places.{TellsEights}
use Rattle.coincidence.specs.Resting.{LeavesPoint, TellsChanging}
use Rattle.coincidence.specs.Steady.{AreLeftIn, AreSilentIn, AreStillIn, HasNumberedPoints, IsQuietBlock}
use Rattle.coincidence.proofs.GoingOn.{bits_among}
use Rattle.coincidence.proofs.PlaceSets.{ones_have}
use Rattle.coincidence.proofs.Steady.{all_four, all_of_eight, none_changing}
use Rattle.coincidence.proofs.Resting.{left_if, left_quiet, point_is, quiet}

-- the place of an answer in a word
pub in_word : (number k : ℕ) → number < 4 → k < 8 → 8 * number + k < 32
in_word number k less small = omega (arith, less, small)

pub not_is : (kept : Bool) → not kept ≡ false → kept ≡ true
not_is true e = refl
not_is false e = absurd (cc)

-- where a word of the answers that leave their points has all bits they all do
pub all_left_in : (decide : Decide) (block : AnswerBlock) (still : ℕ) → still < 2 ^ 32 → AreStillIn decide block still → bit_not w32 still ≡ 0
    → AreLeftIn decide block
all_left_in decide block still fits stills none number k less small =
    let place = 8 * number + k in
    stills number k less small
    (not_is (has_bit still place)
    (sym (has_bit-not w32 still place fits (in_word number k less small)) ∙ ap (λ n. has_bit n place) none ∙ has_bit-zero place))

-- ---- which answers leave their points

module _ (decide : Decide) (block : AnswerBlock) (numbers : HasNumberedPoints block) (alarms silents resting : ℕ) (alarms_fit : alarms < 2 ^ 32)
    (silents_fit : silents < 2 ^ 32) (are_alarms : AreBitsOf block.alarms alarms) (are_silents : AreBitsOf block.silents silents)
    (rests : TellsEights is_at_rest decide.points block.firsts resting) where
  -- what is kept of the point of an answer
  there_is : (number k : ℕ) → number < 4 → k < 8 → (watch : PointWatch) → slice_get decide.points (answer_at (eight_of block number) k).point ≡ Some watch
      → slice_get decide.points (slice_index block.firsts number + k) ≡ Some watch
  there_is number k less small watch there =
      ap (slice_get decide.points) (sym (point_is decide (eight_of block number) (numbers number less) k small)) ∙ there

  -- where none is silent those that are no alarms are quiet
  pub still_quiet_in : silents ≡ 0 → AreStillIn decide block (bit_and resting (bit_not w32 alarms))
  still_quiet_in none number k less small set_bit =
      let place = 8 * number + k in
      let both = and_both (has_bit resting place) (not (has_bit alarms place))
      (sym (has_bit-and resting (bit_not w32 alarms) place
      ∙ ap (λ b. has_bit resting place && b) (has_bit-not w32 alarms place alarms_fit (in_word number k less small))) ∙ set_bit) in
      left_quiet decide (answer_at (eight_of block number) k) (has_bit resting place)
      (λ watch there. rests number k watch less small (there_is number k less small watch there)) both.0
      (quiet (has_bit (slice_index block.alarms number) k) (has_bit (slice_index block.silents number) k)
      (ap not (sym (are_alarms number k less small)) ∙ both.1)
      (sym (are_silents number k less small) ∙ ap (λ m. has_bit m place) none ∙ has_bit-zero place))

  -- the others are quiet of points at rest, or silent of points that stay missing
  pub still_matching_in : (missing : ℕ) → TellsEights stays_missing decide.points block.firsts missing
      → AreStillIn decide block (bit_and (bit_or (bit_and resting (bit_not w32 silents)) (bit_and missing silents)) (bit_not w32 alarms))
  still_matching_in missing misses number k less small set_bit =
      let place = 8 * number + k in
      let within = in_word number k less small in
      let alarm = are_alarms number k less small in
      let silent = are_silents number k less small in
      left_if decide (answer_at (eight_of block number) k) (has_bit resting place) (has_bit missing place)
      (λ watch there. rests number k watch less small (there_is number k less small watch there))
      (λ watch there. misses number k watch less small (there_is number k less small watch there))
      (matches (has_bit (slice_index block.alarms number) k) (has_bit (slice_index block.silents number) k) (has_bit resting place) (has_bit missing place)
      (ap (λ s. ((has_bit resting place && not s) || (has_bit missing place && s)) && not (has_bit (slice_index block.alarms number) k)) (sym silent)
      ∙ ap (λ a. ((has_bit resting place && not (has_bit silents place)) || (has_bit missing place && has_bit silents place)) && not a) (sym alarm)
      ∙ sym (parts missing place within) ∙ set_bit))
    where
      parts : (missing place : ℕ) → place < 32
          → has_bit (bit_and (bit_or (bit_and resting (bit_not w32 silents)) (bit_and missing silents)) (bit_not w32 alarms)) place
          ≡ (((has_bit resting place && not (has_bit silents place)) || (has_bit missing place && has_bit silents place)) && not (has_bit alarms place))
      parts missing place within =
          has_bit-and (bit_or (bit_and resting (bit_not w32 silents)) (bit_and missing silents)) (bit_not w32 alarms) place
          ∙ ap (λ b. has_bit (bit_or (bit_and resting (bit_not w32 silents)) (bit_and missing silents)) place && b) (has_bit-not w32 alarms place alarms_fit within)
          ∙ ap (λ b. b && not (has_bit alarms place))
          (has_bit-or (bit_and resting (bit_not w32 silents)) (bit_and missing silents) place
          ∙ ap (λ b. b || has_bit (bit_and missing silents) place)
          (has_bit-and resting (bit_not w32 silents) place ∙ ap (λ b. has_bit resting place && b) (has_bit-not w32 silents place silents_fit within))
          ∙ ap (λ b. (has_bit resting place && not (has_bit silents place)) || b) (has_bit-and missing silents place))

-- where all four eights are at rest, quiet answers leave their points
pub all_at_rest : (decide : Decide) (block : AnswerBlock) → HasNumberedPoints block → IsQuietBlock block → (resting : ℕ) → resting ≡ 4294967295
    → TellsEights is_at_rest decide.points block.firsts resting → AreLeftIn decide block
all_at_rest decide block numbers quiets resting all rests number k less small =
    let here : 0 + k ≡ k = omega arith in
    let each = all_four (λ n. TellsChanging decide (all_of_eight (eight_of block n)) 0) (one 0 (omega arith) refl refl) (one 1 (omega arith) refl refl)
    (one 2 (omega arith) refl refl) (one 3 (omega arith) refl refl) in
    subst (λ n. LeavesPoint decide (answer_at (eight_of block number) n)) here ((each number less).left k small (has_bit-zero k))
  where
    one : (number : ℕ) → number < 4 → slice_index (0 ∷ 0 ∷ 0 ∷ 0 ∷ []) number ≡ 0 → slice_index (0 ∷ 0 ∷ 0 ∷ 0 ∷ []) number ≡ 0
        → TellsChanging decide (all_of_eight (eight_of block number)) 0
    one number less no_alarm no_silent =
        none_changing decide (eight_of block number) (numbers number less) (ap (λ xs. slice_index xs number) quiets.alarms ∙ no_alarm)
        (ap (λ xs. slice_index xs number) quiets.silents ∙ no_silent)
        (λ k watch small there.
        ones_have 8 (omega arith) k ∙ lt_is k 8 small
        ∙ sym (ap (λ m. has_bit m (8 * number + k)) all ∙ ap (λ b. b == 1) (bit_at_ones 32 (8 * number + k) (in_word number k less small)))
        ∙ rests number k watch less small there)

-- bytes of which the bits are those of the silent answers that are no alarms
pub silent_bytes : (block : AnswerBlock) (alarms silents : ℕ) (bytes : List ℕ) → alarms < 2 ^ 32 → AreBitsOf block.alarms alarms
    → AreBitsOf block.silents silents → AreBitsOf bytes (bit_and silents (bit_not w32 alarms)) → AreSilentIn block bytes
silent_bytes block alarms silents bytes fits are_alarms are_silents are number k less small =
    let place = 8 * number + k in
    sym (are number k less small) ∙ has_bit-and silents (bit_not w32 alarms) place
    ∙ ap (λ b. has_bit silents place && b) (has_bit-not w32 alarms place fits (in_word number k less small))
    ∙ ap (λ b. b && not (has_bit alarms place)) (are_silents number k less small)
    ∙ ap (λ b. has_bit (slice_index block.silents number) k && not b) (are_alarms number k less small)
    ∙ heard_silent (has_bit (slice_index block.alarms number) k) (has_bit (slice_index block.silents number) k)
  where
    heard_silent : (alarm silent : Bool) → (silent && not alarm) ≡ is_silent (if alarm then Alarm else if silent then Silent else Quiet)
    heard_silent true true = refl
    heard_silent true false = refl
    heard_silent false true = refl
    heard_silent false false = refl

-- ---- which answers are alarms that go on

-- the answers of which the bits of a word tell are alarms of points whose alarms go on, where those have all its bits
pub going_on_in : (decide : Decide) (block : AnswerBlock) → HasNumberedPoints block → decide.since.0 ≤ block.stamp.0 → (word going alarms : ℕ)
    → alarms < 2 ^ 32 → AreEights decide.going_on block.firsts going → AreBitsOf block.alarms alarms
    → bit_and word (bit_not w32 (bit_and going alarms)) ≡ 0 → AreGoingOnIn decide block word
going_on_in decide block numbers since word going alarms fits are_going are_alarms none = record {
  marked = λ number k less small set_bit.
      let place = 8 * number + k in
      let eight = eight_of block number in
      let lower = and_le_r going alarms in
      let both = and_both (has_bit going place) (has_bit alarms place)
      (sym (has_bit-and going alarms place)
      ∙ bits_among w32 word (bit_and going alarms) place (omega (arith, lower, fits)) none (in_word number k less small) set_bit) in
      record {
        alarm = ap (λ b. if b then Alarm else if has_bit eight.silents k then Silent else Quiet) (sym (are_alarms number k less small) ∙ both.1);
        has = ap (has_place decide.going_on) (point_is decide eight (numbers number less) k small) ∙ sym (are_going number k less small) ∙ both.0;
      };
  since = since;
}
