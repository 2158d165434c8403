-- The answers of blocks are those of their groups.
use Rattle.std.proofs.Common.{◌≡◌, ℕ, ◌+◌, ◌<◌, ◌≤◌, List, [], ◌∷◌, ◌++◌, length, slice_index, slice_index_or, refl, sym, ◌∙◌, ap, subst, arith}
use Rattle.std.specs.List.{flat_map}
use Rattle.site_types.specs.declared.answer.Answer.{Answer}
use Rattle.site_types.specs.declared.point_state.PointState.{PointState}
use Rattle.site_types.specs.declared.point_state.PointState.TheVariants.{Quiet}
use Rattle.site_types.specs.Bits.{has_bit}
use Rattle.answer_lanes.specs.declared.answer_block.AnswerBlock.{AnswerBlock}
use Rattle.answer_lanes.specs.declared.answer_group.AnswerGroup.{AnswerGroup}
use Rattle.answer_lanes.specs.Blocks.{block_answer_at, eight_of}
use Rattle.answer_lanes.specs.Points.{answer_at}
use Rattle.answer_lanes.specs.Runs.{items_of}
use Rattle.answer_lanes.proofs.Blocks.{answers_of_eights, answers_of_first, eight_run, whole_run}
use Rattle.loop_poller.specs.declared.group.Group.{Group}
use Rattle.loop_poller.specs.Blocks.{IsWholeWithin}
use Rattle.loop_poller.specs.Groups.{group_answers}
use Rattle.answer_lanes.specs.Words.{AreBitsOf}
use Rattle.loop_poller.specs.PointSets.{TellStates, tells_alarm, tells_nothing}
use Rattle.loop_poller.proofs.GroupMasks.{told_answers}

-- the answers of a block made of one group
pub of_group : (block : AnswerBlock) (group : AnswerGroup) (count : ℕ) → count ≤ 8 → eight_of block 0 ≡ group
    → items_of block_answer_at (record { first = block; taken = 0; count = count })
    ≡ items_of answer_at (record { first = group; taken = 0; count = count })
of_group block group count few is =
    answers_of_first (record { first = block; taken = 0; count = count }) (omega (arith, few))
    ∙ ap (λ g. items_of answer_at (record { first = g; taken = 0; count = count })) is

-- a list of four, by what it has at each place
pub is_four : {X : Type 0} (xs : List X) (a b c d : X) → length xs ≡ 4
    → xs ≡ slice_index_or xs 0 a ∷ slice_index_or xs 1 b ∷ slice_index_or xs 2 c ∷ slice_index_or xs 3 d ∷ []
is_four [] a b c d size = absurd (omega arith)
is_four (w ∷ []) a b c d size = absurd (omega arith)
is_four (w ∷ x ∷ []) a b c d size = absurd (omega arith)
is_four (w ∷ x ∷ y ∷ []) a b c d size = absurd (omega arith)
is_four (w ∷ x ∷ y ∷ z ∷ []) a b c d size = refl
is_four (w ∷ x ∷ y ∷ z ∷ v ∷ more) a b c d size = absurd (omega arith)

-- masks tell the points of a group, where all points of the site are in these states
pub record AreMasks (group : Group) (states : List PointState) (alarms silents : ℕ) : Type 0 where
  pub alarm : (k : ℕ) → k < 8 → group.first + k < length states
      → has_bit alarms k ≡ tells_alarm (slice_index_or states (group.first + k) Quiet)
  pub silent : (k : ℕ) → k < 8 → group.first + k < length states
      → has_bit silents k ≡ tells_nothing (slice_index_or states (group.first + k) Quiet)

module _ (tick : ℕ) (states : List PointState) where
  abbrev eight : Group → ℕ → ℕ → AnswerGroup
  eight group alarms silents = record { stamp = record { 0 = tick }; point = group.first; alarms = alarms; silents = silents }

  -- the answers of eight points, told by masks
  eight_told : (group : Group) (alarms silents : ℕ) → AreMasks group states alarms silents → IsWholeWithin group states
      → items_of answer_at (eight_run (eight group alarms silents)) ≡ group_answers tick group states
  eight_told group alarms silents masks whole =
      let eights = whole.whole in
      let fits = whole.within in
      ap (λ n. items_of answer_at (record { first = eight group alarms silents; taken = 0; count = n })) (sym eights)
      ∙ told_answers tick group states alarms silents masks.alarm masks.silent (λ some. omega (arith, eights, fits))

  -- the masks of four eights, each taken from the bits of a word
  pub masks_in : (group : Group) (firsts alarm_bytes silent_bytes : List ℕ) (alarms silents number : ℕ) → number < 4 → group.first ≡ slice_index firsts number
      → AreBitsOf alarm_bytes alarms → AreBitsOf silent_bytes silents → TellStates tells_alarm states firsts alarms
      → TellStates tells_nothing states firsts silents
      → AreMasks group states (slice_index alarm_bytes number) (slice_index silent_bytes number)
  masks_in group firsts alarm_bytes silent_bytes alarms silents number less is are_alarms are_silents alarm silent = record {
    alarm = λ k small within.
        sym (are_alarms number k less small) ∙ alarm number k less small (subst (λ n. n + k < length states) is within)
        ∙ ap (λ n. tells_alarm (slice_index_or states (n + k) Quiet)) (sym is);
    silent = λ k small within.
        sym (are_silents number k less small) ∙ silent number k less small (subst (λ n. n + k < length states) is within)
        ∙ ap (λ n. tells_nothing (slice_index_or states (n + k) Quiet)) (sym is);
  }

  module _ (a b c d : Group) (alarms silents : List ℕ) where
    abbrev pub block : AnswerBlock
    block = record {
      stamp = record { 0 = tick };
      firsts = a.first ∷ b.first ∷ c.first ∷ d.first ∷ [];
      alarms = alarms;
      silents = silents;
    }

    abbrev masks : Group → ℕ → Type 0
    masks group number = AreMasks group states (slice_index alarms number) (slice_index silents number)

    abbrev at : Group → ℕ → AnswerGroup
    at group number = eight group (slice_index alarms number) (slice_index silents number)

    -- the answers of four groups of eight
    pub whole_told : masks a 0 → masks b 1 → masks c 2 → masks d 3
        → IsWholeWithin a states → IsWholeWithin b states → IsWholeWithin c states → IsWholeWithin d states
        → items_of block_answer_at (whole_run block) ≡ flat_map (λ group. group_answers tick group states) (a ∷ b ∷ c ∷ d ∷ [])
    whole_told ma mb mc md wa wb wc wd =
        let answers = λ (g : AnswerGroup). items_of answer_at (eight_run g) in
        let told = λ (g : Group). group_answers tick g states in
        let second = answers (at b 1) in
        let third = answers (at c 2) in
        let fourth = answers (at d 3) in
        answers_of_eights block
        ∙ ap (λ (xs : List Answer). xs ++ (second ++ (third ++ (fourth ++ [])))) (eight_told a _ _ ma wa)
        ∙ ap (λ (xs : List Answer). told a ++ (xs ++ (third ++ (fourth ++ [])))) (eight_told b _ _ mb wb)
        ∙ ap (λ (xs : List Answer). told a ++ (told b ++ (xs ++ (fourth ++ [])))) (eight_told c _ _ mc wc)
        ∙ ap (λ (xs : List Answer). told a ++ (told b ++ (told c ++ (xs ++ [])))) (eight_told d _ _ md wd)
