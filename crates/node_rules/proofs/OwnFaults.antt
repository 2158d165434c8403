-- A word tells a fault where one stood when it was made.
use Rattle.std.proofs.Common.{◌≡◌, ◌∙◌, ◌==◌, ℕ, zero, suc, ◌≤◌, ◌<◌, ◌&&◌, not, List, [], ◌∷◌, length, slice_get, Bool, true, false, refl, ap, arith, if◌then◌else◌}
use Rattle.std.proofs.Math.Path.{fun_ext}
use Rattle.tick_units.specs.declared.task.Task.{Task}
use Rattle.tick_units.specs.declared.task.Task.TheVariants.{Link}
use Rattle.site_types.specs.declared.fault_set.FaultSet.{FaultSet}
use Rattle.site_types.specs.declared.retained.Retained.{Retained}
use Rattle.site_types.specs.declared.site.Site.{Site}
use Rattle.site_types.specs.declared.word.Word.{Word}
use Rattle.site_types.specs.Done.{Done}
use Rattle.site_types.specs.Events.{is_confirming}
use Rattle.site_types.specs.Profile.{routing_of}
use Rattle.panel_conditions.specs.Answered.{answered_faults}
use Rattle.panel_conditions.specs.Words.{has_fault}
use Rattle.panel_rules.specs.Kept.{made_at}
use Rattle.panel_rules.specs.Moments.{Moment, Began, Happened, Turned, Kept, before_turn, is_turn, tick_of}
use Rattle.panel_rules.specs.Outputs.{confirmations, has_lasted, is_confirmed_in, on_output, outputs_where}
use Rattle.panel_rules.specs.Faults.{outside_at}
use Rattle.panel_rules.specs.Words.{word_made}
use Rattle.panel_rules.specs.Zones.{held_answers}
use Rattle.panel_rules.proofs.FactsAgree.{on_same}
use Rattle.panel_rules.proofs.FaultsTold.{past_short}
use Rattle.panel_rules.proofs.KeptWords.{made_is}
use Rattle.node_rules.specs.Handed.{facts_by_words, facts_of_words, faults_at_word, outside_by_words, own_kept, own_tells, own_tells_to, words_held}
use Rattle.node_rules.specs.NodeLaws.{OwnFaultsAreTold}

-- what had befallen before a turn is no longer than all
turn_short : (panel : ℕ) (task : Task) (moments : List Moment) → length (before_turn panel task moments) ≤ length moments
turn_short panel task [] = omega arith
turn_short panel task (Began ∷ before) = let ih = turn_short panel task before in omega (arith, ih)
turn_short panel task (Happened event ∷ before) = let ih = turn_short panel task before in omega (arith, ih)
turn_short panel task (Turned other_panel other ∷ before) =
    elim (is_turn panel task other_panel other) as (λ t. length (if t then before else before_turn panel task before) ≤ length (Turned other_panel other
    ∷ before)) [
      | true ↦ omega arith
      | false ↦ (let ih = turn_short panel task before in omega (arith, ih))
    ]
turn_short panel task (Kept failed ∷ before) = let ih = turn_short panel task before in omega (arith, ih)

made_short : (panel : ℕ) (moments : List Moment) → length (made_at panel moments) ≤ length moments
made_short panel moments = past_short (made_at panel moments) moments (made_is panel moments).past

module _ (site : Site) (kept : Retained) (done : List Done) (panel : ℕ) (handed : List Moment → ℕ → Word) (up : List Moment → ℕ → Bool) where
  -- two ways to tell faults that tell the same of all words that are shorter
  abbrev AgreeBelow : ℕ → (List Moment → Bool) → (List Moment → Bool) → Type 0
  AgreeBelow n one other = (word : List Moment) → length word < n → one word ≡ other word

  word_same : (one other : List Moment → Bool) (n : ℕ) → AgreeBelow n one other → (word : List Moment) → length word < n
      → word_made site kept done (λ source. one) panel word ≡ word_made site kept done (λ source. other) panel word
  word_same one other n agree [] l = refl
  word_same one other n agree (turn ∷ before) l = rw (agree (turn ∷ before) l) refl

  own_same : (one other : List Moment → Bool) (n : ℕ) → AgreeBelow n one other → (before : List Moment) → length before < n
      → own_kept site kept done panel handed up one before ≡ own_kept site kept done panel handed up other before
  own_same one other n agree before l =
      word_same one other n agree (made_at panel (before_turn panel Link before))
      (let short = made_short panel (before_turn panel Link before) in let turn = turn_short panel Link before in omega (arith, short, turn, l))

  words_same : (one other : List Moment → Bool) (n : ℕ) → AgreeBelow n one other → (before : List Moment) → length before < n
      → words_held site kept done panel handed up one before ≡ words_held site kept done panel handed up other before
  words_same one other n agree before l =
      fun_ext (λ source. ap (λ own. if source == panel then own else handed before source) (own_same one other n agree before l))

  facts_same : (one other : List Moment → Bool) (n : ℕ) → AgreeBelow n one other → (effect_of : ℕ) (before : List Moment) → length before < n
      → facts_by_words site kept done panel handed up one effect_of before ≡ facts_by_words site kept done panel handed up other effect_of before
  facts_same one other n agree effect_of before l = ap (facts_of_words site) (words_same one other n agree before l)

  -- the faults of a turn
  faults_same : (one other : List Moment → Bool) (turn : Moment) (before : List Moment) → AgreeBelow (length (turn ∷ before)) one other
      → faults_at_word site kept done panel handed up one (turn ∷ before) ≡ faults_at_word site kept done panel handed up other (turn ∷ before)
  faults_same one other turn before agree =
      ap faults_by (fun_ext (λ output. ap (λ (run : List ℕ). unconfirmed_by output run)
      (on_same site (facts_by_words site kept done panel handed up one) (facts_by_words site kept done panel handed up other) (length (turn ∷ before))
      (λ effect_of b l. facts_same one other (length (turn ∷ before)) agree effect_of b l) kept done output before (omega arith))))
      ∙ ap (λ (words : ℕ → Word). faults_with words) (words_same one other (length (turn ∷ before)) agree before (omega arith))
    where
      unconfirmed_by : ℕ → List ℕ → Bool
      unconfirmed_by output run = on_output (λ o. is_confirming o.kind) (slice_get site.outputs output)
          && (has_lasted (routing_of site.format) run && not (is_confirmed_in run (confirmations output before)))

      -- by which outputs are unconfirmed
      faults_by : (ℕ → Bool) → FaultSet
      faults_by test =
          answered_faults site kept panel done (held_answers site panel (turn ∷ before)) (tick_of (turn ∷ before))
          (record (outside_by_words site kept done panel handed up one before) { unconfirmed = outputs_where site panel test })

      -- by the words
      faults_with : (ℕ → Word) → FaultSet
      faults_with words =
          answered_faults site kept panel done (held_answers site panel (turn ∷ before)) (tick_of (turn ∷ before))
          (outside_at site (facts_by_words site kept done panel handed up other) kept done (λ source. (words source).stamp.0) (up before) panel before)

  -- a greater bound tells no more
  bound_same : (n m : ℕ) (word : List Moment) → length word ≤ n → length word ≤ m
      → own_tells_to site kept done panel handed up n word ≡ own_tells_to site kept done panel handed up m word
  unfolding own_tells_to
  bound_same n m [] l k = refl
  bound_same zero m (turn ∷ before) l k = absurd (omega (arith, l))
  bound_same (suc n) zero (turn ∷ before) l k = absurd (omega (arith, k))
  bound_same (suc n) (suc m) (turn ∷ before) l k =
      ap has_fault (faults_same (own_tells_to site kept done panel handed up n) (own_tells_to site kept done panel handed up m) turn before
      (λ word s. bound_same n m word (omega (arith, s, l)) (omega (arith, s, k))))

  pub told_where_own : (turn : Moment) (before : List Moment)
      → own_tells site kept done panel handed up (turn ∷ before)
      ≡ has_fault (faults_at_word site kept done panel handed up (own_tells site kept done panel handed up) (turn ∷ before))
  unfolding own_tells_to
  told_where_own turn before =
      ap has_fault (faults_same (own_tells_to site kept done panel handed up (length before)) (own_tells site kept done panel handed up) turn before
      (λ word s. bound_same (length before) (length word) word (omega (arith, s)) (omega arith)))

pub own_told : OwnFaultsAreTold
own_told site kept done panel handed up turn before = told_where_own site kept done panel handed up turn before
