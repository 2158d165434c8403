-- What a panel is handed before its first so many moments alone goes into what it makes of them.
use Rattle.std.proofs.Common.{◌≡◌, ◌≤◌, ◌<◌, ◌==◌, ℕ, zero, suc, Bool, List, [], ◌∷◌, length, if◌then◌else◌, refl, ◌∙◌, ap, arith}
use Rattle.std.proofs.Math.Path.{fun_ext}
use Rattle.tick_units.specs.declared.task.Task.TheVariants.{Link}
use Rattle.site_types.specs.declared.retained.Retained.{Retained}
use Rattle.site_types.specs.declared.site.Site.{Site}
use Rattle.site_types.specs.declared.word.Word.{Word}
use Rattle.site_types.specs.Done.{Done}
use Rattle.panel_conditions.specs.Answered.{answered_faults}
use Rattle.panel_conditions.specs.Words.{has_fault}
use Rattle.panel_rules.specs.Faults.{outside_at}
use Rattle.panel_rules.specs.Kept.{made_at}
use Rattle.panel_rules.specs.Moments.{Moment, before_turn, tick_of}
use Rattle.panel_rules.specs.Outputs.{goes_on}
use Rattle.panel_rules.specs.Words.{word_made}
use Rattle.panel_rules.specs.Zones.{held_answers}
use Rattle.panel_rules.proofs.FaultsTold.{past_short}
use Rattle.panel_rules.proofs.KeptWords.{made_is}
use Rattle.panel_rules.proofs.Turns.{before_past}
use Rattle.later_operations.proofs.ByFacts.{goes_by_facts}
use Rattle.later_operations.proofs.ByOutputs.{outside_by_outputs}
use Rattle.later_operations.proofs.Earlier.{then_earlier}
use Rattle.node_rules.specs.Handed.{facts_by_words, facts_of_words, faults_at_word, outside_by_words, own_kept, own_tells, own_tells_to, words_held}

-- the word that a panel keeps of itself is no longer than what befell it
pub own_short : (panel : ℕ) (before : List Moment) → length (made_at panel (before_turn panel Link before)) ≤ length before
own_short panel before =
    let made = past_short (made_at panel (before_turn panel Link before)) (before_turn panel Link before) (made_is panel (before_turn panel Link before)).past in
    let turn = past_short (before_turn panel Link before) before (before_past panel Link before) in
    omega (arith, made, turn)

-- histories with fewer moments
abbrev pub IsBelow : ℕ → List Moment → Type 0
IsBelow count before = length before < count

pub below_tail : (count : ℕ) (moment : Moment) (before : List Moment) → IsBelow count (moment ∷ before) → IsBelow count before
below_tail count moment before below = omega (arith, below)

module _ (site : Site) (kept : Retained) (done : List Done) (panel : ℕ) (handed others : List Moment → ℕ → Word) (up up' : List Moment → ℕ → Bool) (count : ℕ)
    (words : (b : List Moment) → IsBelow count b → handed b ≡ others b) (links : (b : List Moment) → IsBelow count b → up b ≡ up' b) where
  -- two ways to tell faults that tell the same of words with no more moments
  abbrev AgreeUpTo : (List Moment → Bool) → (List Moment → Bool) → Type 0
  AgreeUpTo one other = (word : List Moment) → length word ≤ count → one word ≡ other word

  word_alike : (one other : List Moment → Bool) → AgreeUpTo one other → (word : List Moment) → length word ≤ count
      → word_made site kept done (λ source. one) panel word ≡ word_made site kept done (λ source. other) panel word
  word_alike one other agree [] l = refl
  word_alike one other agree (turn ∷ before) l = rw (agree (turn ∷ before) l) refl

  own_alike : (one other : List Moment → Bool) → AgreeUpTo one other → (b : List Moment) → length b ≤ count
      → own_kept site kept done panel handed up one b ≡ own_kept site kept done panel others up' other b
  own_alike one other agree b below =
      word_alike one other agree (made_at panel (before_turn panel Link b)) (let short = own_short panel b in omega (arith, short, below))

  held_alike : (one other : List Moment → Bool) → AgreeUpTo one other → (b : List Moment) → IsBelow count b
      → words_held site kept done panel handed up one b ≡ words_held site kept done panel others up' other b
  held_alike one other agree b below =
      fun_ext (λ source.
      ap (λ own. if source == panel then own else handed b source) (own_alike one other agree b (omega (arith, below)))
      ∙ ap (λ (w : ℕ → Word). if source == panel then own_kept site kept done panel others up' other b else w source) (words b below))

  facts_alike : (one other : List Moment → Bool) → AgreeUpTo one other → (q : ℕ) (b : List Moment) → IsBelow count b
      → facts_by_words site kept done panel handed up one q b ≡ facts_by_words site kept done panel others up' other q b
  facts_alike one other agree q b below = ap (facts_of_words site) (held_alike one other agree b below)

  goes_alike : (one other : List Moment → Bool) → AgreeUpTo one other → (output : ℕ) (b : List Moment) → IsBelow count b
      → goes_on site (facts_by_words site kept done panel handed up one) kept done output b
      ≡ goes_on site (facts_by_words site kept done panel others up' other) kept done output b
  goes_alike one other agree output b below =
      goes_by_facts (IsBelow count) (below_tail count) site (facts_by_words site kept done panel handed up one)
      (facts_by_words site kept done panel others up' other) (facts_alike one other agree) kept done output b below

  outside_alike : (one other : List Moment → Bool) → AgreeUpTo one other → (b : List Moment) → IsBelow count b
      → outside_by_words site kept done panel handed up one b ≡ outside_by_words site kept done panel others up' other b
  outside_alike one other agree b below =
      ap (λ (w : ℕ → Word). outside_at site (facts_by_words site kept done panel handed up one) kept done (λ source. (w source).stamp.0) (up b) panel b)
      (held_alike one other agree b below)
      ∙ ap (λ (u : ℕ → Bool). outside_at site (facts_by_words site kept done panel handed up one) kept done
      (λ source. (words_held site kept done panel others up' other b source).stamp.0) u panel b) (links b below)
      ∙ outside_by_outputs (IsBelow count) (below_tail count) site (facts_by_words site kept done panel handed up one)
      (facts_by_words site kept done panel others up' other) kept done done (goes_alike one other agree)
      (λ source. (words_held site kept done panel others up' other b source).stamp.0) (up' b) panel b (then_earlier (IsBelow count) (below_tail count) b below)

  faults_alike : (one other : List Moment → Bool) → AgreeUpTo one other → (word : List Moment) → length word ≤ count
      → faults_at_word site kept done panel handed up one word ≡ faults_at_word site kept done panel others up' other word
  faults_alike one other agree [] l = refl
  faults_alike one other agree (turn ∷ before) l =
      ap (answered_faults site kept panel done (held_answers site panel (turn ∷ before)) (tick_of (turn ∷ before)))
      (outside_alike one other agree before (omega (arith, l)))

  tells_to : (bound : ℕ) → AgreeUpTo (own_tells_to site kept done panel handed up bound) (own_tells_to site kept done panel others up' bound)
  unfolding own_tells_to
  tells_to bound [] l = refl
  tells_to zero (turn ∷ before) l = refl
  tells_to (suc bound) (turn ∷ before) l =
      ap has_fault (faults_alike (own_tells_to site kept done panel handed up bound) (own_tells_to site kept done panel others up' bound)
      (tells_to bound) (turn ∷ before) l)

  tells : AgreeUpTo (own_tells site kept done panel handed up) (own_tells site kept done panel others up')
  tells word l = tells_to (length word) word l

  -- the words that turns go by, and the one that it keeps of itself
  pub words_came : (b : List Moment) → IsBelow count b
      → words_held site kept done panel handed up (own_tells site kept done panel handed up) b
      ≡ words_held site kept done panel others up' (own_tells site kept done panel others up') b
  words_came b below = held_alike (own_tells site kept done panel handed up) (own_tells site kept done panel others up') tells b below

  pub own_came : (b : List Moment) → length b ≤ count
      → own_kept site kept done panel handed up (own_tells site kept done panel handed up) b
      ≡ own_kept site kept done panel others up' (own_tells site kept done panel others up') b
  own_came b l = own_alike (own_tells site kept done panel handed up) (own_tells site kept done panel others up') tells b l

  -- and a word that it made
  pub word_came : (word : List Moment) → length word ≤ count
      → word_made site kept done (λ source. own_tells site kept done panel handed up) panel word
      ≡ word_made site kept done (λ source. own_tells site kept done panel others up') panel word
  word_came word l = word_alike (own_tells site kept done panel handed up) (own_tells site kept done panel others up') tells word l
