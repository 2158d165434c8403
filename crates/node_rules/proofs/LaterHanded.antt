-- What is done in a tick or later changes nothing of what a panel was handed up to that tick, nor of what goes by it.
use Rattle.std.proofs.Common.{◌≡◌, ◌≤◌, ◌==◌, ◌&&◌, ◌++◌, not, ℕ, zero, suc, Bool, List, [], ◌∷◌, length, if◌then◌else◌, refl, ◌∙◌, ap, arith}
use Rattle.std.proofs.Math.Path.{fun_ext}
use Rattle.tick_units.specs.declared.task.Task.TheVariants.{Hold, Link}
use Rattle.site_types.specs.declared.retained.Retained.{Retained}
use Rattle.site_types.specs.declared.site.Site.{Site}
use Rattle.site_types.specs.declared.word.Word.{Word}
use Rattle.site_types.specs.Done.{Done}
use Rattle.site_types.proofs.LaterDone.{AreFrom}
use Rattle.coincidence_rules.specs.Missing.{is_missing}
use Rattle.panel_conditions.specs.Answered.{answered_word}
use Rattle.panel_conditions.specs.Missing.{is_off}
use Rattle.panel_conditions.specs.Points.{points_where}
use Rattle.panel_conditions.specs.Words.{has_fault, with_missing}
use Rattle.panel_rules.specs.Faults.{outside_at}
use Rattle.panel_rules.specs.Kept.{made_at}
use Rattle.panel_rules.specs.Moments.{Moment, before_turn, tick_of}
use Rattle.panel_rules.specs.Outputs.{goes_on}
use Rattle.panel_rules.specs.Words.{word_made}
use Rattle.panel_rules.specs.Zones.{held_answers}
use Rattle.panel_rules.proofs.KeptWords.{latest_by, made_tick}
use Rattle.panel_rules.proofs.Turns.{before_tick}
use Rattle.later_operations.proofs.ByFacts.{goes_by_facts}
use Rattle.later_operations.proofs.ByOutputs.{outside_by_outputs}
use Rattle.later_operations.proofs.DoneFrom.{are_from}
use Rattle.later_operations.proofs.Earlier.{then_earlier, up_to_tick}
use Rattle.later_operations.proofs.GoesOn.{goes_later}
use Rattle.later_operations.proofs.Signs.{missing_later, signs_later}
use Rattle.later_operations.proofs.EarlierWords.{IsUpTo}
use Rattle.node_rules.specs.Handed.{facts_by_words, facts_of_words, faults_at_word, outside_by_words, own_tells, own_tells_to, words_held}
use Rattle.node_rules.specs.HandedStays.{WhatIsHandedStays}

made_by : (x panel : ℕ) (m : List Moment) → tick_of m ≤ x → tick_of (made_at panel m) ≤ x
made_by x panel m by =
    let made = made_tick panel m in
    let latest = latest_by panel Hold m in
    omega (arith, by, made, latest)

own_by : (x panel : ℕ) (m : List Moment) → tick_of m ≤ x → tick_of (made_at panel (before_turn panel Link m)) ≤ x
own_by x panel m by =
    let turn = before_tick panel Link m in
    let latest = latest_by panel Link m in
    made_by x panel (before_turn panel Link m) (omega (arith, by, turn, latest))

module _ (site : Site) (kept : Retained) (panel : ℕ) (handed : List Moment → ℕ → Word) (up : List Moment → ℕ → Bool) (new old : List Done) (x : ℕ)
    (from : AreFrom x new) where
  -- two ways to tell faults that tell the same of words up to the tick
  abbrev AgreeBy : (List Moment → Bool) → (List Moment → Bool) → Type 0
  AgreeBy one other = (m : List Moment) → tick_of m ≤ x → one m ≡ other m

  word_later : (one other : List Moment → Bool) → AgreeBy one other → (m : List Moment) → tick_of m ≤ x
      → word_made site kept (new ++ old) (λ source. one) panel m ≡ word_made site kept old (λ source. other) panel m
  word_later one other agree [] by = refl
  word_later one other agree (moment ∷ before) by =
      signs_later site kept new old x from panel (moment ∷ before) (one (moment ∷ before)) by
      ∙ ap (answered_word site kept panel old (held_answers site panel (moment ∷ before)) (tick_of (moment ∷ before))) (agree (moment ∷ before) by)

  words_later : (one other : List Moment → Bool) → AgreeBy one other → (b : List Moment) → tick_of b ≤ x
      → words_held site kept (new ++ old) panel handed up one b ≡ words_held site kept old panel handed up other b
  words_later one other agree b by =
      fun_ext (λ source. ap (λ own. if source == panel then own else handed b source)
      (word_later one other agree (made_at panel (before_turn panel Link b)) (own_by x panel b by)))

  facts_later : (one other : List Moment → Bool) → AgreeBy one other → (q : ℕ) (b : List Moment) → tick_of b ≤ x
      → facts_by_words site kept (new ++ old) panel handed up one q b ≡ facts_by_words site kept old panel handed up other q b
  facts_later one other agree q b by = ap (facts_of_words site) (words_later one other agree b by)

  goes_stays : (one other : List Moment → Bool) → AgreeBy one other → (output : ℕ) (b : List Moment) → tick_of b ≤ x
      → goes_on site (facts_by_words site kept (new ++ old) panel handed up one) kept (new ++ old) output b
      ≡ goes_on site (facts_by_words site kept old panel handed up other) kept old output b
  goes_stays one other agree output b by =
      goes_by_facts (IsUpTo x) (up_to_tick x) site (facts_by_words site kept (new ++ old) panel handed up one)
      (facts_by_words site kept old panel handed up other) (facts_later one other agree) kept (new ++ old) output b by
      ∙ goes_later site (facts_by_words site kept old panel handed up other) kept new old x from output b by

  outside_later : (one other : List Moment → Bool) → AgreeBy one other → (b : List Moment) → tick_of b ≤ x
      → outside_by_words site kept (new ++ old) panel handed up one b ≡ outside_by_words site kept old panel handed up other b
  outside_later one other agree b by =
      ap (λ (words : ℕ → Word). outside_at site (facts_by_words site kept (new ++ old) panel handed up one) kept (new ++ old)
      (λ source. (words source).stamp.0) (up b) panel b) (words_later one other agree b by)
      ∙ outside_by_outputs (IsUpTo x) (up_to_tick x) site (facts_by_words site kept (new ++ old) panel handed up one)
      (facts_by_words site kept old panel handed up other) kept (new ++ old) old (goes_stays one other agree)
      (λ source. (words_held site kept old panel handed up other b source).stamp.0) (up b) panel b (then_earlier (IsUpTo x) (up_to_tick x) b by)

  faults_later : (one other : List Moment → Bool) → AgreeBy one other → (m : List Moment) → tick_of m ≤ x
      → faults_at_word site kept (new ++ old) panel handed up one m ≡ faults_at_word site kept old panel handed up other m
  faults_later one other agree [] by = refl
  faults_later one other agree (turn ∷ before) by =
      let m = turn ∷ before in
      ap (λ missing. with_missing missing (outside_by_words site kept (new ++ old) panel handed up one before)) (missing_later site kept new old x from panel m by)
      ∙ ap (with_missing (points_where site panel (λ place. is_missing (held_answers site panel m) place && not (is_off site kept old place (tick_of m)))))
      (outside_later one other agree before (up_to_tick x turn before by))

  tells_to_later : (bound : ℕ) → AgreeBy (own_tells_to site kept (new ++ old) panel handed up bound) (own_tells_to site kept old panel handed up bound)
  unfolding own_tells_to
  tells_to_later bound [] by = refl
  tells_to_later zero (turn ∷ before) by = refl
  tells_to_later (suc bound) (turn ∷ before) by =
      ap has_fault (faults_later (own_tells_to site kept (new ++ old) panel handed up bound) (own_tells_to site kept old panel handed up bound)
      (tells_to_later bound) (turn ∷ before) by)

  tells_later : AgreeBy (own_tells site kept (new ++ old) panel handed up) (own_tells site kept old panel handed up)
  tells_later m by = tells_to_later (length m) m by

pub handed_stays : WhatIsHandedStays
handed_stays site kept panel handed up = record {
  facts = λ effect_of tick new old m from by.
      facts_later site kept panel handed up new old tick (are_from tick new from) (own_tells site kept (new ++ old) panel handed up)
      (own_tells site kept old panel handed up) (tells_later site kept panel handed up new old tick (are_from tick new from)) effect_of m by;
  outside = λ tick new old m from by.
      outside_later site kept panel handed up new old tick (are_from tick new from) (own_tells site kept (new ++ old) panel handed up)
      (own_tells site kept old panel handed up) (tells_later site kept panel handed up new old tick (are_from tick new from)) m by;
  word = λ tick new old m from by.
      word_later site kept panel handed up new old tick (are_from tick new from) (own_tells site kept (new ++ old) panel handed up)
      (own_tells site kept old panel handed up) (tells_later site kept panel handed up new old tick (are_from tick new from)) (made_at panel m)
      (made_by tick panel m by);
  faults = λ tick new old m from by.
      faults_later site kept panel handed up new old tick (are_from tick new from) (own_tells site kept (new ++ old) panel handed up)
      (own_tells site kept old panel handed up) (tells_later site kept panel handed up new old tick (are_from tick new from)) (made_at panel m)
      (made_by tick panel m by);
}
