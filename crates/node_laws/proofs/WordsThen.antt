-- A turn goes by the words that the panel kept when it was made.
use Rattle.std.proofs.Common.{◌≡◌, ◌∙◌, ◌++◌, ◌==◌, not, ℕ, zero, suc, Bool, List, [], ◌∷◌, length, if◌then◌else◌, refl, ap}
use Rattle.std.proofs.Math.Path.{fun_ext}
use Rattle.tick_units.specs.declared.task.Task.TheVariants.{Link}
use Rattle.site_types.specs.declared.retained.Retained.{Retained}
use Rattle.site_types.specs.declared.site.Site.{Site}
use Rattle.site_types.specs.declared.word.Word.{Word}
use Rattle.site_types.specs.Done.{Done}
use Rattle.site_types.specs.Profile.{silent_of}
use Rattle.coincidence_rules.proofs.Later.{from_earlier}
use Rattle.panel_conditions.specs.Answered.{answered_faults}
use Rattle.panel_conditions.specs.Words.{has_fault}
use Rattle.panel_rules.specs.Faults.{outside_at}
use Rattle.panel_rules.specs.Kept.{made_at}
use Rattle.panel_rules.specs.Moments.{Moment, IsPast, before_turn, later, present, tick_of}
use Rattle.panel_rules.specs.Operations.{operations}
use Rattle.panel_rules.specs.Outputs.{goes_on}
use Rattle.panel_rules.specs.Words.{word_made}
use Rattle.panel_rules.specs.Zones.{held_answers}
use Rattle.panel_rules.proofs.FaultsTold.{past_short}
use Rattle.panel_rules.proofs.KeptWords.{made_is}
use Rattle.panel_rules.proofs.Turns.{before_past, past_on, tick_rises}
use Rattle.panel_laws.proofs.LaterDone.{Grew, from_both, join, next_grew}
use Rattle.later_operations.proofs.ByFacts.{goes_by_facts}
use Rattle.later_operations.proofs.ByOutputs.{outside_by_outputs}
use Rattle.later_operations.proofs.DoneFrom.{are_done_from}
use Rattle.later_operations.proofs.Earlier.{then_earlier}
use Rattle.kept_words.specs.Arrivals.{counts_as_down, word_kept}
use Rattle.node_rules.specs.Handed.{facts_by_words, facts_of_words, faults_at_word, outside_by_words, own_kept, own_tells, own_tells_to, words_held}
use Rattle.node_rules.specs.Histories.{Befell, IsPartOf, NodeMoment, befallen, frames_in}
use Rattle.node_rules.specs.Nodes.{node_done, node_up, node_word, node_words}
use Rattle.node_rules.proofs.LaterHanded.{handed_stays}
use Rattle.node_rules.proofs.Parts.{part_whole}
use Rattle.node_rules.proofs.RingParts.{past_tail}
use Rattle.node_laws.specs.WordsKept.{TurnsGoByWordsKept}
use Rattle.node_laws.proofs.PartsOf.{cut_alike, part_past, part_tail}

-- ---- what was handed up to a moment decides all that goes by it up to that moment

module _ (site : Site) (kept : Retained) (done : List Done) (panel : ℕ) (handed handed' : List Moment → ℕ → Word) (up up' : List Moment → ℕ → Bool)
    (end : List Moment) (words : (past : List Moment) → IsPast past end → (source : ℕ) → handed past source ≡ handed' past source)
    (links : (past : List Moment) → IsPast past end → (link : ℕ) → up past link ≡ up' past link) where
  -- an earlier part of it
  abbrev Behind : List Moment → Type 0
  Behind past = IsPast past end

  tail : (moment : Moment) (before : List Moment) → Behind (moment ∷ before) → Behind before
  tail moment before q = past_tail moment before end q

  -- two ways to tell faults that tell the same of all words that were made by then
  abbrev AgreeBehind : (List Moment → Bool) → (List Moment → Bool) → Type 0
  AgreeBehind one other = (word : List Moment) → Behind word → one word ≡ other word

  word_same : (one other : List Moment → Bool) → AgreeBehind one other → (word : List Moment) → Behind word
      → word_made site kept done (λ source. one) panel word ≡ word_made site kept done (λ source. other) panel word
  word_same one other agree [] q = refl
  word_same one other agree (turn ∷ before) q = rw (agree (turn ∷ before) q) refl

  own_same : (one other : List Moment → Bool) → AgreeBehind one other → (before : List Moment) → Behind before
      → own_kept site kept done panel handed up one before ≡ own_kept site kept done panel handed' up' other before
  own_same one other agree before q =
      let turn = before_turn panel Link before in
      word_same one other agree (made_at panel (before_turn panel Link before))
      (past_on (made_at panel (before_turn panel Link before)) before end
      (past_on (made_at panel (before_turn panel Link before)) (before_turn panel Link before) before (made_is panel (before_turn panel Link before)).past
      (before_past panel Link before)) q)

  pub held_same : (one other : List Moment → Bool) → AgreeBehind one other → (before : List Moment) → Behind before
      → words_held site kept done panel handed up one before ≡ words_held site kept done panel handed' up' other before
  held_same one other agree before q =
      fun_ext (λ source. ap (λ own. if source == panel then own else handed before source) (own_same one other agree before q)
      ∙ ap (λ word. if source == panel then own_kept site kept done panel handed' up' other before else word) (words before q source))

  facts_same : (one other : List Moment → Bool) → AgreeBehind one other → (effect_of : ℕ) (before : List Moment) → Behind before
      → facts_by_words site kept done panel handed up one effect_of before ≡ facts_by_words site kept done panel handed' up' other effect_of before
  facts_same one other agree effect_of before q = ap (facts_of_words site) (held_same one other agree before q)

  goes_same : (one other : List Moment → Bool) → AgreeBehind one other → (output : ℕ) (before : List Moment) → Behind before
      → goes_on site (facts_by_words site kept done panel handed up one) kept done output before
      ≡ goes_on site (facts_by_words site kept done panel handed' up' other) kept done output before
  goes_same one other agree output before q =
      goes_by_facts Behind tail site (facts_by_words site kept done panel handed up one) (facts_by_words site kept done panel handed' up' other)
      (facts_same one other agree) kept done output before q

  outside_same : (one other : List Moment → Bool) → AgreeBehind one other → (before : List Moment) → Behind before
      → outside_by_words site kept done panel handed up one before ≡ outside_by_words site kept done panel handed' up' other before
  outside_same one other agree before q =
      ap (λ (held : ℕ → Word). outside_at site (facts_by_words site kept done panel handed up one) kept done (λ source. (held source).stamp.0)
      (up before) panel before) (held_same one other agree before q)
      ∙ ap (λ (now : ℕ → Bool). outside_at site (facts_by_words site kept done panel handed up one) kept done
      (λ source. (words_held site kept done panel handed' up' other before source).stamp.0) now panel before) (fun_ext (links before q))
      ∙ outside_by_outputs Behind tail site (facts_by_words site kept done panel handed up one) (facts_by_words site kept done panel handed' up' other)
      kept done done (goes_same one other agree) (λ source. (words_held site kept done panel handed' up' other before source).stamp.0) (up' before)
      panel before (then_earlier Behind tail before q)

  faults_same : (one other : List Moment → Bool) → AgreeBehind one other → (word : List Moment) → Behind word
      → faults_at_word site kept done panel handed up one word ≡ faults_at_word site kept done panel handed' up' other word
  faults_same one other agree [] q = refl
  faults_same one other agree (turn ∷ before) q =
      ap (answered_faults site kept panel done (held_answers site panel (turn ∷ before)) (tick_of (turn ∷ before)))
      (outside_same one other agree before (tail turn before q))

  tells_to_same : (bound : ℕ) → AgreeBehind (own_tells_to site kept done panel handed up bound) (own_tells_to site kept done panel handed' up' bound)
  unfolding own_tells_to
  tells_to_same bound [] q = refl
  tells_to_same zero (turn ∷ before) q = refl
  tells_to_same (suc bound) (turn ∷ before) q =
      ap has_fault (faults_same (own_tells_to site kept done panel handed up bound) (own_tells_to site kept done panel handed' up' bound)
      (tells_to_same bound) (turn ∷ before) q)

  pub tells_same : AgreeBehind (own_tells site kept done panel handed up) (own_tells site kept done panel handed' up')
  tells_same word q = tells_to_same (length word) word q

-- ---- operations that are done later

grew_since : (site : Site) (kept : Retained) (past moments : List Moment) → IsPast past moments
    → Grew (operations site kept past).done (operations site kept moments).done (tick_of past)
grew_since site kept past moments present = record { new = []; is = refl; from = tt }
grew_since site kept past moments (later moment before h) =
    let so_far = grew_since site kept past before h in
    let next = next_grew site kept moment before in
    record {
      new = next.new ++ so_far.new;
      is = next.is ∙ ap (λ done. next.new ++ done) so_far.is ∙ join next.new so_far.new (operations site kept past).done;
      from =
          from_both (tick_of past) next.new so_far.new (from_earlier (tick_of past) (tick_of before) next.new (tick_rises past before h) next.from)
          so_far.from;
    }

module _ (site : Site) (panel : ℕ) (kept : Retained) (history before : List NodeMoment) (moment : Moment)
    (part : IsPartOf (Befell moment ∷ before) history) where
  behind : IsPast (befallen before) (befallen history)
  behind = part_past before history (part_tail (Befell moment) before history part)

  words_alike : (past : List Moment) → IsPast past (befallen before) → (source : ℕ) → node_words site panel history past source
      ≡ node_words site panel before past source
  words_alike past q source =
      ap (λ h. word_kept panel source (frames_in h)) (cut_alike before moment history part (length past) (past_short past (befallen before) q))

  links_alike : (past : List Moment) → IsPast past (befallen before) → (link : ℕ) → node_up site panel history past link
      ≡ node_up site panel before past link
  links_alike past q link =
      ap (λ (h : List NodeMoment). link_up h) (cut_alike before moment history part (length past) (past_short past (befallen before) q))
    where
      link_up : List NodeMoment → Bool
      link_up h = not (counts_as_down site.panels panel (frames_in h) (tick_of past) (silent_of site.format) link)

  -- its own word, by the operations that were done by then
  own_then : own_kept site kept (node_done site panel history kept) panel (node_words site panel before) (node_up site panel before)
      (own_tells site kept (node_done site panel history kept) panel (node_words site panel before) (node_up site panel before)) (befallen before)
      ≡ own_kept site kept (node_done site panel before kept) panel (node_words site panel before) (node_up site panel before)
      (own_tells site kept (node_done site panel before kept) panel (node_words site panel before) (node_up site panel before)) (befallen before)
  own_then =
      let grew = grew_since site kept (befallen before) (befallen history) behind in
      let turn = before_turn panel Link (befallen before) in
      ap (λ done. own_kept site kept done panel (node_words site panel before) (node_up site panel before)
      (own_tells site kept done panel (node_words site panel before) (node_up site panel before)) (befallen before)) grew.is
      ∙ (handed_stays site kept panel (node_words site panel before) (node_up site panel before)).word (tick_of (befallen before)) grew.new
      (node_done site panel before kept) (before_turn panel Link (befallen before)) (are_done_from (tick_of (befallen before)) grew.new grew.from)
      (tick_rises (before_turn panel Link (befallen before)) (befallen before) (before_past panel Link (befallen before)))

  pub words_then : (source : ℕ)
      → words_held site kept (node_done site panel history kept) panel (node_words site panel history) (node_up site panel history)
      (own_tells site kept (node_done site panel history kept) panel (node_words site panel history) (node_up site panel history)) (befallen before)
      source ≡ node_word site panel before kept source
  words_then source =
      ap (λ (held : ℕ → Word). held source)
      (held_same site kept (node_done site panel history kept) panel (node_words site panel history) (node_words site panel before)
      (node_up site panel history) (node_up site panel before) (befallen before) words_alike links_alike _ _
      (tells_same site kept (node_done site panel history kept) panel (node_words site panel history) (node_words site panel before)
      (node_up site panel history) (node_up site panel before) (befallen before) words_alike links_alike) (befallen before) present)
      ∙ ap (λ own. if source == panel then own else node_words site panel before (befallen before) source) own_then
      ∙ ap (λ h. if source == panel then own_kept site kept (node_done site panel before kept) panel (node_words site panel before)
      (node_up site panel before)
      (own_tells site kept (node_done site panel before kept) panel (node_words site panel before) (node_up site panel before)) (befallen before)
      else word_kept panel source (frames_in h)) (part_whole before)

pub by_words_kept : TurnsGoByWordsKept
by_words_kept site panel kept history before moment part = record {
  words = words_then site panel kept history before moment part;
  facts = λ effect_of. ap (facts_of_words site) (fun_ext (words_then site panel kept history before moment part));
}
