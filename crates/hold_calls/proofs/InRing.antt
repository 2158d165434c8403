-- What a panel in the ring is told shows what the rules say.
use Rattle.std.proofs.Common.{◌≡◌, ◌∙◌, ◌==◌, ◌&&◌, ℕ, List, [], ◌∷◌, ap, refl, subst, sym}
use Rattle.std.specs.Prelude.{nat_lt, if◌then◌else◌}
use Rattle.tick_units.specs.declared.task.Task.TheVariants.{Hold}
use Rattle.site_types.specs.declared.fault_set.FaultSet.{FaultSet}
use Rattle.site_types.specs.declared.retained.Retained.{Retained}
use Rattle.site_types.specs.declared.site.Site.{Site}
use Rattle.site_types.specs.declared.word.Word.{Word}
use Rattle.site_types.specs.Done.{Done, muted_before}
use Rattle.panel_bridges.proofs.NoFaultsYet.{no_faults_yet}
use Rattle.panel_conditions.specs.Answered.{answered_word}
use Rattle.panel_conditions.specs.Shown.{is_news, sounds}
use Rattle.panel_rules.specs.Faces.{buzzer_of, last_news, shows_news}
use Rattle.panel_rules.specs.Kept.{made_at}
use Rattle.panel_rules.specs.Moments.{Moment, Began, Happened, Turned, Kept, latest_turn, tick_of}
use Rattle.panel_rules.specs.Run.{faults_of, faults_with, tells_fault}
use Rattle.panel_rules.specs.Words.{latest_word, word_made}
use Rattle.panel_rules.specs.Zones.{held_answers}
use Rattle.panel_rules.proofs.FaultsTold.{told_where}
use Rattle.panel_rules.proofs.KeptWords.{IsMade, nothing, in_turn, made_is}
use Rattle.hold_calls.specs.Shown.{buzzer_told, fault_told, faults_told, latest_faults, news_told, is_news_told, word_told}
use Rattle.hold_calls.specs.Told.{told_in_ring}

-- equal words and faults have the same news
pub news_alike : (word word' earlier earlier' : Word) (faults faults' past past' : FaultSet) → word ≡ word' → faults ≡ faults' → earlier ≡ earlier'
    → past ≡ past' → is_news word faults earlier past ≡ is_news word' faults' earlier' past'
news_alike word word' earlier earlier' faults faults' past past' a b c d =
    ap (λ w. is_news w faults earlier past) a
    ∙ ap (λ f. is_news word' f earlier past) b
    ∙ ap (λ w. is_news word' faults' w past) c
    ∙ ap (λ f. is_news word' faults' earlier' f) d

module _ (site : Site) (kept : Retained) (done : List Done) (panel : ℕ) where
  -- a turn of Hold changes nothing of what it is told: not what was heard, links, supplies, loops or outputs
  faults_of_word : (word : List Moment) → IsMade panel word
      → faults_told site kept done (told_in_ring site kept done panel) panel word ≡ faults_with site kept done (tells_fault site kept done) panel word
  faults_of_word word (nothing e) =
      subst (λ w. faults_told site kept done (told_in_ring site kept done panel) panel w
      ≡ faults_with site kept done (tells_fault site kept done) panel w) (sym e) (no_faults_yet site kept done panel)
  faults_of_word word (in_turn before e) =
      subst (λ w. faults_told site kept done (told_in_ring site kept done panel) panel w
      ≡ faults_with site kept done (tells_fault site kept done) panel w) (sym e) refl

  pub faults_in_ring : (before : List Moment)
      → latest_faults site kept done (told_in_ring site kept done panel) panel before ≡ faults_of site kept done panel before
  faults_in_ring before = faults_of_word (made_at panel before) (made_is panel before).made

  -- a word made in a turn tells a fault where the rules do
  fault_now : (before : List Moment) → fault_told site kept done (told_in_ring site kept done panel) panel (Turned panel Hold ∷ before)
      ≡ tells_fault site kept done panel (Turned panel Hold ∷ before)
  fault_now before = sym (told_where site kept done panel (Turned panel Hold) before)

  word_of_turn : (word : List Moment) → IsMade panel word
      → word_made site kept done (λ source. fault_told site kept done (told_in_ring site kept done panel) panel) panel word
      ≡ word_made site kept done (tells_fault site kept done) panel word
  word_of_turn word (nothing e) =
      subst (λ w. word_made site kept done (λ source. fault_told site kept done (told_in_ring site kept done panel) panel) panel w
      ≡ word_made site kept done (tells_fault site kept done) panel w) (sym e) refl
  word_of_turn word (in_turn before e) =
      subst (λ w. word_made site kept done (λ source. fault_told site kept done (told_in_ring site kept done panel) panel) panel w
      ≡ word_made site kept done (tells_fault site kept done) panel w) (sym e)
      (ap (answered_word site kept panel done (held_answers site panel (Turned panel Hold ∷ before)) (tick_of before)) (fault_now before))

  pub word_in_ring : (before : List Moment)
      → word_told site kept done (told_in_ring site kept done panel) panel before ≡ latest_word site kept done (tells_fault site kept done) panel before
  word_in_ring before = word_of_turn (made_at panel before) (made_is panel before).made

  news_now : (before : List Moment)
      → is_news_told site kept done (told_in_ring site kept done panel) panel before ≡ shows_news site kept done panel before
  news_now before =
      news_alike _ _ _ _ _ _ _ _ (word_in_ring (Turned panel Hold ∷ before)) (faults_in_ring (Turned panel Hold ∷ before))
      (word_in_ring before) (faults_in_ring before)

  pub news_in_ring : (before : List Moment)
      → news_told site kept done (told_in_ring site kept done panel) panel before ≡ last_news site kept done panel before
  news_in_ring [] = refl
  news_in_ring (Began ∷ before) = news_in_ring before
  news_in_ring (Happened event ∷ before) = news_in_ring before
  news_in_ring (Turned other Hold ∷ before) =
      ap (λ b. if (other == panel) && b then tick_of before else news_told site kept done (told_in_ring site kept done panel) panel before)
      (news_now before)
      ∙ ap (λ n. if (other == panel) && shows_news site kept done panel before then tick_of before else n) (news_in_ring before)
  news_in_ring (Turned other task ∷ before) = news_in_ring before
  news_in_ring (Kept failed ∷ before) = news_in_ring before

  pub buzzer_in_ring : (before : List Moment)
      → buzzer_told site kept done (told_in_ring site kept done panel) panel before ≡ buzzer_of site kept done panel before
  buzzer_in_ring before =
      ap (λ w. sounds w (nat_lt (muted_before panel (latest_turn panel Hold before) done)
      (news_told site kept done (told_in_ring site kept done panel) panel before))) (word_in_ring before)
      ∙ ap (λ n. sounds (latest_word site kept done (tells_fault site kept done) panel before)
      (nat_lt (muted_before panel (latest_turn panel Hold before) done) n)) (news_in_ring before)
