-- The last news that a panel's Hold tells, and so how its buzzer sounds: by what its turns are told, and in the ring as the rules say.
use Rattle.std.proofs.Common.{◌≡◌, ◌∙◌, ◌&&◌, ℕ, List, [], ◌∷◌, inl, inr, ap, refl, subst, sym}
use Rattle.std.specs.Prelude.{nat_lt, if◌then◌else◌}
use Rattle.std.proofs.lemmas.Bool.Decides.{eqb_tells}
use Rattle.tick_units.specs.declared.task.Task.TheVariants.{Hold}
use Rattle.site_types.specs.declared.retained.Retained.{Retained}
use Rattle.site_types.specs.declared.site.Site.{Site}
use Rattle.site_types.specs.Done.{Done, muted_before}
use Rattle.site_types.specs.Valid.{IsValid}
use Rattle.panel_conditions.specs.Shown.{is_news, last_news, sounds}
use Rattle.panel_conditions.specs.Turns.{latest_tick}
use Rattle.panel_conditions.specs.Words.{faults_after, word_after}
use Rattle.panel_rules.specs.Moments.{Moment, Began, Happened, Turned, Kept, IsPanel, IsRun, latest_turn, tick_of}
use Rattle.panel_rules.proofs.AnswersTell.{eq_true}
use Rattle.hold_calls.specs.HoldLaws.{HeldBuzzer, HeldNews}
use Rattle.hold_calls.specs.Shown.{news_told, is_news_told, word_told}
use Rattle.hold_calls.specs.Told.{Told, told_in_ring}
use Rattle.hold_calls.specs.ToldLaws.{ToldBuzzer, ToldNews}
use Rattle.hold_calls.specs.Turns.{hold_turn, hold_turns}
use Rattle.hold_calls.proofs.FaultsHeld.{faults_by_told}
use Rattle.hold_calls.proofs.InRing.{buzzer_in_ring, news_alike, news_in_ring}
use Rattle.hold_calls.proofs.TurnsMade.{own_turn, turns_tick}
use Rattle.hold_calls.proofs.WordsHeld.{word_by_told}

module _ (site : Site) (kept : Retained) (done : List Done) (told : Told) (panel : ℕ) (valid : IsValid site) (member : IsPanel site.panels panel) where
  word_is : (before : List Moment) → IsRun site.panels before
      → word_after site kept panel done (hold_turns site kept done told panel before) ≡ word_told site kept done told panel before
  word_is before run = word_by_told site kept done told panel before valid member run

  -- whether a turn made now has news
  news_now : (before : List Moment) → IsRun site.panels (Turned panel Hold ∷ before)
      → is_news (word_after site kept panel done (hold_turn site kept done told panel before ∷ hold_turns site kept done told panel before))
      (faults_after site kept panel done (hold_turn site kept done told panel before ∷ hold_turns site kept done told panel before))
      (word_after site kept panel done (hold_turns site kept done told panel before))
      (faults_after site kept panel done (hold_turns site kept done told panel before))
      ≡ is_news_told site kept done told panel before
  news_now before run =
      news_alike _ _ _ _ _ _ _ _
      (ap (word_after site kept panel done) (sym (own_turn site kept done told panel before)) ∙ word_is (Turned panel Hold ∷ before) run)
      (ap (faults_after site kept panel done) (sym (own_turn site kept done told panel before))
      ∙ faults_by_told site kept done told panel (Turned panel Hold ∷ before))
      (word_is before run.0)
      (faults_by_told site kept done told panel before)

  told_now : (before : List Moment) → IsRun site.panels (Turned panel Hold ∷ before)
      → last_news site kept panel done (hold_turns site kept done told panel before) ≡ news_told site kept done told panel before
      → last_news site kept panel done (hold_turns site kept done told panel (Turned panel Hold ∷ before))
      ≡ news_told site kept done told panel (Turned panel Hold ∷ before)
  told_now before run ih =
      ap (last_news site kept panel done) (own_turn site kept done told panel before)
      ∙ ap (λ b. if b then tick_of before else last_news site kept panel done (hold_turns site kept done told panel before)) (news_now before run)
      ∙ ap (λ n. if is_news_told site kept done told panel before then tick_of before else n) ih
      ∙ ap (λ b. if b && is_news_told site kept done told panel before then tick_of before else news_told site kept done told panel before)
      (sym (eq_true panel panel refl))

  news_tell : (before : List Moment) → IsRun site.panels before
      → last_news site kept panel done (hold_turns site kept done told panel before) ≡ news_told site kept done told panel before
  news_tell [] run = refl
  news_tell (Began ∷ before) run = news_tell before run.0
  news_tell (Happened event ∷ before) run = news_tell before run.0
  news_tell (Turned other Hold ∷ before) run =
      elim (eqb_tells other panel) [
        | inl t ↦
            subst (λ p. last_news site kept panel done (hold_turns site kept done told panel (Turned p Hold ∷ before))
            ≡ news_told site kept done told panel (Turned p Hold ∷ before)) (sym t.1)
            (told_now before (subst (λ p. IsRun site.panels (Turned p Hold ∷ before)) t.1 run) (news_tell before run.0))
        | inr t ↦ rw t.0 (news_tell before run.0)
      ]
  news_tell (Turned other task ∷ before) run = news_tell before run.0
  news_tell (Kept failed ∷ before) run = news_tell before run.0

pub news_by_told : ToldNews
news_by_told site kept done told panel before valid member run = news_tell site kept done told panel valid member before run

pub buzzer_by_told : ToldBuzzer
buzzer_by_told site kept done told panel before valid member run =
    let turns = hold_turns site kept done told panel before in
    let word = word_told site kept done told panel before in
    ap (λ w. sounds w (nat_lt (muted_before panel (latest_tick turns) done) (last_news site kept panel done turns)))
    (word_by_told site kept done told panel before valid member run)
    ∙ ap (λ t. sounds word (nat_lt (muted_before panel t done) (last_news site kept panel done turns))) (turns_tick site kept done told panel before)
    ∙ ap (λ n. sounds word (nat_lt (muted_before panel (latest_turn panel Hold before) done) n))
    (news_by_told site kept done told panel before valid member run)

pub news_held : HeldNews
news_held site kept done panel before valid member run =
    news_by_told site kept done (told_in_ring site kept done panel) panel before valid member run ∙ news_in_ring site kept done panel before

pub buzzer_held : HeldBuzzer
buzzer_held site kept done panel before valid member run =
    buzzer_by_told site kept done (told_in_ring site kept done panel) panel before valid member run ∙ buzzer_in_ring site kept done panel before
