-- The word that a panel's Hold tells: that of what its turns are told, and in the ring the latest one by the rules.
use Rattle.std.proofs.Common.{◌≡◌, ◌∙◌, ℕ, List, ◌∷◌, ap, refl, subst, sym}
use Rattle.tick_units.specs.declared.task.Task.TheVariants.{Hold}
use Rattle.site_types.specs.declared.retained.Retained.{Retained}
use Rattle.site_types.specs.declared.site.Site.{Site}
use Rattle.site_types.specs.Done.{Done}
use Rattle.site_types.specs.Valid.{IsValid}
use Rattle.coincidence_rules.specs.InOrder.{AreInOrder}
use Rattle.coincidence_rules.proofs.ValidWired.{wired_of}
use Rattle.panel_conditions.specs.Answered.{answered_word}
use Rattle.panel_conditions.specs.Words.{faults_after, has_fault, word_after, word_at}
use Rattle.panel_conditions.proofs.ByAnswers.{word_by_answers}
use Rattle.panel_rules.specs.Answers.{answers}
use Rattle.panel_rules.specs.Counts.{taken_by_hold}
use Rattle.panel_rules.specs.Kept.{made_at}
use Rattle.panel_rules.specs.Moments.{Moment, Turned, IsPanel, IsRun, tick_of}
use Rattle.panel_rules.specs.Words.{word_made}
use Rattle.panel_rules.specs.Zones.{held_answers}
use Rattle.panel_rules.proofs.KeptWords.{IsMade, nothing, in_turn, made_is}
use Rattle.panel_rules.proofs.Order.{answers_in_order}
use Rattle.panel_rules.proofs.Turns.{run_tail}
use Rattle.hold_calls.specs.HoldLaws.{HeldWord}
use Rattle.hold_calls.specs.Shown.{fault_told}
use Rattle.hold_calls.specs.Told.{Told, told_in_ring}
use Rattle.hold_calls.specs.ToldLaws.{ToldWord}
use Rattle.hold_calls.specs.Turns.{hold_turn, hold_turns}
use Rattle.hold_calls.proofs.Fronts.{order_front}
use Rattle.hold_calls.proofs.FaultsHeld.{faults_now, taken_now}
use Rattle.hold_calls.proofs.InRing.{word_in_ring}
use Rattle.hold_calls.proofs.TurnsMade.{own_turn, turns_made}

module _ (site : Site) (kept : Retained) (done : List Done) (told : Told) (panel : ℕ) where
  -- the word after a turn made now tells a fault where one stands
  fault_now : (before : List Moment)
      → has_fault (faults_after site kept panel done (hold_turn site kept done told panel before ∷ hold_turns site kept done told panel before))
      ≡ fault_told site kept done told panel (Turned panel Hold ∷ before)
  fault_now before = ap has_fault (faults_now site kept done told panel before)

  module _ (valid : IsValid site) (member : IsPanel site.panels panel) where
    held_in_order : (before : List Moment) → IsRun site.panels before → AreInOrder (held_answers site panel before)
    held_in_order before run =
        order_front (taken_by_hold site panel before) (answers site panel before) (answers_in_order site site.panels panel before member run)

    -- the word after a turn made now
    word_now : (before : List Moment) → IsRun site.panels (Turned panel Hold ∷ before)
        → word_after site kept panel done (hold_turn site kept done told panel before ∷ hold_turns site kept done told panel before)
        ≡ word_made site kept done (λ source. fault_told site kept done told panel) panel (Turned panel Hold ∷ before)
    word_now before run =
        let now = Turned panel Hold ∷ before in
        let turns = hold_turn site kept done told panel before ∷ hold_turns site kept done told panel before in
        let fault = has_fault (faults_after site kept panel done turns) in
        ap (λ fs. word_at site panel done fs (tick_of before) fault) (taken_now site kept done told panel before)
        ∙ word_by_answers site kept panel (tick_of before) done (held_answers site panel now) fault (wired_of site valid) (held_in_order now run)
        ∙ ap (answered_word site kept panel done (held_answers site panel now) (tick_of before)) (fault_now before)

    word_by : (word : List Moment) → IsRun site.panels word → IsMade panel word
        → word_after site kept panel done (hold_turns site kept done told panel word)
        ≡ word_made site kept done (λ source. fault_told site kept done told panel) panel word
    word_by word run (nothing e) =
        subst (λ w. word_after site kept panel done (hold_turns site kept done told panel w)
        ≡ word_made site kept done (λ source. fault_told site kept done told panel) panel w) (sym e) refl
    word_by word run (in_turn before e) =
        subst (λ w. word_after site kept panel done (hold_turns site kept done told panel w)
        ≡ word_made site kept done (λ source. fault_told site kept done told panel) panel w)
        (sym e) (ap (word_after site kept panel done) (own_turn site kept done told panel before) ∙ word_now before (subst (IsRun site.panels) e run))

pub word_by_told : ToldWord
word_by_told site kept done told panel before valid member run =
    let word = made_is panel before in
    ap (word_after site kept panel done) (sym (turns_made site kept done told panel before))
    ∙ word_by site kept done told panel valid member (made_at panel before) (run_tail site.panels (made_at panel before) before word.past run) word.made

pub word_held : HeldWord
word_held site kept done panel before valid member run =
    word_by_told site kept done (told_in_ring site kept done panel) panel before valid member run ∙ word_in_ring site kept done panel before
