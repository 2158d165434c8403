-- The turns of a panel's Hold: what they take, and which moments make one.
use Rattle.std.proofs.Common.{◌≡◌, ◌≢◌, ◌∙◌, ◌≤◌, ◌==◌, ◌++◌, ℕ, zero, suc, false, List, [], ◌∷◌, take, inl, inr, if◌then◌else◌, ap, arith, refl, subst, sym}
use Rattle.std.proofs.lemmas.Bool.Decides.{eqb_tells}
use Rattle.tick_units.specs.Lane.{turn_count}
use Rattle.tick_units.specs.declared.task.Task.{Task}
use Rattle.tick_units.specs.declared.task.Task.TheVariants.{Poll, Decide, Hold}
use Rattle.site_types.specs.declared.answer.Answer.{Answer}
use Rattle.site_types.specs.declared.retained.Retained.{Retained}
use Rattle.site_types.specs.declared.site.Site.{Site}
use Rattle.site_types.specs.Done.{Done}
use Rattle.coincidence_rules.specs.Findings.{finding_of, findings_after, findings_of}
use Rattle.panel_conditions.specs.Turns.{findings_taken, latest_tick}
use Rattle.panel_rules.specs.Answers.{answers}
use Rattle.panel_rules.specs.Counts.{taken_by_decide, taken_by_hold}
use Rattle.panel_rules.specs.Kept.{made_at}
use Rattle.panel_rules.specs.Moments.{Moment, Began, Happened, Turned, Kept, latest_turn}
use Rattle.panel_rules.specs.Zones.{held_answers}
use Rattle.panel_rules.proofs.AnswersTell.{eq_true}
use Rattle.panel_rules.proofs.Counts.{hold_behind}
use Rattle.hold_calls.specs.Lanes.{decided, finding_lane}
use Rattle.hold_calls.specs.Told.{Told}
use Rattle.hold_calls.specs.Turns.{hold_turn, hold_turns}
use Rattle.hold_calls.proofs.Steps.{decided_after_poll, seen, seen_after_decide, seen_more}

found_take : (site : Site) (kept : Retained) (panel : ℕ) (done : List Done) (n : ℕ) (before xs : List Answer)
    → take n (findings_after site kept panel done before xs) ≡ findings_after site kept panel done before (take n xs)
found_take site kept panel done zero before [] = refl
found_take site kept panel done (suc n) before [] = refl
found_take site kept panel done zero before (x ∷ xs) = refl
found_take site kept panel done (suc n) before (x ∷ xs) =
    ap (λ ys. finding_of site kept panel done before x ∷ ys) (found_take site kept panel done n (before ++ x ∷ []) xs)

take_less : {X : Type 0} (h d : ℕ) (xs : List X) → h ≤ d → take h (take d xs) ≡ take h xs
take_less zero d xs l = refl
take_less (suc h) zero xs l = absurd (omega arith)
take_less (suc h) (suc d) [] l = refl
take_less (suc h) (suc d) (x ∷ xs) l = ap (λ ys. x ∷ ys) (take_less h d xs (omega arith))

module _ (site : Site) (kept : Retained) (done : List Done) (panel : ℕ) where
  -- what Hold has seen is what is found of the answers that it has taken
  pub seen_found : (before : List Moment) → seen site kept done panel before ≡ findings_of site kept panel done (held_answers site panel before)
  seen_found before =
      found_take site kept panel done (taken_by_hold site panel before) [] (decided site panel before)
      ∙ ap (findings_of site kept panel done)
      (take_less (taken_by_hold site panel before) (taken_by_decide site panel before) (answers site panel before) (hold_behind site panel before))

-- ---- which moments make a turn

module _ (site : Site) (kept : Retained) (done : List Done) (told : Told) (panel : ℕ) where
  pub own_turn : (before : List Moment) → hold_turns site kept done told panel (Turned panel Hold ∷ before)
      ≡ hold_turn site kept done told panel before ∷ hold_turns site kept done told panel before
  own_turn before = rw (eq_true panel panel refl) refl

  -- a moment that is no turn of the panel's Hold makes none
  pub turns_stay : (moment : Moment) (before : List Moment) → moment ≢ Turned panel Hold
      → hold_turns site kept done told panel (moment ∷ before) ≡ hold_turns site kept done told panel before
  turns_stay Began before other = refl
  turns_stay (Happened event) before other = refl
  turns_stay (Turned own Hold) before other =
      elim (eqb_tells own panel) [ inl t ↦ absurd (other (ap (λ p. Turned p Hold) t.1)) | inr t ↦ rw t.0 refl ]
  turns_stay (Turned own task) before other = refl
  turns_stay (Kept failed) before other = refl

  -- nor does a turn of another panel
  pub turns_elsewhere : (other : ℕ) (task : Task) (before : List Moment) → (other == panel) ≡ false
      → hold_turns site kept done told panel (Turned other task ∷ before) ≡ hold_turns site kept done told panel before
  turns_elsewhere other Hold before e = rw e refl
  turns_elsewhere other task before e = refl

  -- those of a run were made by its latest one
  pub turns_made : (before : List Moment) → hold_turns site kept done told panel (made_at panel before) ≡ hold_turns site kept done told panel before
  turns_made [] = refl
  turns_made (Began ∷ before) = turns_made before
  turns_made (Happened event ∷ before) = turns_made before
  turns_made (Turned other Hold ∷ before) =
      elim (eqb_tells other panel) [
        | inl t ↦ ap (λ b. hold_turns site kept done told panel (if b then Turned other Hold ∷ before else made_at panel before)) t.0
        | inr t ↦ rw t.0 (turns_made before)
      ]
  turns_made (Turned other task ∷ before) = turns_made before
  turns_made (Kept failed ∷ before) = turns_made before

  -- ---- what the turns take

  one_more : (before : List Moment) → findings_taken (hold_turns site kept done told panel before) ≡ seen site kept done panel before
      → findings_taken (hold_turns site kept done told panel (Turned panel Hold ∷ before)) ≡ seen site kept done panel (Turned panel Hold ∷ before)
  one_more before ih =
      ap findings_taken (own_turn before)
      ∙ ap (λ xs. xs ++ take (turn_count (finding_lane site kept done panel before)) (finding_lane site kept done panel before).items) ih
      ∙ seen_more site kept done panel before

  -- the findings of all turns are those that Hold has taken
  pub turns_seen : (before : List Moment) → findings_taken (hold_turns site kept done told panel before) ≡ seen site kept done panel before
  turns_seen [] = refl
  turns_seen (Began ∷ before) = turns_seen before
  turns_seen (Happened event ∷ before) = turns_seen before
  turns_seen (Turned other Poll ∷ before) =
      elim (eqb_tells other panel) [
        | inl t ↦
            turns_seen before ∙ subst (λ p. seen site kept done panel before ≡ seen site kept done panel (Turned p Poll ∷ before)) (sym t.1)
            (ap (λ xs. take (taken_by_hold site panel before) (findings_of site kept panel done xs)) (decided_after_poll site panel before))
        | inr t ↦ rw t.0 (turns_seen before)
      ]
  turns_seen (Turned other Decide ∷ before) =
      elim (eqb_tells other panel) [
        | inl t ↦
            turns_seen before ∙ subst (λ p. seen site kept done panel before ≡ seen site kept done panel (Turned p Decide ∷ before)) (sym t.1)
            (seen_after_decide site kept done panel before)
        | inr t ↦ rw t.0 (turns_seen before)
      ]
  turns_seen (Turned other Hold ∷ before) =
      elim (eqb_tells other panel) [
        | inl t ↦
            subst (λ p. findings_taken (hold_turns site kept done told panel (Turned p Hold ∷ before)) ≡ seen site kept done panel (Turned p Hold ∷ before))
            (sym t.1) (one_more before (turns_seen before))
        | inr t ↦ rw t.0 (turns_seen before)
      ]
  turns_seen (Turned other task ∷ before) = turns_seen before
  turns_seen (Kept failed ∷ before) = turns_seen before

  -- so they are those of the answers that it holds
  pub turns_hold : (before : List Moment)
      → findings_taken (hold_turns site kept done told panel before) ≡ findings_of site kept panel done (held_answers site panel before)
  turns_hold before = turns_seen before ∙ seen_found site kept done panel before

  -- and the latest turn's tick is that of Hold's latest turn
  pub turns_tick : (before : List Moment) → latest_tick (hold_turns site kept done told panel before) ≡ latest_turn panel Hold before
  turns_tick [] = refl
  turns_tick (Began ∷ before) = turns_tick before
  turns_tick (Happened event ∷ before) = turns_tick before
  turns_tick (Turned other Hold ∷ before) =
      elim (eqb_tells other panel) [
        | inl t ↦ rw t.0 refl
        | inr t ↦ rw t.0 (turns_tick before)
      ]
  turns_tick (Turned other task ∷ before) = turns_tick before
  turns_tick (Kept failed ∷ before) = turns_tick before
