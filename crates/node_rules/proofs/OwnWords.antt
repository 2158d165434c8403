-- In the ring a panel keeps of itself the word that it had made by its latest turn of Link.
use Rattle.std.proofs.Common.{◌≡◌, ◌∙◌, ◌≤◌, ◌==◌, ℕ, Bool, true, false, List, [], ◌∷◌, if◌then◌else◌, inl, inr, refl, ap, arith}
use Rattle.std.proofs.lemmas.Bool.Decides.{eqb_tells}
use Rattle.tick_units.specs.declared.task.Task.TheVariants.{Poll, Decide, Supply, Desk, Hold, Link, Effect, Drive, Keep}
use Rattle.site_types.proofs.Done.{lt_false}
use Rattle.panel_links.specs.Words.{carries, left_of, right_of}
use Rattle.panel_rules.specs.Kept.{kept_at, made_at, taken_over}
use Rattle.panel_rules.specs.Moments.{Moment, Began, Happened, Turned, Kept, before_turn, tick_of}
use Rattle.panel_rules.specs.States.{is_up}
use Rattle.panel_rules.proofs.AnswersTell.{eq_true}
use Rattle.panel_rules.proofs.KeptWords.{heard_past, made_tick}

-- an older word isn't taken
taken_older : (up carried : Bool) (one other : List Moment) → tick_of other ≤ tick_of one → taken_over up carried one other ≡ one
taken_older true true one other l = rw (lt_false (tick_of one) (tick_of other) l) refl
taken_older true false one other l = refl
taken_older false carried one other l = refl

module _ (panels panel : ℕ) where
  -- at its turn of Link
  own_taken : (before : List Moment)
      → taken_over (is_up panel before) (carries panels (tick_of before) panel)
      (taken_over (is_up (left_of panels panel) before) (carries panels (tick_of before) panel)
      (if panel == panel then made_at panel before else kept_at panels panel panel before)
      (kept_at panels (left_of panels panel) panel before)) (kept_at panels (right_of panels panel) panel before)
      ≡ made_at panel before
  own_taken before =
      rw (eq_true panel panel refl)
      (let mine = made_tick panel before in
      let down = heard_past panels (left_of panels panel) panel before in
      let up = heard_past panels (right_of panels panel) panel before in
      let first =
      taken_older (is_up (left_of panels panel) before) (carries panels (tick_of before) panel) (made_at panel before)
      (kept_at panels (left_of panels panel) panel before) (omega (arith, mine, down)) in
      ap (λ k. taken_over (is_up panel before) (carries panels (tick_of before) panel) k (kept_at panels (right_of panels panel) panel before)) first
      ∙ taken_older (is_up panel before) (carries panels (tick_of before) panel) (made_at panel before)
      (kept_at panels (right_of panels panel) panel before) (omega (arith, mine, up)))

  pub own_at : (before : List Moment) → kept_at panels panel panel before ≡ made_at panel (before_turn panel Link before)
  own_at [] = refl
  own_at (Began ∷ before) = own_at before
  own_at (Happened event ∷ before) = own_at before
  own_at (Turned other Link ∷ before) =
      elim (eqb_tells other panel) [
        | inl t ↦ rw t.0 (own_taken before)
        | inr t ↦ rw t.0 (own_at before)
      ]
  own_at (Turned other Poll ∷ before) = own_at before
  own_at (Turned other Decide ∷ before) = own_at before
  own_at (Turned other Supply ∷ before) = own_at before
  own_at (Turned other Desk ∷ before) = own_at before
  own_at (Turned other Hold ∷ before) = own_at before
  own_at (Turned other Effect ∷ before) = own_at before
  own_at (Turned other Drive ∷ before) = own_at before
  own_at (Turned other Keep ∷ before) = own_at before
  own_at (Kept failed ∷ before) = own_at before
