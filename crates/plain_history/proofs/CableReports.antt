-- What a report does to the cable of a loop.
use Rattle.std.proofs.Common.{◌≡◌, ◌≢◌, ◌⊎◌, inl, inr, ℕ, ◌==◌, ◌&&◌, List, ◌∷◌, Bool, true, false, refl, sym, subst, if◌then◌else◌}
use Rattle.std.proofs.Math.Path.{fun_ext}
use Rattle.std.proofs.lemmas.Bool.Decides.{eqb_tells}
use Rattle.site_types.specs.declared.loop_plan.LoopPlan.{LoopPlan}
use Rattle.site_types.specs.declared.piece_state.PieceState.{PieceState}
use Rattle.site_types.specs.declared.event.Event.TheVariants.{Cable as CableEvent}
use Rattle.isolators.specs.declared.loop_line.LoopLine.{LoopLine}
use Rattle.isolators.specs.Reach.{with_piece}
use Rattle.isolators.specs.Stands.{StandsFor}
use Rattle.panel_rules.specs.Moments.{Moment as MomentOf}
use Rattle.panel_rules.specs.States.{piece_of}
use Rattle.panel_rules.proofs.OpenRequests.{eq_swap}
use Rattle.panel_rules.proofs.AnswersTell.{eq_true}
use Rattle.plain_history.specs.declared.moment.Moment.{Moment}
use Rattle.plain_history.specs.declared.moment.Moment.TheVariants.{Happened}
use Rattle.plain_history.specs.Histories.{moment_of}

module _ (plan : LoopPlan) (panel line : ℕ) (before : List MomentOf) (cable : LoopLine) where
  -- a moment is what it is
  pub moment_is : (m n : Moment) → m ≡ n → StandsFor plan (λ piece. piece_of panel line piece (moment_of n ∷ before)) cable
      → StandsFor plan (λ piece. piece_of panel line piece (moment_of m ∷ before)) cable
  moment_is m n e h = subst (λ x. StandsFor plan (λ piece. piece_of panel line piece (moment_of x ∷ before)) cable) (sym e) h

  here : (was : ℕ → PieceState) (of_panel of_line piece : ℕ) (state : PieceState) → of_panel ≡ panel → of_line ≡ line
      → with_piece was piece state ≡ (λ other. if (of_panel == panel) && ((of_line == line) && (piece == other)) then state else was other)
  here was of_panel of_line piece state p l = fun_ext (λ other. rw (eq_true of_panel panel p, eq_true of_line line l, eq_swap piece other) refl)

  -- a report on the loop
  pub told_here : (of_panel of_line piece : ℕ) (state : PieceState) → of_panel ≡ panel → of_line ≡ line
      → StandsFor plan (with_piece (λ k. piece_of panel line k before) piece state) cable
      → StandsFor plan (λ k. piece_of panel line k (moment_of (Happened (CableEvent of_panel of_line piece state)) ∷ before)) cable
  told_here of_panel of_line piece state p l h =
      subst (λ c. StandsFor plan c cable) (here (λ k. piece_of panel line k before) of_panel of_line piece state p l) h

  elsewhere : (was : ℕ → PieceState) (of_panel of_line piece : ℕ) (state : PieceState) → ((of_panel == panel) && (of_line == line)) ≡ false
      → was ≡ (λ other. if (of_panel == panel) && ((of_line == line) && (piece == other)) then state else was other)
  elsewhere was of_panel of_line piece state n = fun_ext (λ other. go (of_panel == panel) (of_line == line) (piece == other) (was other) n)
    where
      go : (a b c : Bool) (x : PieceState) → (a && b) ≡ false → x ≡ (if a && (b && c) then state else x)
      go true true c x e = absurd (let t : true ≡ false = e in cc)
      go true false c x e = refl
      go false b c x e = refl

  -- a report on another one
  pub told_elsewhere : (of_panel of_line piece : ℕ) (state : PieceState) → ((of_panel == panel) && (of_line == line)) ≡ false
      → StandsFor plan (λ k. piece_of panel line k before) cable
      → StandsFor plan (λ k. piece_of panel line k (moment_of (Happened (CableEvent of_panel of_line piece state)) ∷ before)) cable
  told_elsewhere of_panel of_line piece state n h =
      subst (λ c. StandsFor plan c cable) (elsewhere (λ k. piece_of panel line k before) of_panel of_line piece state n) h

pub line_not : (a b c d : ℕ) → b ≢ d → ((a == c) && (b == d)) ≡ false
line_not a b c d n = elim (eqb_tells b d) [ inl e ↦ absurd (n e.1) | inr e ↦ rw e.0 (and_false (a == c)) ]
  where
    and_false : (x : Bool) → (x && false) ≡ false
    and_false true = refl
    and_false false = refl

pub panel_not : (a b c d : ℕ) → a ≢ c → ((a == c) && (b == d)) ≡ false
panel_not a b c d n = elim (eqb_tells a c) [ inl e ↦ absurd (n e.1) | inr e ↦ rw e.0 refl ]

pub by_five : {A B C D E G : Type 0} → (A → G) → (B → G) → (C → G) → (D → G) → (E → G) → A ⊎ (B ⊎ (C ⊎ (D ⊎ E))) → G
by_five a b c d e (inl x) = a x
by_five a b c d e (inr (inl x)) = b x
by_five a b c d e (inr (inr (inl x))) = c x
by_five a b c d e (inr (inr (inr (inl x)))) = d x
by_five a b c d e (inr (inr (inr (inr x)))) = e x

pub by_three : {A B C G : Type 0} → (A → G) → (B → G) → (C → G) → A ⊎ (B ⊎ C) → G
by_three a b c (inl x) = a x
by_three a b c (inr (inl x)) = b x
by_three a b c (inr (inr x)) = c x
