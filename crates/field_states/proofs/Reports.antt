-- What a report does to the cable of a loop.
use Rattle.std.proofs.Common.{◌≡◌, ◌≢◌, ℕ, ◌==◌, ◌&&◌, List, ◌∷◌, Bool, true, false, refl, sym, subst, inl, inr, if◌then◌else◌}
use Rattle.std.proofs.Math.Path.{fun_ext}
use Rattle.std.proofs.lemmas.Bool.Decides.{eqb_tells}
use Rattle.site_types.specs.declared.loop_plan.LoopPlan.{LoopPlan}
use Rattle.site_types.specs.declared.piece_state.PieceState.{PieceState}
use Rattle.site_types.specs.declared.event.Event.TheVariants.{Cable}
use Rattle.isolators.specs.declared.loop_line.LoopLine.{LoopLine}
use Rattle.isolators.specs.Reach.{with_piece}
use Rattle.isolators.specs.Stands.{StandsFor}
use Rattle.panel_rules.specs.Moments.{Moment, Happened}
use Rattle.panel_rules.proofs.OpenRequests.{eq_swap}
use Rattle.panel_rules.proofs.AnswersTell.{eq_true}
use Rattle.field_states.specs.Lines.{cable_after}

module _ (plan : LoopPlan) (before : List Moment) (cable : LoopLine) where
  here : (was : ℕ → PieceState) (panel line piece : ℕ) (state : PieceState) → plan.panel ≡ panel → plan.line ≡ line
      → with_piece was piece state ≡ (λ other. if (panel == plan.panel) && ((line == plan.line) && (piece == other)) then state else was other)
  here was panel line piece state p l =
      fun_ext (λ other. rw (eq_true panel plan.panel (sym p), eq_true line plan.line (sym l), eq_swap piece other) refl)

  -- a report on the loop
  pub told_here : (panel line piece : ℕ) (state : PieceState) → plan.panel ≡ panel → plan.line ≡ line
      → StandsFor plan (with_piece (cable_after plan before) piece state) cable
      → StandsFor plan (cable_after plan (Happened (Cable panel line piece state) ∷ before)) cable
  told_here panel line piece state p l h =
      subst (λ c. StandsFor plan c cable) (here (cable_after plan before) panel line piece state p l) h

  elsewhere : (was : ℕ → PieceState) (panel line piece : ℕ) (state : PieceState) → ((panel == plan.panel) && (line == plan.line)) ≡ false
      → was ≡ (λ other. if (panel == plan.panel) && ((line == plan.line) && (piece == other)) then state else was other)
  elsewhere was panel line piece state n = fun_ext (λ other. go (panel == plan.panel) (line == plan.line) (piece == other) (was other) n)
    where
      go : (a b c : Bool) (x : PieceState) → (a && b) ≡ false → x ≡ (if a && (b && c) then state else x)
      go true true c x e = absurd (let t : true ≡ false = e in cc)
      go true false c x e = refl
      go false b c x e = refl

  -- a report on another one
  pub told_elsewhere : (panel line piece : ℕ) (state : PieceState) → ((panel == plan.panel) && (line == plan.line)) ≡ false
      → StandsFor plan (cable_after plan before) cable
      → StandsFor plan (cable_after plan (Happened (Cable panel line piece state) ∷ before)) cable
  told_elsewhere panel line piece state n h =
      subst (λ c. StandsFor plan c cable) (elsewhere (cable_after plan before) panel line piece state n) h

pub line_not : (a b c d : ℕ) → d ≢ b → ((a == c) && (b == d)) ≡ false
line_not a b c d n = elim (eqb_tells b d) [ inl e ↦ absurd (n (sym e.1)) | inr e ↦ rw e.0 (and_false (a == c)) ]
  where
    and_false : (x : Bool) → (x && false) ≡ false
    and_false true = refl
    and_false false = refl

pub panel_not : (a b c d : ℕ) → c ≢ a → ((a == c) && (b == d)) ≡ false
panel_not a b c d n = elim (eqb_tells a c) [ inl e ↦ absurd (n (sym e.1)) | inr e ↦ rw e.0 refl ]
