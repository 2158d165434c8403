-- Cables at the places of their loops.
use Rattle.std.proofs.Common.{◌≡◌, ◌⊎◌, inl, inr, ℕ, zero, suc, ◌+◌, ◌≤◌, ◌<◌, List, [], ◌∷◌, ◌++◌, take, set, length, get_or, Some, slice_get, refl, sym, ◌∙◌, ap, subst, arith, length-append}
use Rattle.std.proofs.Math.ListN.{length-set}
use Rattle.std.proofs.lemmas.Bool.Decides.{eqb_tells}
use Rattle.std.proofs.lemmas.List.{take_more}
use Rattle.std.proofs.lemmas.Option.{get_or_from_slice_get, same_Some, slice_get-get_or, slice_get_within}
use Rattle.std.proofs.Common.{get_or-set_other, get_or-set_same}
use Rattle.site_types.specs.declared.loop_plan.LoopPlan.{LoopPlan}
use Rattle.isolators.specs.declared.loop_line.LoopLine.{LoopLine}
use Rattle.isolators.specs.Stands.{StandsFor}
use Rattle.panel_rules.specs.Moments.{Moment}
use Rattle.field_states.specs.Lines.{LinesStand, cable_after}

-- an item of a list with one more behind it
got_front : {X : Type 0} (xs : List X) (y x : X) (k : ℕ) → slice_get (xs ++ y ∷ []) k ≡ Some x
    → (slice_get xs k ≡ Some x) ⊎ ((k ≡ length xs) × (y ≡ x))
got_front [] y x zero at = inr (refl, same_Some y x at)
got_front [] y x (suc k) at = absurd cc
got_front (z ∷ xs) y x zero at = inl at
got_front (z ∷ xs) y x (suc k) at =
    elim (got_front xs y x k at) [ inl h ↦ inl h | inr h ↦ (let e = h.0 in inr (omega (arith, e), h.1)) ]

pub no_lines : (before : List Moment) → LinesStand [] before []
no_lines before = record { size = refl; each = λ place plan line at line_at. absurd cc }

pub one_more : (plans : List LoopPlan) (before : List Moment) (lines : List LoopLine) (n : ℕ) (plan : LoopPlan) (line : LoopLine)
    → slice_get plans n ≡ Some plan → StandsFor plan (cable_after plan before) line → LinesStand (take n plans) before lines
    → LinesStand (take (n + 1) plans) before (lines ++ line ∷ [])
one_more plans before lines n plan line at stands are =
    let within = slice_get_within plans n plan at in
    let more : take (n + 1) plans ≡ take n plans ++ plan ∷ [] =
    take_more plans n plan within ∙ ap (λ (p : LoopPlan). take n plans ++ p ∷ []) (get_or_from_slice_get plans n plan plan at) in
    subst (λ ps. LinesStand ps before (lines ++ line ∷ [])) (sym more)
    (record {
      size =
          (let size = are.size in
          omega (arith, size, length-append lines (line ∷ []), length-append (take n plans) (plan ∷ [])));
      each = λ place other it other_at it_at. pick place other it (got_front (take n plans) plan other place other_at)
          (got_front lines line it place it_at);
    })
  where
    pick : (place : ℕ) (other : LoopPlan) (it : LoopLine)
        → (slice_get (take n plans) place ≡ Some other) ⊎ ((place ≡ length (take n plans)) × (plan ≡ other))
        → (slice_get lines place ≡ Some it) ⊎ ((place ≡ length lines) × (line ≡ it)) → StandsFor other (cable_after other before) it
    pick place other it (inl a) (inl b) = are.each place other it a b
    pick place other it (inl a) (inr b) =
        let w = slice_get_within (take n plans) place other a in let size = are.size in let e = b.0 in absurd (omega (arith, w, size, e))
    pick place other it (inr a) (inl b) =
        let w = slice_get_within lines place it b in let size = are.size in let e = a.0 in absurd (omega (arith, w, size, e))
    pick place other it (inr a) (inr b) =
        subst (λ (p : LoopPlan). StandsFor p (cable_after p before) it) a.1 (subst (λ l. StandsFor plan (cable_after plan before) l) b.1 stands)

-- so many of the cables were told what befell later, the others weren't yet
pub record ToldBelow (plans : List LoopPlan) (before later : List Moment) (count : ℕ) (lines : List LoopLine) : Type 0 where
  pub size : length lines ≡ length plans
  pub told : (place : ℕ) (plan : LoopPlan) (line : LoopLine) → place < count → slice_get plans place ≡ Some plan
      → slice_get lines place ≡ Some line → StandsFor plan (cable_after plan later) line
  pub yet : (place : ℕ) (plan : LoopPlan) (line : LoopLine) → count ≤ place → slice_get plans place ≡ Some plan
      → slice_get lines place ≡ Some line → StandsFor plan (cable_after plan before) line

pub told_none : (plans : List LoopPlan) (before later : List Moment) (lines : List LoopLine) → LinesStand plans before lines
    → ToldBelow plans before later 0 lines
told_none plans before later lines are = record {
  size = are.size;
  told = λ place plan line less at line_at. absurd (omega (arith, less));
  yet = λ place plan line more at line_at. are.each place plan line at line_at;
}

pub told_all : (plans : List LoopPlan) (before later : List Moment) (count : ℕ) (lines : List LoopLine) → length lines ≤ count
    → ToldBelow plans before later count lines → LinesStand plans later lines
told_all plans before later count lines ended told = record {
  size = told.size;
  each = λ place plan line at line_at.
      (let w = slice_get_within lines place line line_at in told.told place plan line (omega (arith, w, ended)) at line_at);
}

set_here : (xs : List LoopLine) (i : ℕ) (y x : LoopLine) → i < length xs → slice_get (set xs i y) i ≡ Some x → y ≡ x
set_here xs i y x within at =
    sym (get_or-set_same xs i y x within) ∙ get_or_from_slice_get (set xs i y) i x x at

set_there : (xs : List LoopLine) (i k : ℕ) (y x : LoopLine) → (k ≡ i → ⊥) → slice_get (set xs i y) k ≡ Some x → slice_get xs k ≡ Some x
set_there xs i k y x apart at =
    let w = slice_get_within (set xs i y) k x at in
    let same : get_or xs k x ≡ x = sym (get_or-set_other xs i k y x apart) ∙ get_or_from_slice_get (set xs i y) k x x at in
    slice_get-get_or xs k x (omega (arith, w, length-set xs i y)) ∙ ap Some same

-- the next one is told
pub told_next : (plans : List LoopPlan) (before later : List Moment) (count : ℕ) (lines : List LoopLine) (plan : LoopPlan) (line told : LoopLine)
    → slice_get plans count ≡ Some plan → slice_get lines count ≡ Some line
    → (StandsFor plan (cable_after plan before) line → StandsFor plan (cable_after plan later) told)
    → ToldBelow plans before later count lines → ToldBelow plans before later (count + 1) (set lines count told)
told_next plans before later count lines plan line told at line_at step are =
    let inside = slice_get_within lines count line line_at in
    record {
      size = length-set lines count told ∙ are.size;
      told = λ place other it less other_at it_at.
          elim (eqb_tells place count) [
            | inl e ↦
                (let same : plan ≡ other = same_Some plan other (sym at ∙ ap (slice_get plans) (sym e.1) ∙ other_at) in
                let it_is : told ≡ it = set_here lines count told it inside (ap (slice_get (set lines count told)) (sym e.1) ∙ it_at) in
                subst (λ (p : LoopPlan). StandsFor p (cable_after p later) it) same
                (subst (λ l. StandsFor plan (cable_after plan later) l) it_is (step (are.yet count plan line (omega arith) at line_at))))
            | inr e ↦
                (let apart = e.1 in
                are.told place other it (omega (arith, less, apart)) other_at (set_there lines count place told it apart it_at))
          ];
      yet = λ place other it more other_at it_at.
          (let apart : place ≡ count → ⊥ = (λ e. omega (arith, e, more)) in
          are.yet place other it (omega (arith, more)) other_at (set_there lines count place told it apart it_at));
    }

pub told_at : (plans : List LoopPlan) (before later : List Moment) (count : ℕ) (lines : List LoopLine) (plan : LoopPlan) (other told : LoopLine)
    → count < length lines → slice_get plans count ≡ Some plan
    → (StandsFor plan (cable_after plan before) (get_or lines count other) → StandsFor plan (cable_after plan later) told)
    → ToldBelow plans before later count lines → ToldBelow plans before later (count + 1) (set lines count told)
told_at plans before later count lines plan other told within at step are =
    told_next plans before later count lines plan (get_or lines count other) told at (slice_get-get_or lines count other within) step are

-- the same lists, by other names
pub lines_told : (plans loops : List LoopPlan) (before later : List Moment) (was items told : List LoopLine) → plans ≡ loops → was ≡ items
    → (LinesStand plans before was → LinesStand plans later told) → LinesStand loops before items → LinesStand loops later told
lines_told plans loops before later was items told same_plans same_lines step stands =
    subst (λ p. LinesStand p later told) same_plans
    (step (subst (λ p. LinesStand p before was) (sym same_plans) (subst (LinesStand loops before) (sym same_lines) stands)))
