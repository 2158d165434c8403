-- Lists in which one place is set anew, and lists kept place by place.
use Rattle.std.proofs.Common.{◌≡◌, ◌≢◌, ◌<◌, ◌≤◌, ◌+◌, inl, inr, ℕ, zero, suc, List, [], ◌∷◌, ◌++◌, length, set, Option, Some, refl, sym, ◌∙◌, ap, subst, arith, false, length-append}
use Rattle.std.proofs.lemmas.Bool.{cases_lt}
use Rattle.std.proofs.lemmas.List.{length-set}
use Rattle.std.specs.Prelude.{slice_get}
use Rattle.site_types.specs.declared.site.Site.{Site}
use Rattle.due_zones.specs.declared.due_zones.DueZones.{DueZones}
use Rattle.due_outputs.specs.declared.output_run.OutputRun.{OutputRun}
use Rattle.due_outputs.specs.declared.panel_markers.PanelMarkers.{PanelMarkers}
use Rattle.due_outputs.specs.Runs.{AreNoRuns, TakeRuns, TakesRun}
use Rattle.due_outputs.specs.Solved.{AreSolved, GoByDue, HaveGone, HaveSolved}

pub set_here : {X : Type 0} (xs : List X) (k : ℕ) (x : X) → k < length xs → slice_get (set xs k x) k ≡ Some x
set_here [] k x l = absurd (omega (arith, l))
set_here (y ∷ ys) zero x l = refl
set_here (y ∷ ys) (suc k) x l = set_here ys k x (omega (arith, l))

pub set_there : {X : Type 0} (xs : List X) (k j : ℕ) (x : X) → j ≢ k → slice_get (set xs k x) j ≡ slice_get xs j
set_there [] k j x apart = refl
set_there (y ∷ ys) zero zero x apart = absurd (apart refl)
set_there (y ∷ ys) zero (suc j) x apart = refl
set_there (y ∷ ys) (suc k) zero x apart = refl
set_there (y ∷ ys) (suc k) (suc j) x apart = set_there ys k j x (λ e. apart (ap suc e))

pub same_some : {X : Type 0} (x y : X) → ◌≡◌ {A = Option X} (Some x) (Some y) → x ≡ y
same_some x y h = cc

-- ---- the markers of each panel

-- those of the panels below a place go by what is due, the others are solved
pub record GoneBelow (site : Site) (due : List DueZones) (place : ℕ) (panels : List PanelMarkers) : Type 0 where
  pub size : length panels ≡ 8
  pub below : (k : ℕ) (zones : DueZones) (markers : PanelMarkers) → k < place → slice_get due k ≡ Some zones → slice_get panels k ≡ Some markers
      → GoByDue site zones markers
  pub above : (k : ℕ) (markers : PanelMarkers) → place ≤ k → slice_get panels k ≡ Some markers → AreSolved site markers

pub gone_none : (site : Site) (due : List DueZones) (panels : List PanelMarkers) → HaveSolved site panels → GoneBelow site due 0 panels
gone_none site due panels have = record {
  size = have.size;
  below = λ k zones markers l. absurd (omega (arith, l));
  above = λ k markers l at. have.each k markers at;
}

pub gone_all : (site : Site) (due : List DueZones) (place : ℕ) (panels : List PanelMarkers) → length due ≤ place → GoneBelow site due place panels → HaveGone site due panels
gone_all site due place panels past gone = record {
  size = gone.size;
  each = λ k zones markers z m. gone.below k zones markers (within k zones z) z m;
}
  where
    inside : (xs : List DueZones) (k : ℕ) (x : DueZones) → slice_get xs k ≡ Some x → k < length xs
    inside [] k x h = absurd cc
    inside (y ∷ ys) zero x h = omega arith
    inside (y ∷ ys) (suc k) x h = let l = inside ys k x h in omega (arith, l)

    within : (k : ℕ) (zones : DueZones) → slice_get due k ≡ Some zones → k < place
    within k zones h = let l = inside due k zones h in omega (arith, l, past)

module _ (site : Site) (due : List DueZones) (place : ℕ) (panels : List PanelMarkers) (zones : DueZones) (old new : PanelMarkers)
    (at : slice_get due place ≡ Some zones) (was : slice_get panels place ≡ Some old) (small : place < 8) where
  pub gone_more : (AreSolved site old → GoByDue site zones new) → GoneBelow site due place panels → GoneBelow site due (place + 1) (set panels place new)
  gone_more goes gone = record {
    size = length-set panels place new ∙ gone.size;
    below = λ k other markers l z m.
        elim (cases_lt k place) [
          | inl less ↦ gone.below k other markers less z (sym (set_there panels place k new (λ e. omega (arith, e, less))) ∙ m)
          | inr more ↦
              (let e : place ≡ k = omega (arith, l, more) in
              let inside : place < length panels = (let size = gone.size in omega (arith, size, small)) in
              let same = same_some new markers (sym (set_here panels place new inside) ∙ ap (slice_get (set panels place new)) e ∙ m) in
              let zone = same_some zones other (sym at ∙ ap (slice_get due) e ∙ z) in
              subst (λ w. GoByDue site w markers) zone (subst (GoByDue site zones) same (goes (gone.above place old (omega arith) was))))
        ];
    above = λ k markers l m. gone.above k markers (omega (arith, l)) (sym (set_there panels place k new (λ e. omega (arith, e, l))) ∙ m);
  }

-- ---- the runs of the outputs

pub record RunsTaken (site : Site) (panels : List PanelMarkers) (now place : ℕ) (old new : List OutputRun) : Type 0 where
  pub size : length new ≡ length old
  pub below : (k : ℕ) (before after : OutputRun) → k < place → slice_get old k ≡ Some before → slice_get new k ≡ Some after
      → TakesRun site panels now k before after
  pub above : (k : ℕ) → place ≤ k → slice_get new k ≡ slice_get old k

pub runs_none : (site : Site) (panels : List PanelMarkers) (now : ℕ) (old : List OutputRun) → RunsTaken site panels now 0 old old
runs_none site panels now old = record {
  size = refl;
  below = λ k before after l. absurd (omega (arith, l));
  above = λ k l. refl;
}

pub runs_more : (site : Site) (panels : List PanelMarkers) (now place : ℕ) (old new : List OutputRun) (was run : OutputRun)
    → slice_get new place ≡ Some was → place < length new → TakesRun site panels now place was run
    → RunsTaken site panels now place old new → RunsTaken site panels now (place + 1) old (set new place run)
runs_more site panels now place old new was run at within takes taken = record {
  size = length-set new place run ∙ taken.size;
  below = λ k before after l b a.
      elim (cases_lt k place) [
        | inl less ↦ taken.below k before after less b (sym (set_there new place k run (λ e. omega (arith, e, less))) ∙ a)
        | inr more ↦
            (let e : place ≡ k = omega (arith, l, more) in
            let one = same_some run after (sym (set_here new place run within) ∙ ap (slice_get (set new place run)) e ∙ a) in
            let two = same_some was before (sym at ∙ taken.above place (omega arith) ∙ ap (slice_get old) e ∙ b) in
            subst (λ n. TakesRun site panels now n before after) e
            (subst (λ w. TakesRun site panels now place w after) two (subst (TakesRun site panels now place was) one takes)))
      ];
  above = λ k l. set_there new place k run (λ e. omega (arith, e, l)) ∙ taken.above k (omega (arith, l));
}

pub runs_all : (site : Site) (panels : List PanelMarkers) (now place : ℕ) (old new : List OutputRun) → length old ≤ place
    → RunsTaken site panels now place old new → TakeRuns site panels now old new
runs_all site panels now place old new past taken = record {
  size = taken.size;
  each = λ k before after b a. taken.below k before after (let l = inside old k before b in omega (arith, l, past)) b a;
}
  where
    inside : (xs : List OutputRun) (k : ℕ) (x : OutputRun) → slice_get xs k ≡ Some x → k < length xs
    inside [] k x h = absurd cc
    inside (y ∷ ys) zero x h = omega arith
    inside (y ∷ ys) (suc k) x h = let l = inside ys k x h in omega (arith, l)

-- one run more that hasn't begun
pub no_runs_more : (n : ℕ) (runs : List OutputRun) → AreNoRuns n runs → AreNoRuns (n + 1) (runs ++ (record { since = 0; by_hand = false }) ∷ [])
no_runs_more n runs are = record {
  size = (let size = are.size in omega (arith, size, length-append runs ((record { since = 0; by_hand = false }) ∷ [])));
  each = λ place run at. go runs are.each place run at;
}
  where
    go : (xs : List OutputRun) → ((k : ℕ) (y : OutputRun) → slice_get xs k ≡ Some y → y ≡ record { since = 0; by_hand = false }) → (k : ℕ) (y : OutputRun)
        → slice_get (xs ++ (record { since = 0; by_hand = false }) ∷ []) k ≡ Some y → y ≡ record { since = 0; by_hand = false }
    go [] each zero y h = sym (same_some (record { since = 0; by_hand = false }) y h)
    go [] each (suc k) y h = absurd cc
    go (x ∷ xs) each zero y h = each zero y h
    go (x ∷ xs) each (suc k) y h = go xs (λ j z at. each (suc j) z at) k y h
