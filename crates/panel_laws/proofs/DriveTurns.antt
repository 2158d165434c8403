-- What the latest turn of Drive saw, tick by tick.
use Rattle.std.proofs.Common.{◌≡◌, ℕ, ◌+◌, ◌≤◌, ◌<◌, ◌==◌, List, [], ◌∷◌, inl, inr, Bool, true, false, if◌then◌else◌, refl, sym, ◌∙◌, ap, subst, arith}
use Rattle.std.specs.Prelude.{nat_le}
use Rattle.std.proofs.lemmas.Bool.Decides.{eqb_tells, leb_tells}
use Rattle.tick_units.specs.declared.task.Task.{Task}
use Rattle.tick_units.specs.declared.task.Task.TheVariants.{Drive}
use Rattle.site_types.specs.declared.site.Site.{Site}
use Rattle.panel_rules.specs.Moments.{Moment, Began, Happened, Turned, Kept, tick_of, is_turn, has_turned, IsRun, HaveAllTurned, IsPast, present, later, up_to, latest_turn, before_turn}
use Rattle.panel_rules.specs.Latest.{made_latest}
use Rattle.panel_rules.specs.Markers.{Facts}
use Rattle.panel_rules.specs.Outputs.{panel_of_output, is_requested, asked_run, stays_within}
use Rattle.panel_rules.proofs.Stays.{up_to_here}
use Rattle.panel_rules.proofs.Turns.{turn_tells, run_before, tick_rises}

-- what a task made is made of what had befallen before its latest turn
pub made_before : {X : Type 0} (none : X) (panel : ℕ) (task : Task) (f : List Moment → X) (m : List Moment) → 1 ≤ latest_turn panel task m
    → made_latest none panel task f m ≡ f (before_turn panel task m)
made_before none panel task f [] l = absurd (omega (arith, l))
made_before none panel task f (Began ∷ before) l = made_before none panel task f before l
made_before none panel task f (Happened event ∷ before) l = made_before none panel task f before l
made_before none panel task f (Turned other_panel other ∷ before) l =
    go (is_turn panel task other_panel other) (made_before none panel task f before) l
  where
    go : (t : Bool) → (1 ≤ latest_turn panel task before → made_latest none panel task f before ≡ f (before_turn panel task before))
        → 1 ≤ (if t then tick_of before else latest_turn panel task before)
        → (if t then f before else made_latest none panel task f before) ≡ f (if t then before else before_turn panel task before)
    go true ih l = refl
    go false ih l = ih l
made_before none panel task f (Kept failed ∷ before) l = made_before none panel task f before l

pub made_true : (panel : ℕ) (task : Task) (f : List Moment → Bool) (m : List Moment) → made_latest false panel task f m ≡ true
    → f (before_turn panel task m) ≡ true
made_true panel task f [] h = absurd cc
made_true panel task f (Began ∷ before) h = made_true panel task f before h
made_true panel task f (Happened event ∷ before) h = made_true panel task f before h
made_true panel task f (Turned other_panel other ∷ before) h = go (is_turn panel task other_panel other) (made_true panel task f before) h
  where
    go : (t : Bool) → (made_latest false panel task f before ≡ true → f (before_turn panel task before) ≡ true)
        → (if t then f before else made_latest false panel task f before) ≡ true → f (if t then before else before_turn panel task before) ≡ true
    go true ih h = h
    go false ih h = ih h
made_true panel task f (Kept failed ∷ before) h = made_true panel task f before h

-- the latest turn lies in the past
pub turn_past : (panel : ℕ) (task : Task) (m : List Moment) → 1 ≤ latest_turn panel task m → IsPast (Turned panel task ∷ before_turn panel task m) m
turn_past panel task [] l = absurd (omega (arith, l))
turn_past panel task (Began ∷ before) l = later Began before (turn_past panel task before l)
turn_past panel task (Happened event ∷ before) l = later (Happened event) before (turn_past panel task before l)
turn_past panel task (Turned other_panel other ∷ before) l =
    elim (turn_tells panel task other_panel other) [
      | inl h ↦ subst (λ t. IsPast (Turned panel task ∷ (if t then before else before_turn panel task before)) (Turned other_panel other ∷ before))
          (sym h.is) (same other_panel other h.panel_is h.task_is)
      | inr h ↦ (let l' = rw h at l in rw h (later (Turned other_panel other) before (turn_past panel task before l')))
    ]
  where
    same : (other_panel : ℕ) (other : Task) → other_panel ≡ panel → other ≡ task
        → IsPast (Turned panel task ∷ before) (Turned other_panel other ∷ before)
    same other_panel other p t = rw (p, t) present
turn_past panel task (Kept failed ∷ before) l = later (Kept failed) before (turn_past panel task before l)

-- a turn was owed before it was made
pub owed_before : (panels panel : ℕ) (task : Task) (m : List Moment) → IsRun panels m → 1 ≤ latest_turn panel task m
    → has_turned panel task (before_turn panel task m) ≡ false
owed_before panels panel task m run l = go (Turned panel task ∷ before_turn panel task m) (turn_past panel task m l) (before_turn panel task m) refl
  where
    go : (x : List Moment) → IsPast x m → (b : List Moment) → x ≡ Turned panel task ∷ b → has_turned panel task b ≡ false
    go x p b e = (subst (λ y. IsRun panels y) e (tail x m p run)).1
      where
        tail : (x m : List Moment) → IsPast x m → IsRun panels m → IsRun panels x
        tail x m present r = r
        tail x m (later moment before p) r = tail x before p (run_before panels moment before r)

le_no : (a b : ℕ) → b < a → nat_le a b ≡ false
le_no a b l = elim (leb_tells a b) [ inl h ↦ (let k = h.1 in absurd (omega (arith, k, l))) | inr h ↦ h.0 ]

-- a tick that has ended is the same in what came before
pub up_to_past : (t : ℕ) (past m : List Moment) → IsPast past m → t < tick_of past → up_to t m ≡ up_to t past
up_to_past t past m present l = refl
up_to_past t past m (later moment before p) l =
    let r = tick_rises past (moment ∷ before) (later moment before p) in
    rw (le_no (tick_of (moment ∷ before)) t (omega (arith, r, l))) (up_to_past t past before p l)

-- after a tick that has ended each seat has turned
pub record HasEnded (panels t : ℕ) (m : List Moment) : Type 0 where
  pub run : IsRun panels m
  pub ended : HaveAllTurned panels m
  pub tick : tick_of m ≡ t

pub ended_at : (panels t : ℕ) (m : List Moment) → IsRun panels m → t < tick_of m → HasEnded panels t (up_to t m)
ended_at panels t [] run l = absurd (omega (arith, l))
ended_at panels t (Began ∷ before) run l =
    elim (eqb_tells t (tick_of before)) [
      | inl h ↦ (let e = h.1 in let here : up_to t before ≡ before = ap (λ x. up_to x before) e ∙ up_to_here before in
          rw (le_no (tick_of before + 1) t (omega (arith, e)), here) (record { run = run.0; ended = run.1; tick = sym e }))
      | inr h ↦
          (let less = below t (tick_of before) l h.1 in rw (le_no (tick_of before + 1) t (omega (arith, less))) (ended_at panels t before run.0 less))
    ]
  where
    below : (t u : ℕ) → t < u + 1 → (t ≡ u → ⊥) → t < u
    below t u l apart = elim (leb_tells u t) [ inl h ↦ (let k = h.1 in absurd (apart (omega (arith, k, l)))) | inr h ↦ h.1 ]
ended_at panels t (Happened event ∷ before) run l = rw (le_no (tick_of before) t l) (ended_at panels t before run.0 l)
ended_at panels t (Turned panel task ∷ before) run l = rw (le_no (tick_of before) t l) (ended_at panels t before run.0 l)
ended_at panels t (Kept failed ∷ before) run l = rw (le_no (tick_of before) t l) (ended_at panels t before run.0 l)

differ : (b : Bool) → b ≡ true → b ≡ false → ⊥
differ true p q = cc
differ false p q = cc

module _ (site : Site) (facts : ℕ → List Moment → Facts) where
  -- before Drive's turn of a tick its run is that of the tick before
  pub run_now : (panels t output : ℕ) (d : List Moment) → IsRun panels d → has_turned (panel_of_output site output) Drive d ≡ false
      → tick_of d ≡ t + 1 → asked_run site facts output d ≡ asked_run site facts output (up_to t d)
  run_now panels t output [] run owed e = absurd (omega (arith, e))
  run_now panels t output (Began ∷ before) run owed e =
      let same : tick_of before ≡ t = omega (arith, e) in
      rw (le_no (tick_of before + 1) t (omega (arith, same)))
      (sym (ap (asked_run site facts output) (ap (λ x. up_to x before) (sym same) ∙ up_to_here before)))
  run_now panels t output (Happened event ∷ before) run owed e =
      rw (le_no (tick_of before) t (omega (arith, e))) (run_now panels t output before run.0 owed e)
  run_now panels t output (Turned panel Drive ∷ before) run owed e =
      elim (eqb_tells panel (panel_of_output site output)) [
        | inl h ↦ absurd (let o = rw h.0 at owed in cc)
        | inr h ↦ (let o = rw h.0 at owed in rw (h.0, le_no (tick_of before) t (omega (arith, e))) (run_now panels t output before run.0 o e))
      ]
  run_now panels t output (Turned panel task ∷ before) run owed e =
      rw (le_no (tick_of before) t (omega (arith, e))) (run_now panels t output before run.0 owed e)
  run_now panels t output (Kept failed ∷ before) run owed e =
      rw (le_no (tick_of before) t (omega (arith, e))) (run_now panels t output before run.0 owed e)

  -- the run after the latest turn of Drive
  pub run_latest : (output : ℕ) (m : List Moment) → 1 ≤ latest_turn (panel_of_output site output) Drive m
      → asked_run site facts output m
      ≡ (if is_requested site facts output (before_turn (panel_of_output site output) Drive m) then latest_turn (panel_of_output site output)
      Drive m ∷ asked_run site facts output (before_turn (panel_of_output site output) Drive m) else [])
  run_latest output [] l = absurd (omega (arith, l))
  run_latest output (Began ∷ before) l = run_latest output before l
  run_latest output (Happened event ∷ before) l = run_latest output before l
  run_latest output (Turned panel Drive ∷ before) l =
      elim (eqb_tells panel (panel_of_output site output)) [
        | inl h ↦ rw h.0 refl
        | inr h ↦ (let k = rw h.0 at l in rw h.0 (run_latest output before k))
      ]
  run_latest output (Turned panel task ∷ before) l = run_latest output before l
  run_latest output (Kept failed ∷ before) l = run_latest output before l

  -- the zones that a silence took hold at the same turns
  pub within_latest : (panel since : ℕ) (zones : ℕ → Bool) (m : List Moment) → 1 ≤ latest_turn panel Drive m
      → stays_within site facts panel since zones m ≡ stays_within site facts panel since zones (Turned panel Drive ∷ before_turn panel Drive m)
  within_latest panel since zones [] l = absurd (omega (arith, l))
  within_latest panel since zones (Began ∷ before) l = within_latest panel since zones before l
  within_latest panel since zones (Happened event ∷ before) l = within_latest panel since zones before l
  within_latest panel since zones (Turned other Drive ∷ before) l =
      elim (eqb_tells other panel) [
        | inl h ↦
            (let p =
            h.1 in
            subst (λ q. stays_within site facts panel since zones (Turned q Drive ∷ before) ≡ stays_within site facts panel since zones
            (Turned panel Drive ∷ before_turn panel Drive (Turned q Drive ∷ before))) (sym p) (own panel before))
        | inr h ↦ (let k = rw h.0 at l in rw h.0 (within_latest panel since zones before k))
      ]
    where
      itself : (a : ℕ) → (a == a) ≡ true
      itself a = elim (eqb_tells a a) [ inl h ↦ h.0 | inr h ↦ absurd (h.1 refl) ]

      own : (panel : ℕ) (before : List Moment)
          → stays_within site facts panel since zones (Turned panel Drive ∷ before) ≡ stays_within site facts panel since zones (Turned panel Drive
          ∷ before_turn panel Drive (Turned panel Drive ∷ before))
      own panel before =
          ap (λ t. stays_within site facts panel since zones (Turned panel Drive ∷ (if t then before else before_turn panel Drive before)))
          (sym (itself panel))
  within_latest panel since zones (Turned other task ∷ before) l = within_latest panel since zones before l
  within_latest panel since zones (Kept failed ∷ before) l = within_latest panel since zones before l
