-- What events told stays as it is for the rest of a tick, once a turn was made in it.
use Rattle.std.proofs.Common.{◌≡◌, ℕ, ◌≤◌, List, [], ◌∷◌, inl, inr, Bool, true, false, refl, sym, ◌∙◌, ap, subst, arith}
use Rattle.std.proofs.lemmas.Bool.Decides.{leb_tells}
use Rattle.panel_rules.specs.Moments.{Moment, Began, Happened, Turned, Kept, tick_of, is_fresh, IsRun, IsPast, present, later, up_to}
use Rattle.panel_rules.proofs.Turns.{tick_rises, run_before}

pub up_to_here : (moments : List Moment) → up_to (tick_of moments) moments ≡ moments
up_to_here [] = refl
up_to_here (moment ∷ before) =
    elim (leb_tells (tick_of (moment ∷ before)) (tick_of (moment ∷ before))) [
      | inl h ↦ rw h.0 refl
      | inr h ↦ absurd (omega (arith, h.1))
    ]

-- once a turn was made in a tick, the tick isn't fresh any more
stale : (panels : ℕ) (past moments : List Moment) → IsPast past moments → IsRun panels moments → is_fresh past ≡ false
    → tick_of past ≡ tick_of moments → is_fresh moments ≡ false
stale panels past moments present run f e = f
stale panels past moments (later Began before h) run f e = absurd (omega (arith, tick_rises past before h, e))
stale panels past moments (later (Happened event) before h) run f e = let s = stale panels past before h run.0 f e in
    absurd (differ (is_fresh before) s run.1)
  where
    differ : (b : Bool) → b ≡ false → b ≡ true → ⊥
    differ true p q = cc
    differ false p q = cc
stale panels past moments (later (Turned panel task) before h) run f e = refl
stale panels past moments (later (Kept failed) before h) run f e = refl

-- what only events change
pub record ByEvents {X : Type 0} (value : List Moment → X) : Type 0 where
  pub began : (before : List Moment) → value (Began ∷ before) ≡ value before
  pub turned : (panel : ℕ) (task : _) (before : List Moment) → value (Turned panel task ∷ before) ≡ value before
  pub kept : (failed : Bool) (before : List Moment) → value (Kept failed ∷ before) ≡ value before

-- the rest of the tick leaves it
rest_leaves : {X : Type 0} (value : List Moment → X) (panels : ℕ) (past : List Moment) (moment : Moment) (before : List Moment) → ByEvents value
    → IsPast past before → IsRun panels (moment ∷ before) → is_fresh past ≡ false → tick_of (moment ∷ before) ≤ tick_of past
    → value (moment ∷ before) ≡ value before
rest_leaves value panels past Began before by h run f l = by.began before
rest_leaves value panels past (Happened event) before by h run f l =
    absurd (differ (is_fresh before) (stale panels past before h run.0 f (omega (arith, tick_rises past before h, l))) run.1)
  where
    differ : (b : Bool) → b ≡ false → b ≡ true → ⊥
    differ true p q = cc
    differ false p q = cc
rest_leaves value panels past (Turned panel task) before by h run f l = by.turned panel task before
rest_leaves value panels past (Kept failed) before by h run f l = by.kept failed before

at_most : (moment : Moment) (before : List Moment) (tick : ℕ) → tick_of (moment ∷ before) ≤ tick → tick_of before ≤ tick
at_most moment before tick l = let r = tick_rises before (moment ∷ before) (later moment before present) in omega (arith, r, l)

pub state_stays : {X : Type 0} (value : List Moment → X) (panels : ℕ) (past moments : List Moment) → ByEvents value → IsPast past moments
    → IsRun panels moments → is_fresh past ≡ false → value (up_to (tick_of past) moments) ≡ value past
state_stays value panels past moments by present run f = ap value (up_to_here past)
state_stays value panels past moments by (later moment before h) run f =
    elim (leb_tells (tick_of (moment ∷ before)) (tick_of past)) [
      | inl l ↦
          (let e : tick_of before ≡ tick_of past =
          (let r = tick_rises past before h in let m = at_most moment before (tick_of past) l.1 in omega (arith, r, m)) in
          let ih = state_stays value panels past before by h (run_before panels moment before run) f in
          let here : up_to (tick_of past) before ≡ before = subst (λ t. up_to t before ≡ before) e (up_to_here before) in
          rw l.0 (rest_leaves value panels past moment before by h run f l.1 ∙ ap value (sym here) ∙ ih))
      | inr l ↦ rw l.0 (state_stays value panels past before by h (run_before panels moment before run) f)
    ]
