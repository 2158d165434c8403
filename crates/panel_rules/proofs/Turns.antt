-- How the turns of a run stand to its ticks.
use Rattle.std.proofs.Common.{◌≡◌, ℕ, ◌+◌, ◌≤◌, ◌==◌, List, [], ◌∷◌, ◌⊎◌, inl, inr, Bool, true, false, if◌then◌else◌, refl, sym, ◌∙◌, ap, arith, add-zero}
use Rattle.std.proofs.lemmas.Bool.Decides.{eqb_tells}
use Rattle.tick_units.specs.declared.task.Task.{Task}
use Rattle.tick_units.specs.declared.task.Task.TheVariants.{Poll, Decide, Supply, Desk, Hold, Link, Effect, Drive, Keep}
use Rattle.tick_units.specs.Orders.{task_number}
use Rattle.panel_rules.specs.Moments.{Moment, Began, Happened, Turned, Kept, tick_of, is_turn, has_turned, IsPanelTask, IsPanel, IsRun, IsPast, present, later, latest_turn, before_turn}

-- the task with a number
task_numbered : ℕ → Task
task_numbered n =
    if n == 0 then Poll else
    (if n == 1 then Decide else
    (if n == 2 then Supply else
    (if n == 3 then Desk else (if n == 4 then Hold else (if n == 5 then Link else (if n == 6 then Effect else (if n == 7 then Drive else Keep)))))))

numbered_back : (task : Task) → task_numbered (task_number task) ≡ task
unfolding task_numbered
numbered_back Poll = refl
numbered_back Decide = refl
numbered_back Supply = refl
numbered_back Desk = refl
numbered_back Hold = refl
numbered_back Link = refl
numbered_back Effect = refl
numbered_back Drive = refl
numbered_back Keep = refl

pub same_task : (a b : Task) → task_number a ≡ task_number b → a ≡ b
same_task a b e = sym (numbered_back a) ∙ ap task_numbered e ∙ numbered_back b

-- a turn is the one that is looked for, or it isn't
pub record IsThat (panel : ℕ) (task : Task) (other_panel : ℕ) (other : Task) : Type 0 where
  pub is : is_turn panel task other_panel other ≡ true
  pub panel_is : other_panel ≡ panel
  pub task_is : other ≡ task

pub turn_tells : (panel : ℕ) (task : Task) (other_panel : ℕ) (other : Task) → IsThat panel task other_panel other
    ⊎ (is_turn panel task other_panel other ≡ false)
turn_tells panel task other_panel other =
    elim (eqb_tells (task_number other) (task_number task)) [
      | inl t ↦
          elim (eqb_tells other_panel panel) [
            | inl p ↦ inl (record { is = rw (t.0, p.0) refl; panel_is = p.1; task_is = same_task other task t.1 })
            | inr p ↦ inr (rw (t.0, p.0) refl)
          ]
      | inr t ↦ inr (rw t.0 refl)
    ]

-- a panel's own turn is found
pub own_turn : (panel : ℕ) (task : Task) → is_turn panel task panel task ≡ true
own_turn panel task = elim (turn_tells panel task panel task) [ inl h ↦ h.is | inr h ↦ absurd (never h) ]
  where
    never : is_turn panel task panel task ≡ false → ⊥
    never h = elim (eqb_tells (task_number task) (task_number task)) [
      | inl t ↦ elim (eqb_tells panel panel) [ inl p ↦ (let e = rw (t.0, p.0) at h in cc) | inr p ↦ p.1 refl ]
      | inr t ↦ t.1 refl
    ]

-- a run stays one without its newest moment
pub run_before : (panels : ℕ) (moment : Moment) (before : List Moment) → IsRun panels (moment ∷ before) → IsRun panels before
run_before panels Began before run = run.0
run_before panels (Happened event) before run = run.0
run_before panels (Turned panel task) before run = run.0
run_before panels (Kept failed) before run = run.0

pub run_tail : (panels : ℕ) (past moments : List Moment) → IsPast past moments → IsRun panels moments → IsRun panels past
run_tail panels past moments present run = run
run_tail panels past moments (later moment before h) run = run_tail panels past before h (run_before panels moment before run)

pub past_on : (first second third : List Moment) → IsPast first second → IsPast second third → IsPast first third
past_on first second third h present = h
past_on first second third h (later moment before g) = later moment before (past_on first second before h g)

pub tick_rises : (past moments : List Moment) → IsPast past moments → tick_of past ≤ tick_of moments
tick_rises past moments present = omega arith
tick_rises past moments (later Began before h) = omega (arith, tick_rises past before h)
tick_rises past moments (later (Happened event) before h) = tick_rises past before h
tick_rises past moments (later (Turned panel task) before h) = tick_rises past before h
tick_rises past moments (later (Kept failed) before h) = tick_rises past before h

-- one tick is owed while the turn of this tick is
abbrev pub owed_turn : Bool → ℕ
owed_turn turned = if turned then 0 else 1

-- the latest turn of a seat is of this tick, or of the one before
pub turn_lag : (panels panel : ℕ) (task : Task) (moments : List Moment) → IsPanel panels panel → IsPanelTask task → IsRun panels moments
    → latest_turn panel task moments + owed_turn (has_turned panel task moments) ≡ tick_of moments
turn_lag panels panel task [] p t run = refl
turn_lag panels panel task (Began ∷ before) p t run =
    let ih = turn_lag panels panel task before p t run.0 in
    let all = rw (run.1.each panel task p t) at ih in
    omega (arith, all)
turn_lag panels panel task (Happened event ∷ before) p t run = turn_lag panels panel task before p t run.0
turn_lag panels panel task (Turned other_panel other ∷ before) p t run =
    elim (turn_tells panel task other_panel other) [
      | inl h ↦ rw h.is (add-zero (tick_of before))
      | inr h ↦ rw h (turn_lag panels panel task before p t run.0)
    ]
turn_lag panels panel task (Kept failed ∷ before) p t run = turn_lag panels panel task before p t run.0

-- the moments before a turn end in the turn's tick
pub before_tick : (panel : ℕ) (task : Task) (moments : List Moment) → tick_of (before_turn panel task moments) ≡ latest_turn panel task moments
before_tick panel task [] = refl
before_tick panel task (Began ∷ before) = before_tick panel task before
before_tick panel task (Happened event ∷ before) = before_tick panel task before
before_tick panel task (Turned other_panel other ∷ before) =
    elim (turn_tells panel task other_panel other) [
      | inl h ↦ rw h.is refl
      | inr h ↦ rw h (before_tick panel task before)
    ]
before_tick panel task (Kept failed ∷ before) = before_tick panel task before

-- the empty history is the past of each
pub from_start : (moments : List Moment) → IsPast [] moments
from_start [] = present
from_start (moment ∷ before) = later moment before (from_start before)

pub before_past : (panel : ℕ) (task : Task) (moments : List Moment) → IsPast (before_turn panel task moments) moments
before_past panel task [] = present
before_past panel task (Began ∷ before) = later Began before (before_past panel task before)
before_past panel task (Happened event ∷ before) = later (Happened event) before (before_past panel task before)
before_past panel task (Turned other_panel other ∷ before) =
    elim (is_turn panel task other_panel other) as
    (λ b. IsPast (if b then before else before_turn panel task before) (Turned other_panel other ∷ before)) [
      | true ↦ later (Turned other_panel other) before present
      | false ↦ later (Turned other_panel other) before (before_past panel task before)
    ]
before_past panel task (Kept failed ∷ before) = later (Kept failed) before (before_past panel task before)

-- the latest turn of one seat before that of another is at most one tick earlier
pub one_back : (panels panel other : ℕ) (task asked : Task) (moments : List Moment) → IsPanel panels other → IsPanelTask asked → IsRun panels moments
    → (latest_turn panel task moments ≤ latest_turn other asked (before_turn panel task moments) + 1)
    × (latest_turn other asked (before_turn panel task moments) ≤ latest_turn panel task moments)
one_back panels panel other task asked moments p t run =
    let past = before_turn panel task moments in
    let h = turn_lag panels other asked past p t (run_tail panels past moments (before_past panel task moments) run) in
    let e = before_tick panel task moments in
    go (has_turned other asked past) h e
  where
    go : (b : Bool) → latest_turn other asked (before_turn panel task moments) + owed_turn b ≡ tick_of (before_turn panel task moments)
        → tick_of (before_turn panel task moments) ≡ latest_turn panel task moments
        → (latest_turn panel task moments ≤ latest_turn other asked (before_turn panel task moments) + 1)
        × (latest_turn other asked (before_turn panel task moments) ≤ latest_turn panel task moments)
    go true h e = (omega (arith, h, e), omega (arith, h, e))
    go false h e = (omega (arith, h, e), omega (arith, h, e))
