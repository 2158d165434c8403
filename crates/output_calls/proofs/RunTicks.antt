-- The ticks of an unbroken run of a panel's turns of Drive fall, the latest first.
use Rattle.std.proofs.Common.{◌≤◌, ◌<◌, ◌+◌, ◌==◌, ◌≡◌, ℕ, Bool, true, false, List, [], ◌∷◌, if◌then◌else◌, arith}
use Rattle.std.specs.List.{AllByRecursion}
use Rattle.tick_units.specs.Earliest.{IsFalling}
use Rattle.tick_units.specs.declared.task.Task.TheVariants.{Poll, Decide, Supply, Desk, Hold, Link, Effect, Drive}
use Rattle.tick_units.specs.declared.task.Task.TheVariants.{Keep}
use Rattle.panel_rules.specs.Moments.{Moment, Began, Happened, Turned, Kept, tick_of, is_fresh}
use Rattle.panel_rules.proofs.Counting.{each_to}

-- the turns of Drive of a panel since the latest one that failed a test
abbrev pub run_made : (List Moment → Bool) → ℕ → List Moment → List ℕ
run_made test panel [] = []
run_made test panel (Began ∷ before) = run_made test panel before
run_made test panel (Happened event ∷ before) = run_made test panel before
run_made test panel (Turned other Drive ∷ before) =
    if other == panel then (if test before then tick_of before ∷ run_made test panel before else []) else run_made test panel before
run_made test panel (Turned other task ∷ before) = run_made test panel before
run_made test panel (Kept failed ∷ before) = run_made test panel before

module _ (test : List Moment → Bool) (panel : ℕ) where
  -- none is later than the last tick, and in a fresh tick each is earlier
  pub run_by : (m : List Moment) → AllByRecursion (λ t. t ≤ tick_of m) (run_made test panel m)
  run_by [] = tt
  run_by (Began ∷ before) =
      each_to (λ t. t ≤ tick_of before) (λ t. t ≤ tick_of before + 1) (run_made test panel before) (λ t less. omega (arith, less)) (run_by before)
  run_by (Happened event ∷ before) = run_by before
  run_by (Turned other Drive ∷ before) = go (other == panel) (test before) (run_by before)
    where
      go : (b c : Bool) → AllByRecursion (λ t. t ≤ tick_of before) (run_made test panel before)
          → AllByRecursion (λ t. t ≤ tick_of before)
          (if b then (if c then tick_of before ∷ run_made test panel before else []) else run_made test panel before)
      go true true by = (omega arith, by)
      go true false by = tt
      go false c by = by
  run_by (Turned other Poll ∷ before) = run_by before
  run_by (Turned other Decide ∷ before) = run_by before
  run_by (Turned other Supply ∷ before) = run_by before
  run_by (Turned other Desk ∷ before) = run_by before
  run_by (Turned other Hold ∷ before) = run_by before
  run_by (Turned other Link ∷ before) = run_by before
  run_by (Turned other Effect ∷ before) = run_by before
  run_by (Turned other Keep ∷ before) = run_by before
  run_by (Kept failed ∷ before) = run_by before

  pub run_before : (m : List Moment) → is_fresh m ≡ true → AllByRecursion (λ t. t < tick_of m) (run_made test panel m)
  run_before [] fresh = cc
  run_before (Began ∷ before) fresh =
      each_to (λ t. t ≤ tick_of before) (λ t. t < tick_of before + 1) (run_made test panel before) (λ t less. omega (arith, less)) (run_by before)
  run_before (Happened event ∷ before) fresh = run_before before fresh
  run_before (Turned other task ∷ before) fresh = cc
  run_before (Kept failed ∷ before) fresh = cc

  pub run_falls : (m : List Moment) → IsFalling (run_made test panel m)
  run_falls [] = tt
  run_falls (Began ∷ before) = run_falls before
  run_falls (Happened event ∷ before) = run_falls before
  run_falls (Turned other Drive ∷ before) = go (other == panel) (test before) (run_falls before)
    where
      go : (b c : Bool) → IsFalling (run_made test panel before)
          → IsFalling (if b then (if c then tick_of before ∷ run_made test panel before else []) else run_made test panel before)
      go true true falls = (run_by before, falls)
      go true false falls = tt
      go false c falls = falls
  run_falls (Turned other Poll ∷ before) = run_falls before
  run_falls (Turned other Decide ∷ before) = run_falls before
  run_falls (Turned other Supply ∷ before) = run_falls before
  run_falls (Turned other Desk ∷ before) = run_falls before
  run_falls (Turned other Hold ∷ before) = run_falls before
  run_falls (Turned other Link ∷ before) = run_falls before
  run_falls (Turned other Effect ∷ before) = run_falls before
  run_falls (Turned other Keep ∷ before) = run_falls before
  run_falls (Kept failed ∷ before) = run_falls before
