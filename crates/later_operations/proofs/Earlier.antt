-- A test of histories, where each earlier part of one that passes it passes it too, and what the latest turns make of such histories.
use Rattle.std.proofs.Common.{◌≡◌, ℕ, ◌≤◌, List, [], ◌∷◌, true, false, if◌then◌else◌, refl, arith}
use Rattle.std.specs.Prelude.{nat_le}
use Rattle.tick_units.specs.declared.task.Task.{Task}
use Rattle.panel_rules.specs.Moments.{Moment, Began, Happened, Turned, Kept, tick_of, is_turn, up_to}
use Rattle.panel_rules.specs.Latest.{made_latest}

-- what was before the latest moment passes the test
abbrev pub Earlier : (List Moment → Type 0) → List Moment → Type 0
Earlier Q [] = Unit {0}
Earlier Q (moment ∷ before) = Q before

module _ (Q : List Moment → Type 0) (tail : (moment : Moment) (before : List Moment) → Q (moment ∷ before) → Q before) where
  pub then_earlier : (m : List Moment) → Q m → Earlier Q m
  then_earlier [] q = tt
  then_earlier (moment ∷ before) q = tail moment before q

  pub earlier_up_to : (tick : ℕ) (m : List Moment) → Earlier Q m → Earlier Q (up_to tick m)
  earlier_up_to tick [] q = tt
  earlier_up_to tick (moment ∷ before) q =
      elim (nat_le (tick_of (moment ∷ before)) tick) as (λ t. Earlier Q (if t then moment ∷ before else up_to tick before)) [
        | true ↦ q
        | false ↦ earlier_up_to tick before (then_earlier before q)
      ]

  -- two ways to make something of a turn that agree on the histories that pass make the same of the latest one
  pub made_stays : {X : Type 0} (none : X) (panel : ℕ) (task : Task) (f g : List Moment → X) → ((b : List Moment) → Q b → f b ≡ g b)
      → (m : List Moment) → Earlier Q m → made_latest none panel task f m ≡ made_latest none panel task g m
  made_stays none panel task f g same [] q = refl
  made_stays none panel task f g same (Began ∷ before) q = made_stays none panel task f g same before (then_earlier before q)
  made_stays none panel task f g same (Happened event ∷ before) q = made_stays none panel task f g same before (then_earlier before q)
  made_stays none panel task f g same (Turned other_panel other ∷ before) q =
      elim (is_turn panel task other_panel other) as (λ t. (if t then f before else made_latest none panel task f before)
      ≡ (if t then g before else made_latest none panel task g before)) [
        | true ↦ same before q
        | false ↦ made_stays none panel task f g same before (then_earlier before q)
      ]
  made_stays none panel task f g same (Kept failed ∷ before) q = made_stays none panel task f g same before (then_earlier before q)

-- the histories up to a tick are such ones
pub up_to_tick : (x : ℕ) (moment : Moment) (before : List Moment) → tick_of (moment ∷ before) ≤ x → tick_of before ≤ x
up_to_tick x Began before by = omega (arith, by)
up_to_tick x (Happened event) before by = by
up_to_tick x (Turned panel task) before by = by
up_to_tick x (Kept failed) before by = by
