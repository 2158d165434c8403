-- The steps of a timeline.
use Rattle.std.proofs.Common.{◌≡◌, ◌≤◌, ◌<◌, ◌+◌, ◌-◌, ◌==◌, ℕ, zero, suc, Bool, true, false, List, [], ◌∷◌, Some, slice_get, map, filter, length, refl, ap, ◌∙◌, inl, inr, arith, if◌then◌else◌}
use Rattle.std.specs.Prelude.{◌||◌, not}
use Rattle.std.specs.List.{range_with_len}
use Rattle.std.proofs.lemmas.Bool.Decides.{Decides-eqb, eqb_tells, leb_tells}
use Rattle.face_text.specs.declared.step.Step.{Step}
use Rattle.face_text.specs.Faces.{same_faces}
use Rattle.face_text.proofs.SameFaces.{same_faces_are}
use Rattle.panel_rules.specs.Moments.{Moment, Began, Happened, Turned, Kept, tick_of, up_to}
use Rattle.panel_rules.specs.Operations.{Answered}
use Rattle.panel_rules.specs.Timeline.{answers_now, faces_of, failed_now, has_answer, is_told, step_of}
use Rattle.panel_laws.specs.TimelineLaws.{AreRising, StepsRise, ToldTicksAreSteps, UntoldTicksChangeNothing}

fell : (moment : Moment) (before : List Moment) (tick : ℕ) → tick < tick_of (moment ∷ before) → tick ≤ tick_of before
fell Began before tick l = omega (arith, l)
fell (Happened event) before tick l = omega (arith, l)
fell (Turned panel task) before tick l = omega (arith, l)
fell (Kept failed) before tick l = omega (arith, l)

-- a history up to a tick that it has reached ends in that tick
pub up_to_tick : (tick : ℕ) (moments : List Moment) → tick ≤ tick_of moments → tick_of (up_to tick moments) ≡ tick
up_to_tick tick [] reached = omega (arith, reached)
up_to_tick tick (moment ∷ before) reached =
    elim (leb_tells (tick_of (moment ∷ before)) tick) [
      | inl h ↦ rw h.0 (omega (arith, h.1, reached))
      | inr h ↦ rw h.0 (up_to_tick tick before (fell moment before tick h.1))
    ]

module _ (f : ℕ → Step) (p : ℕ → Bool) where
  rising_by : (before a last : ℕ) (ticks : List ℕ) (b : Bool) → (f a).tick.0 ≡ a → before < a
      → ((x : ℕ) → x < a + 1 → AreRising x last (map f ticks)) →
      AreRising before last (map f (if b then a ∷ ticks else ticks))
  rising_by before a last ticks true at less ih = (omega (arith, at, less), ih (f a).tick.0 (omega (arith, at)))
  rising_by before a last ticks false at less ih = ih before (omega (arith, less))

  rising : (before a n last : ℕ) → ((t : ℕ) → a ≤ t → t < a + n → (f t).tick.0 ≡ t) → before < a → a + n ≡ last + 1
      → AreRising before last (map f (filter p (range_with_len a n)))
  rising before a zero last at less end = omega (arith, less, end)
  rising before a (suc n) last at less end =
      rising_by before a last (filter p (range_with_len (a + 1) n)) (p a) (at a (omega arith) (omega arith)) less
      (λ x l. rising x (a + 1) n last (λ t low high. at t (omega (arith, low)) (omega (arith, high))) l (omega (arith, end)))

  here : (a tick : ℕ) (ticks : List ℕ) (b : Bool) → b ≡ true → a ≡ tick
      → (place : ℕ) × (slice_get (map f (if b then a ∷ ticks else ticks)) place ≡ Some (f tick))
  here a tick ticks true e same = (0, ap (λ (t : ℕ). Some (f t)) same)
  here a tick ticks false e same = cc

  further : (a tick : ℕ) (ticks : List ℕ) (b : Bool) → (place : ℕ) × (slice_get (map f ticks) place ≡ Some (f tick))
      → (place : ℕ) × (slice_get (map f (if b then a ∷ ticks else ticks)) place ≡ Some (f tick))
  further a tick ticks true at = (suc at.0, at.1)
  further a tick ticks false at = at

  place_of : (a n tick : ℕ) → a ≤ tick → tick < a + n → p tick ≡ true
      → (place : ℕ) × (slice_get (map f (filter p (range_with_len a n))) place ≡ Some (f tick))
  place_of a zero tick low high told = absurd (omega (arith, low, high))
  place_of a (suc n) tick low high told =
      elim (eqb_tells a tick) [
        | inl h ↦ here a tick (filter p (range_with_len (a + 1) n)) (p a) (ap p h.1 ∙ told) h.1
        | inr h ↦
            (let apart =
            h.1 in
            further a tick (filter p (range_with_len (a + 1) n)) (p a)
            (place_of (a + 1) n tick (omega (arith, low, apart)) (omega (arith, high)) told))
      ]

pub rise : StepsRise
rise site kept moments =
    rising (λ t. step_of site kept (up_to t moments)) (is_told site kept moments) 0 1 (tick_of moments) (tick_of moments)
    (λ t low high. up_to_tick t moments (omega (arith, high))) (omega arith) (omega arith)

pub told_are_steps : ToldTicksAreSteps
told_are_steps site kept moments tick low high told =
    place_of (λ t. step_of site kept (up_to t moments)) (is_told site kept moments) 1 (tick_of moments) tick low (omega (arith, high)) told

neither : (a b : Bool) → (not a || b) ≡ false → (a ≡ true) × (b ≡ false)
neither true false e = (refl, refl)
neither true true e = cc
neither false b e = cc

none : (xs : List Answered) → (length xs == 0) ≡ true → xs ≡ []
none [] e = refl
none (x ∷ xs) e = let zero_long : length (x ∷ xs) ≡ 0 = (Decides-eqb (length (x ∷ xs)) 0).0 e in absurd (omega (arith, zero_long))

pub untold_is_same : UntoldTicksChangeNothing
untold_is_same site kept moments tick e =
    let one =
    neither (same_faces (faces_of site kept (up_to tick moments)) (faces_of site kept (up_to (tick - 1) moments)))
    (has_answer site kept (up_to tick moments)) e in
    let two = neither (length (answers_now site kept (up_to tick moments)) == 0) (failed_now site kept (up_to tick moments)) one.1 in
    (same_faces_are _ _ one.0, none _ two.0, two.1)
