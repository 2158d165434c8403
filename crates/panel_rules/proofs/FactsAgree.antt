-- What is on goes by the facts of the Effect turns made by then, and by no others.
use Rattle.std.proofs.Common.{◌≡◌, ℕ, ◌≤◌, ◌<◌, List, [], ◌∷◌, length, Option, Some, None, Bool, true, false, if◌then◌else◌, refl, ◌∙◌, ap, arith}
use Rattle.std.specs.Prelude.{nat_le}
use Rattle.tick_units.specs.declared.task.Task.{Task}
use Rattle.tick_units.specs.declared.task.Task.TheVariants.{Effect, Drive}
use Rattle.site_types.specs.declared.retained.Retained.{Retained}
use Rattle.site_types.specs.declared.site.Site.{Site}
use Rattle.site_types.specs.Done.{Done, silence_before}
use Rattle.panel_rules.specs.Moments.{Moment, Began, Happened, Turned, Kept, tick_of, is_turn, up_to}
use Rattle.panel_rules.specs.Latest.{made_latest}
use Rattle.panel_rules.specs.Markers.{Facts, hand_facts}
use Rattle.panel_rules.specs.Outputs.{is_true_over, panel_of_output, is_requested, is_requested_by_hand, asked_run, released_at_effect, released_at_drive, stays_within, silence_holds, goes_on, on_run}

-- two ways to make something of a turn give the same where they do for all that came before
made_same : {X : Type 0} (none : X) (panel : ℕ) (task : Task) (f g : List Moment → X) (m : List Moment)
    → ((b : List Moment) → length b < length m → f b ≡ g b) → made_latest none panel task f m ≡ made_latest none panel task g m
made_same none panel task f g [] h = refl
made_same none panel task f g (Began ∷ before) h = made_same none panel task f g before (λ b l. h b (omega (arith, l)))
made_same none panel task f g (Happened event ∷ before) h = made_same none panel task f g before (λ b l. h b (omega (arith, l)))
made_same none panel task f g (Turned other_panel other ∷ before) h =
    elim (is_turn panel task other_panel other) as (λ t. (if t then f before else made_latest none panel task f before)
    ≡ (if t then g before else made_latest none panel task g before)) [
      | true ↦ h before (omega arith)
      | false ↦ made_same none panel task f g before (λ b l. h b (omega (arith, l)))
    ]
made_same none panel task f g (Kept failed ∷ before) h = made_same none panel task f g before (λ b l. h b (omega (arith, l)))

up_to_short : (tick : ℕ) (m : List Moment) → length (up_to tick m) ≤ length m
up_to_short tick [] = omega arith
up_to_short tick (moment ∷ before) =
    elim (nat_le (tick_of (moment ∷ before)) tick) as (λ t. length (if t then moment ∷ before else up_to tick before) ≤ length (moment ∷ before)) [
      | true ↦ omega arith
      | false ↦ (let ih = up_to_short tick before in omega (arith, ih))
    ]

module _ (site : Site) (one other : ℕ → List Moment → Facts) (n : ℕ) (agree : (panel : ℕ) (b : List Moment) → length b < n
    → one panel b ≡ other panel b) where
  requested_same : (output : ℕ) (m : List Moment) → length m ≤ n → is_requested site one output m ≡ is_requested site other output m
  requested_same output m l =
      made_same false (panel_of_output site output) Effect (λ before. is_true_over site output (one (panel_of_output site output) before))
      (λ before. is_true_over site output (other (panel_of_output site output) before)) m
      (λ b s. ap (is_true_over site output) (agree (panel_of_output site output) b (omega (arith, l, s))))

  hand_same : (output : ℕ) (m : List Moment) → length m ≤ n → is_requested_by_hand site one output m ≡ is_requested_by_hand site other output m
  hand_same output m l =
      made_same false (panel_of_output site output) Effect
      (λ before. is_true_over site output (hand_facts (one (panel_of_output site output) before)))
      (λ before. is_true_over site output (hand_facts (other (panel_of_output site output) before))) m
      (λ b s. ap (λ f. is_true_over site output (hand_facts f)) (agree (panel_of_output site output) b (omega (arith, l, s))))

  run_same : (output : ℕ) (m : List Moment) → length m ≤ n → asked_run site one output m ≡ asked_run site other output m
  run_same output [] l = refl
  run_same output (Began ∷ before) l = run_same output before (omega (arith, l))
  run_same output (Happened event ∷ before) l = run_same output before (omega (arith, l))
  run_same output (Turned panel Drive ∷ before) l =
      rw (requested_same output before (omega (arith, l)), run_same output before (omega (arith, l))) refl
  run_same output (Turned panel task ∷ before) l = run_same output before (omega (arith, l))
  run_same output (Kept failed ∷ before) l = run_same output before (omega (arith, l))

  released_same : (panel : ℕ) (m : List Moment) → length m ≤ n → released_at_effect site one panel m ≡ released_at_effect site other panel m
  released_same panel m l =
      made_same (λ zone. false) panel Effect (λ before. (one panel before).released) (λ before. (other panel before).released) m
      (λ b s. ap (λ (f : Facts). f.released) (agree panel b (omega (arith, l, s))))

  driven_same : (panel : ℕ) (m : List Moment) → length m ≤ n → released_at_drive site one panel m ≡ released_at_drive site other panel m
  driven_same panel m l =
      made_same (λ zone. false) panel Drive (released_at_effect site one panel) (released_at_effect site other panel) m
      (λ b s. released_same panel b (omega (arith, l, s)))

  within_same : (panel since : ℕ) (zones : ℕ → Bool) (m : List Moment) → length m ≤ n
      → stays_within site one panel since zones m ≡ stays_within site other panel since zones m
  within_same panel since zones [] l = refl
  within_same panel since zones (Began ∷ before) l = within_same panel since zones before (omega (arith, l))
  within_same panel since zones (Happened event ∷ before) l = within_same panel since zones before (omega (arith, l))
  within_same panel since zones (Turned who Drive ∷ before) l =
      rw (released_same panel before (omega (arith, l)), within_same panel since zones before (omega (arith, l))) refl
  within_same panel since zones (Turned who task ∷ before) l = within_same panel since zones before (omega (arith, l))
  within_same panel since zones (Kept failed ∷ before) l = within_same panel since zones before (omega (arith, l))

  silence_same : (panel : ℕ) (m : List Moment) (o : Option ℕ) → length m ≤ n → silence_holds site one panel m o ≡ silence_holds site other panel m o
  silence_same panel m None l = refl
  silence_same panel m (Some tick) l =
      ap (λ zones. stays_within site one panel tick zones m) (driven_same panel (up_to tick m) (let s = up_to_short tick m in omega (arith, s, l)))
      ∙ within_same panel tick (released_at_drive site other panel (up_to tick m)) m l

  module _ (kept : Retained) (done : List Done) where
    goes_same : (output : ℕ) (before : List Moment) → length before < n
        → goes_on site one kept done output before ≡ goes_on site other kept done output before
    goes_same output before l =
        let asked = requested_same output before (omega (arith, l)) in
        let hand = hand_same output before (omega (arith, l)) in
        let run = run_same output before (omega (arith, l)) in
        let quiet =
        silence_same (panel_of_output site output) (Turned (panel_of_output site output) Drive ∷ before)
        (silence_before (panel_of_output site output) (tick_of before) done) (omega (arith, l)) in
        rw (asked, hand, run, quiet) refl

    pub on_same : (output : ℕ) (m : List Moment) → length m ≤ n → on_run site one kept done output m ≡ on_run site other kept done output m
    on_same output [] l = refl
    on_same output (Began ∷ before) l = on_same output before (omega (arith, l))
    on_same output (Happened event ∷ before) l = on_same output before (omega (arith, l))
    on_same output (Turned panel Drive ∷ before) l = rw (goes_same output before (omega (arith, l)), on_same output before (omega (arith, l))) refl
    on_same output (Turned panel task ∷ before) l = on_same output before (omega (arith, l))
    on_same output (Kept failed ∷ before) l = on_same output before (omega (arith, l))
