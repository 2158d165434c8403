-- Whether the tick that began last is told, and its step, by what is known of it.
use Rattle.std.proofs.Common.{◌≡◌, ◌∙◌, ◌-◌, ◌≤◌, ◌==◌, ◌&&◌, ◌||◌, Some, None, length, ℕ, zero, suc, Bool, List, ap, arith}
use Rattle.std.proofs.Common.{if◌then◌else◌, nat_le, refl, sym}
use Rattle.std.specs.Prelude.{not}
use Rattle.tick_units.specs.declared.tick.Tick.{Tick}
use Rattle.face_text.specs.declared.face.Face.{Face}
use Rattle.face_text.specs.Faces.{same_faces}
use Rattle.site_types.specs.declared.retained.Retained.{Retained}
use Rattle.site_types.specs.declared.site.Site.{Site}
use Rattle.panel_rules.specs.Moments.{Moment, tick_of, up_to}
use Rattle.panel_rules.specs.Operations.{Answered}
use Rattle.panel_rules.specs.Timeline.{answers_now, faces_of, failed_now, is_told, step_of}
use Rattle.panel_rules.proofs.Stays.{up_to_here}
use Rattle.panel_bridges.specs.ClosedSteps.{step_closed}
use Rattle.panel_bridges.proofs.ClosedSteps.{told_by}
use Rattle.plain_panel.specs.Timelines.{step_with}

abbrev the_tick : ℕ → Tick
the_tick n = record { 0 = n }

module _ (site : Site) (kept : Retained) where
  -- whether the tick that began last is told, by what is known of it
  pub told_is : (moments : List Moment) (tick : ℕ) (faces last : List Face) (count : ℕ) (failed : Bool) → tick_of moments ≡ tick
      → faces ≡ faces_of site kept moments → (1 ≤ tick_of moments → last ≡ faces_of site kept (up_to (tick_of moments - 1) moments))
      → count ≡ length (answers_now site kept moments) → failed ≡ failed_now site kept moments
      → (nat_le 1 tick && (not (same_faces faces last) || (not (count == 0) || failed)))
      ≡ (nat_le 1 (tick_of moments) && is_told site kept moments (tick_of moments))
  told_is moments tick faces last count failed at faces_is last_is count_is failed_is = by (tick_of moments) refl
    where
      by : (t : ℕ) → tick_of moments ≡ t → (nat_le 1 tick && (not (same_faces faces last) || (not (count == 0) || failed)))
          ≡ (nat_le 1 (tick_of moments) && is_told site kept moments (tick_of moments))
      by zero none = rw (← at, none) refl
      by (suc t) some =
          let begun : 1 ≤ tick_of moments = omega arith in
          ap (λ n. nat_le 1 n && (not (same_faces faces last) || (not (count == 0) || failed))) (sym at)
          ∙ ap (λ xs. nat_le 1 (tick_of moments) && (not (same_faces xs last) || (not (count == 0) || failed))) faces_is
          ∙ ap (λ xs. nat_le 1 (tick_of moments) && (not (same_faces (faces_of site kept moments) xs) || (not (count == 0) || failed)))
          (last_is begun)
          ∙ ap (λ n. nat_le 1 (tick_of moments)
          && (not (same_faces (faces_of site kept moments) (faces_of site kept (up_to (tick_of moments - 1) moments)))
          || (not (n == 0) || failed))) count_is
          ∙ ap (λ b. nat_le 1 (tick_of moments)
          && (not (same_faces (faces_of site kept moments) (faces_of site kept (up_to (tick_of moments - 1) moments)))
          || (not (length (answers_now site kept moments) == 0) || b))) failed_is
          ∙ ap (λ now. nat_le 1 (tick_of moments) && told_by site kept now (up_to (tick_of moments - 1) moments)) (sym (up_to_here moments))

  -- the step, by what is known of it
  pub step_is : (moments : List Moment) (tick : Tick) (faces : List Face) (now : List Answered) (failed : Bool) → tick_of moments ≡ tick.0 → faces ≡ faces_of site kept moments
      → now ≡ answers_now site kept moments → failed ≡ failed_now site kept moments → step_with tick faces now failed ≡ step_of site kept moments
  step_is moments tick faces now failed at faces_is now_is failed_is =
      ap (λ t. step_with t faces now failed) (ap (λ n. the_tick n) (sym at))
      ∙ ap (λ xs. step_with (the_tick (tick_of moments)) xs now failed) faces_is
      ∙ ap (λ xs. step_with (the_tick (tick_of moments)) (faces_of site kept moments) xs failed) now_is
      ∙ ap (λ b. step_with (the_tick (tick_of moments)) (faces_of site kept moments) (answers_now site kept moments) b) failed_is

  pub closed_is : (moments : List Moment) (b : Bool) (value : Bool) → b ≡ (nat_le 1 (tick_of moments) && is_told site kept moments (tick_of moments))
      → b ≡ value → (if value then Some (step_of site kept moments) else None) ≡ step_closed site kept moments
  closed_is moments b value is so = ap (λ (told : Bool). if told then Some (step_of site kept moments) else None) (sym so ∙ is)
