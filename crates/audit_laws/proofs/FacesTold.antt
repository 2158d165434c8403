-- The text of a run shows after each tick what the run shows then.
use Rattle.std.proofs.Common.{◌≡◌, ◌≤◌, ◌<◌, ◌+◌, ◌-◌, ℕ, zero, suc, Bool, true, false, List, ◌∷◌, map, filter, inl, inr, refl, sym, ◌∙◌}
use Rattle.std.proofs.Common.{ap, arith, if◌then◌else◌}
use Rattle.std.specs.Prelude.{nat_le}
use Rattle.std.specs.List.{range_with_len}
use Rattle.std.proofs.lemmas.Bool.Decides.{leb_tells}
use Rattle.std.proofs.lemmas.List.{length-map}
use Rattle.std.proofs.lemmas.List.FromFn.{get_or-map-range_with_len}
use Rattle.site_types.specs.declared.retained.Retained.{Retained}
use Rattle.site_types.specs.declared.site.Site.{Site}
use Rattle.face_text.specs.declared.face.Face.{Face}
use Rattle.face_text.specs.declared.step.Step.{Step}
use Rattle.face_text.specs.Faces.{empty_face}
use Rattle.face_reading.specs.Reading.{face_at}
use Rattle.panel_rules.specs.Moments.{Moment, moments, tick_of, up_to}
use Rattle.panel_rules.specs.Timeline.{face_of, faces_of, is_told, step_of, timeline_of}
use Rattle.panel_laws.proofs.Steps.{up_to_tick, untold_is_same}
use Rattle.run_text.specs.Failures.{without_failure}
use Rattle.run_text.proofs.TickTimes.{tick_moments, up_to_none}
use Rattle.audit_rules.specs.Shown.{faces_after}
use Rattle.audit_laws.specs.ToldFaces.{FaceIsTold, FacesAreTold, LengthIsTold}

within : (a b : ℕ) → a ≤ b → nat_le a b ≡ true
within a b l = elim (leb_tells a b) [ inl h ↦ h.0 | inr h ↦ (let k = h.1 in absurd (omega (arith, k, l))) ]

above : (a b : ℕ) → b < a → nat_le a b ≡ false
above a b l = elim (leb_tells a b) [ inl h ↦ (let k = h.1 in absurd (omega (arith, k, l))) | inr h ↦ h.0 ]

module _ (site : Site) (kept : Retained) (m : List Moment) where
  abbrev faces_at : ℕ → List Face
  faces_at tick = faces_of site kept (up_to tick m)

  abbrev step_at : ℕ → Step
  step_at tick = step_of site kept (up_to tick m)

  abbrev steps_from : ℕ → ℕ → List Step
  steps_from from many = map step_at (filter (is_told site kept m) (range_with_len from many))

  abbrev rest_if : Bool → ℕ → ℕ → List Step
  rest_if told from many =
      map step_at (if told then from ∷ filter (is_told site kept m) (range_with_len (from + 1) many) else filter (is_told site kept m)
      (range_with_len (from + 1) many))

  -- steps after a tick change nothing of what is shown at it
  beyond : (tick from many : ℕ) (faces : List Face) → tick < from → from + many ≤ tick_of m + 1
      → faces_after tick faces (steps_from from many) ≡ faces
  beyond tick from zero faces late few = refl
  beyond tick from (suc many) faces late few =
      by (is_told site kept m from) (beyond tick (from + 1) many faces (omega (arith, late)) (omega (arith, few)))
    where
      by : (told : Bool) → faces_after tick faces (steps_from (from + 1) many) ≡ faces → faces_after tick faces (rest_if told from many) ≡ faces
      by true ih =
          ap (λ (b : Bool). if b then faces_after tick (faces_at from) (steps_from (from + 1) many) else faces)
          (ap (λ n. nat_le n tick) (up_to_tick from m (omega (arith, few))) ∙ above from tick late)
      by false ih = ih

  -- after the steps of some ticks those faces are shown that the last of them has
  reached : (tick from many : ℕ) → 1 ≤ from → from ≤ tick + 1 → tick < from + many → from + many ≡ tick_of m + 1
      → faces_after tick (faces_at (from - 1)) (steps_from from many) ≡ faces_at tick
  reached tick from zero low near far all =
      let last : from - 1 ≡ tick = omega (arith, low, near, far) in ap faces_at last
  reached tick from (suc many) low near far all =
      elim (leb_tells from tick) [
        | inl h ↦ (let here = h.1 in
            by here (is_told site kept m from) refl
            (reached tick (from + 1) many (omega arith) (omega (arith, here)) (omega (arith, far)) (omega (arith, all))))
        | inr h ↦
            (let after = h.1 in
            let last : from - 1 ≡ tick = omega (arith, low, near, after) in
            beyond tick from (suc many) (faces_at (from - 1)) after (omega (arith, all)) ∙ ap faces_at last)
      ]
    where
      further : faces_after tick (faces_at (from + 1 - 1)) (steps_from (from + 1) many) ≡ faces_at tick
          → faces_after tick (faces_at from) (steps_from (from + 1) many) ≡ faces_at tick
      further ih = let same : from ≡ from + 1 - 1 = omega arith in ap (λ n. faces_after tick (faces_at n) (steps_from (from + 1) many)) same ∙ ih

      by : from ≤ tick → (told : Bool) → is_told site kept m from ≡ told
          → faces_after tick (faces_at (from + 1 - 1)) (steps_from (from + 1) many) ≡ faces_at tick
          → faces_after tick (faces_at (from - 1)) (rest_if told from many) ≡ faces_at tick
      by here true is ih =
          ap (λ (b : Bool). if b then faces_after tick (faces_at from) (steps_from (from + 1) many) else faces_at (from - 1))
          (ap (λ n. nat_le n tick) (up_to_tick from m (omega (arith, all))) ∙ within from tick here)
          ∙ further ih
      by here false is ih =
          ap (λ (faces : List Face). faces_after tick faces (steps_from (from + 1) many)) (sym (untold_is_same site kept m from is).0)
          ∙ further ih

pub faces_told : FacesAreTold
faces_told site kept ticks tick by =
    let many = tick_moments ticks in
    ap (λ (none : List Moment). faces_after tick (faces_of site kept none) (timeline_of site kept (moments ticks)).steps) (sym (up_to_none ticks))
    ∙ reached site kept (moments ticks) tick 1 (tick_of (moments ticks)) (omega arith) (omega arith) (omega (arith, by, many)) (omega arith)

pub face_told : FaceIsTold
face_told site kept ticks tick panel by p =
    ap (λ (faces : List Face). face_at faces panel) (faces_told site kept ticks tick by)
    ∙ get_or-map-range_with_len (λ q. face_of site kept q (up_to tick (moments ticks))) 1 site.panels (panel - 1) panel (empty_face panel)
    (omega (arith, p.0, p.1)) (omega (arith, p.0))

pub length_told : LengthIsTold
length_told site kept ticks = tick_moments ticks ∙ sym (length-map ticks without_failure)
