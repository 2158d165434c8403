-- The steps of a timeline as moments come: those of earlier ticks stay, and one more comes as a tick ends.
use Rattle.std.proofs.Common.{◌≡◌, ◌∙◌, ◌+◌, ◌-◌, ◌<◌, ◌≤◌, ◌==◌, ◌&&◌, ◌||◌, ◌⊎◌, Some, None, ℕ, zero, suc}
use Rattle.std.proofs.Common.{Bool, true, false, List, [], ◌∷◌, ◌++◌, add-one, ap, arith, filter, inl, inr}
use Rattle.std.proofs.Common.{if◌then◌else◌, map, nat_le, refl, sym}
use Rattle.std.specs.Prelude.{not}
use Rattle.std.specs.List.{cons_option, list_any, range_with_len}
use Rattle.std.proofs.lemmas.Bool.Decides.{eqb_tells, nat_tests}
use Rattle.std.proofs.lemmas.List.{map-append}
use Rattle.std.proofs.lemmas.List.Elements.{filter-append}
use Rattle.site_types.specs.declared.retained.Retained.{Retained}
use Rattle.site_types.specs.declared.site.Site.{Site}
use Rattle.face_text.specs.declared.step.Step.{Step}
use Rattle.face_text.specs.Faces.{same_faces}
use Rattle.loop_poller.proofs.Windows.{range-more}
use Rattle.panel_rules.specs.Moments.{Moment, Began, Happened, Turned, Kept, tick_of, up_to}
use Rattle.panel_rules.specs.Timeline.{faces_of, failed_now, failed_ticks, has_answer, is_told, step_of}
use Rattle.panel_rules.proofs.AnswersTell.{eq_true}
use Rattle.panel_rules.proofs.Stays.{up_to_here}
use Rattle.panel_bridges.specs.ClosedSteps.{step_closed, steps_upto}

-- what goes by numbers of a range that pass a test
filtered_same : {X : Type 0} (f g : ℕ → X) (p q : ℕ → Bool) (first n : ℕ) → ((k : ℕ) → k < first + n → p k ≡ q k)
    → ((k : ℕ) → k < first + n → f k ≡ g k) → map f (filter p (range_with_len first n)) ≡ map g (filter q (range_with_len first n))
filtered_same f g p q first zero test same = refl
filtered_same f g p q first (suc n) test same =
    let rest = filtered_same f g p q (first + 1) n (λ k within. test k (omega arith)) (λ k within. same k (omega arith)) in
    first_of (p first) (q first) (test first (omega arith)) rest
  where
    first_of : (a b : Bool) → a ≡ b → map f (filter p (range_with_len (first + 1) n)) ≡ map g (filter q (range_with_len (first + 1) n))
        → map f (if a then first ∷ filter p (range_with_len (first + 1) n) else filter p (range_with_len (first + 1) n))
        ≡ map g (if b then first ∷ filter q (range_with_len (first + 1) n) else filter q (range_with_len (first + 1) n))
    first_of true true e rest = rw (same first (omega arith)) (ap (λ xs. g first ∷ xs) rest)
    first_of true false e rest = cc
    first_of false true e rest = cc
    first_of false false e rest = rest

-- one number more
filtered_more : {X : Type 0} (f : ℕ → X) (p : ℕ → Bool) (n : ℕ) → map f (filter p (range_with_len 1 (n + 1))) ≡ map f (filter p (range_with_len 1 n))
    ++ (if p (1 + n) then f (1 + n) ∷ [] else [])
filtered_more f p n =
    ap (λ xs. map f (filter p xs)) (range-more 1 n)
    ∙ ap (map f) (filter-append p (range_with_len 1 n) ((1 + n) ∷ []))
    ∙ map-append f (filter p (range_with_len 1 n)) (filter p ((1 + n) ∷ []))
    ∙ ap (λ xs. map f (filter p (range_with_len 1 n)) ++ xs) (last (p (1 + n)) refl)
  where
    last : (b : Bool) → p (1 + n) ≡ b → map f (filter p ((1 + n) ∷ [])) ≡ (if b then f (1 + n) ∷ [] else [])
    last true e = rw e refl
    last false e = rw e refl

after : (a b : ℕ) → b < a → nat_le a b ≡ false
after a b less = grind (arith, nat_tests)

-- before the tick of its newest moment a history is as it was without it
pub up_to_later : (moment : Moment) (before : List Moment) (tick : ℕ) → tick < tick_of (moment ∷ before)
    → up_to tick (moment ∷ before) ≡ up_to tick before
up_to_later moment before tick less = rw (after (tick_of (moment ∷ before)) tick less) refl

module _ (site : Site) (kept : Retained) where
  -- by the faces and the answers of a history and the faces of an earlier one, the history's last tick is told
  abbrev pub told_by : List Moment → List Moment → Bool
  told_by now earlier = not (same_faces (faces_of site kept now) (faces_of site kept earlier)) || has_answer site kept now

  told_later : (moment : Moment) (before : List Moment) (tick : ℕ) → tick < tick_of (moment ∷ before)
      → is_told site kept (moment ∷ before) tick ≡ is_told site kept before tick
  told_later moment before tick less =
      ap (λ now. told_by now (up_to (tick - 1) (moment ∷ before))) (up_to_later moment before tick less)
      ∙ ap (λ earlier. told_by (up_to tick before) earlier) (up_to_later moment before (tick - 1) (omega arith))

  -- steps of earlier ticks are as they were
  pub steps_later : (moment : Moment) (before : List Moment) (last : ℕ) → last < tick_of (moment ∷ before)
      → steps_upto site kept (moment ∷ before) last ≡ steps_upto site kept before last
  steps_later moment before last less =
      filtered_same (λ tick. step_of site kept (up_to tick (moment ∷ before))) (λ tick. step_of site kept (up_to tick before))
      (is_told site kept (moment ∷ before)) (is_told site kept before) 1 last
      (λ k within. told_later moment before k (omega arith))
      (λ k within. ap (step_of site kept) (up_to_later moment before k (omega arith)))

  -- a tick of the history, or none
  steps_before : (moment : Moment) (before : List Moment) (last : ℕ) → (last ≡ 0) ⊎ (last < tick_of (moment ∷ before))
      → steps_upto site kept (moment ∷ before) last ≡ steps_upto site kept before last
  steps_before moment before last (inl none) = rw none refl
  steps_before moment before last (inr less) = steps_later moment before last less

  none_or_less : (tick : ℕ) → (tick - 1 ≡ 0) ⊎ (tick - 1 < tick)
  none_or_less zero = inl refl
  none_or_less (suc tick) = inr (omega arith)

  -- a moment that begins no tick tells nothing new
  pub steps_stay : (moment : Moment) (before : List Moment) → tick_of (moment ∷ before) ≡ tick_of before
      → steps_upto site kept (moment ∷ before) (tick_of (moment ∷ before) - 1) ≡ steps_upto site kept before (tick_of before - 1)
  steps_stay moment before same =
      steps_before moment before (tick_of (moment ∷ before) - 1) (none_or_less (tick_of (moment ∷ before)))
      ∙ ap (λ tick. steps_upto site kept before (tick - 1)) same

  pub faces_stay : (moment : Moment) (before : List Moment) → tick_of (moment ∷ before) ≡ tick_of before → 1 ≤ tick_of (moment ∷ before)
      → faces_of site kept (up_to (tick_of (moment ∷ before) - 1) (moment ∷ before)) ≡ faces_of site kept (up_to (tick_of before - 1) before)
  faces_stay moment before same begun =
      ap (faces_of site kept) (up_to_later moment before (tick_of (moment ∷ before) - 1) (omega arith))
      ∙ ap (λ tick. faces_of site kept (up_to (tick - 1) before)) same

  -- the next tick begins
  pub steps_next : (before : List Moment)
      → steps_upto site kept (Began ∷ before) (tick_of (Began ∷ before) - 1) ≡ steps_upto site kept before (tick_of before)
  steps_next before =
      let last : tick_of before + 1 - 1 ≡ tick_of before = omega arith in
      ap (steps_upto site kept (Began ∷ before)) last ∙ steps_later Began before (tick_of before) (omega arith)

  pub faces_next : (before : List Moment) → faces_of site kept (up_to (tick_of (Began ∷ before) - 1) (Began ∷ before)) ≡ faces_of site kept before
  faces_next before =
      let last : tick_of before + 1 - 1 ≡ tick_of before = omega arith in
      ap (λ tick. faces_of site kept (up_to tick (Began ∷ before))) last
      ∙ ap (faces_of site kept) (up_to_later Began before (tick_of before) (omega arith) ∙ up_to_here before)

  -- with the step of the tick that began last
  pub steps_closed : (moments : List Moment) → steps_upto site kept moments (tick_of moments) ≡ steps_upto site kept moments (tick_of moments - 1)
      ++ cons_option (step_closed site kept moments) []
  steps_closed moments = closed (tick_of moments) refl
    where
      chosen : (b : Bool) (step : Step) → (if b then step ∷ [] else []) ≡ cons_option (if b then Some step else None) []
      chosen true step = refl
      chosen false step = refl

      closed : (tick : ℕ) → tick_of moments ≡ tick → steps_upto site kept moments tick ≡ steps_upto site kept moments (tick - 1)
          ++ cons_option (if nat_le 1 tick && is_told site kept moments tick then Some (step_of site kept moments) else None) []
      closed zero at = refl
      closed (suc last) at =
          let back : suc last - 1 ≡ last = omega arith in
          let next : 1 + last ≡ suc last = omega arith in
          let begun : nat_le 1 (suc last) ≡ true = grind (arith, nat_tests) in
          let here : up_to (suc last) moments ≡ moments = ap (λ tick. up_to tick moments) (sym at) ∙ up_to_here moments in
          ap (steps_upto site kept moments) (sym (add-one last))
          ∙ filtered_more (λ tick. step_of site kept (up_to tick moments)) (is_told site kept moments) last
          ∙ ap (λ tick. steps_upto site kept moments last
          ++ (if is_told site kept moments tick then step_of site kept (up_to tick moments) ∷ [] else [])) next
          ∙ ap (λ now. steps_upto site kept moments last ++ (if is_told site kept moments (suc last) then step_of site kept now ∷ [] else [])) here
          ∙ ap (λ xs. steps_upto site kept moments last ++ xs) (chosen (is_told site kept moments (suc last)) (step_of site kept moments))
          ∙ rw (back, begun) refl

  none_later : (moments : List Moment) (tick : ℕ) → tick_of moments < tick → list_any (λ other. other == tick) (failed_ticks moments) ≡ false
  none_later [] tick less = refl
  none_later (Began ∷ before) tick less = none_later before tick (omega arith)
  none_later (Happened event ∷ before) tick less = none_later before tick less
  none_later (Turned panel task ∷ before) tick less = none_later before tick less
  none_later (Kept true ∷ before) tick less = rw (not_same (tick_of before) tick less) (none_later before tick less)
    where
      not_same : (a b : ℕ) → a < b → (a == b) ≡ false
      not_same a b less = elim (eqb_tells a b) [ inl h ↦ absurd (omega (arith, h.1)) | inr h ↦ h.0 ]
  none_later (Kept false ∷ before) tick less = none_later before tick less

  pub failed_began : (before : List Moment) → failed_now site kept (Began ∷ before) ≡ false
  failed_began before = none_later before (tick_of before + 1) (omega arith)

  pub failed_kept : (failed : Bool) (before : List Moment) → failed_now site kept (Kept failed ∷ before) ≡ (failed || failed_now site kept before)
  failed_kept true before = rw (eq_true (tick_of before) (tick_of before) refl) refl
  failed_kept false before = refl
