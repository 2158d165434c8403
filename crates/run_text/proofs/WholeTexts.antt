-- The text that grows tick by tick is the text of the run.
use Rattle.std.proofs.Common.{◌≡◌, ◌∙◌, ℕ, zero, suc, ◌≤◌, ◌<◌, ◌+◌, ◌-◌, Bool, true, false, List, [], ◌∷◌, ◌++◌, length, map, if◌then◌else◌, refl, sym, ap, append_assoc, append-nil, arith}
use Rattle.std.specs.Prelude.{filter}
use Rattle.std.specs.List.{flat_map, range_with_len}
use Rattle.std.proofs.lemmas.Grind.{flat_map-append}
use Rattle.site_types.specs.declared.retained.Retained.{Retained}
use Rattle.site_types.specs.declared.site.Site.{Site}
use Rattle.face_text.specs.declared.face.Face.{Face}
use Rattle.face_text.specs.declared.step.Step.{Step}
use Rattle.face_text.specs.Timelines.{end_line, step_text, steps_text}
use Rattle.panel_rules.specs.Moments.{TickBlock, moments, up_to}
use Rattle.panel_rules.specs.Timeline.{faces_of, is_told, step_of, text_of_run}
use Rattle.panel_laws.proofs.Steps.{untold_is_same}
use Rattle.panel_laws.proofs.TimelineForms.{in_form}
use Rattle.run_text.specs.SoFar.{opening_text, text_so_far, tick_text}
use Rattle.run_text.specs.TextLaws.{TextIsWhole, TimelineIsOfRun}
use Rattle.run_text.proofs.TickTimes.{tick_moments, up_to_before, up_to_earlier, up_to_none, whole_up_to}

-- ---- steps, of which each tick has one or none

module _ (site : Site) (told : ℕ → Bool) (step_at : ℕ → Step) (stays : (tick : ℕ) → told tick ≡ false → (step_at tick).faces ≡ (step_at (tick - 1)).faces) where
  -- what a tick adds
  abbrev pub piece : ℕ → List ℕ
  piece tick = if told tick then step_text site (step_at (tick - 1)).faces (step_at tick) else []

  -- the text of the steps of told ticks is that of all ticks
  pub by_ticks : (many from : ℕ) (shown : List Face) → shown ≡ (step_at (from - 1)).faces
      → steps_text site shown (map step_at (filter told (range_with_len from many))) ≡ flat_map piece (range_with_len from many)
  by_ticks zero from shown same = refl
  by_ticks (suc many) from shown same = by (told from) refl (λ faces e. by_ticks many (from + 1) faces (e ∙ ap (λ t. (step_at t).faces) back))
    where
      back : from ≡ (from + 1) - 1
      back = omega arith

      by : (b : Bool) → told from ≡ b
          → ((faces : List Face) → faces ≡ (step_at from).faces
          → steps_text site faces (map step_at (filter told (range_with_len (from + 1) many))) ≡ flat_map piece (range_with_len (from + 1) many))
          → steps_text site shown
          (map step_at (if b then from ∷ filter told (range_with_len (from + 1) many) else filter told (range_with_len (from + 1) many)))
          ≡ (if b then step_text site (step_at (from - 1)).faces (step_at from) else []) ++ flat_map piece (range_with_len (from + 1) many)
      by true is ih =
          ap (λ faces. step_text site faces (step_at from) ++ steps_text site (step_at from).faces
          (map step_at (filter told (range_with_len (from + 1) many)))) same
          ∙ ap (λ text. step_text site (step_at (from - 1)).faces (step_at from) ++ text) (ih (step_at from).faces refl)
      by false is ih = ih shown (same ∙ sym (stays from is))

-- ---- ticks of a record

-- one number more
range_more : (from many : ℕ) → range_with_len from (suc many) ≡ range_with_len from many ++ (from + many) ∷ []
range_more from zero = ap (λ n. n ∷ []) (let e : from ≡ from + 0 = omega arith in e)
range_more from (suc many) =
    ap (λ ns. from ∷ ns)
    (range_more (from + 1) many ∙ ap (λ n. range_with_len (from + 1) many ++ n ∷ []) (let e : (from + 1) + many ≡ from + suc many = omega arith in e))

-- texts that are the same of each number
same_texts : (f g : ℕ → List ℕ) (many from : ℕ) → ((n : ℕ) → n < from + many → f n ≡ g n)
    → flat_map f (range_with_len from many) ≡ flat_map g (range_with_len from many)
same_texts f g zero from each = refl
same_texts f g (suc many) from each =
    ap (λ text. text ++ flat_map f (range_with_len (from + 1) many)) (each from (omega arith))
    ∙ ap (λ text. g from ++ text) (same_texts f g many (from + 1) (λ n l. each n (omega (arith, l))))

module _ (site : Site) (kept : Retained) where
  abbrev step_at : List TickBlock → ℕ → Step
  step_at ticks tick = step_of site kept (up_to tick (moments ticks))

  abbrev told_at : List TickBlock → ℕ → Bool
  told_at ticks tick = is_told site kept (moments ticks) tick

  abbrev adds : List TickBlock → ℕ → List ℕ
  adds ticks tick = tick_text site kept (up_to (tick - 1) (moments ticks)) (up_to tick (moments ticks))

  -- what one tick adds, where there is one more
  earlier_adds : (tick : TickBlock) (ticks : List TickBlock) (t : ℕ) → t ≤ length ticks → adds (tick ∷ ticks) t ≡ adds ticks t
  earlier_adds tick ticks t by =
      ap (λ before. tick_text site kept before (up_to t (moments (tick ∷ ticks)))) (up_to_earlier tick ticks (t - 1) (omega (arith, by)))
      ∙ ap (tick_text site kept (up_to (t - 1) (moments ticks))) (up_to_earlier tick ticks t by)

  last_adds : (tick : TickBlock) (ticks : List TickBlock)
      → adds (tick ∷ ticks) (1 + length ticks) ≡ tick_text site kept (moments ticks) (moments (tick ∷ ticks))
  last_adds tick ticks =
      ap (λ before. tick_text site kept before (up_to (1 + length ticks) (moments (tick ∷ ticks)))) (ap (λ t. up_to t (moments (tick ∷ ticks))) back ∙ up_to_before tick ticks)
      ∙ ap (tick_text site kept (moments ticks)) (ap (λ t. up_to t (moments (tick ∷ ticks))) same ∙ whole_up_to (tick ∷ ticks))
    where
      back : (1 + length ticks) - 1 ≡ length ticks
      back = omega arith

      same : 1 + length ticks ≡ length (tick ∷ ticks)
      same = omega arith

  -- the text so far is what all ticks add
  so_far : (ticks : List TickBlock) → text_so_far site kept ticks ≡ opening_text site kept ++ flat_map (adds ticks) (range_with_len 1 (length ticks))
  so_far [] = sym (append-nil (opening_text site kept))
  so_far (tick ∷ ticks) =
      ap (λ text. text ++ tick_text site kept (moments ticks) (moments (tick ∷ ticks))) (so_far ticks)
      ∙ append_assoc (opening_text site kept) (flat_map (adds ticks) (range_with_len 1 (length ticks))) (tick_text site kept (moments ticks) (moments (tick ∷ ticks)))
      ∙ ap (λ text. opening_text site kept ++ text) (sym grown)
    where
      grown : flat_map (adds (tick ∷ ticks)) (range_with_len 1 (length (tick ∷ ticks)))
          ≡ flat_map (adds ticks) (range_with_len 1 (length ticks)) ++ tick_text site kept (moments ticks) (moments (tick ∷ ticks))
      grown =
          ap (flat_map (adds (tick ∷ ticks))) (range_more 1 (length ticks))
          ∙ flat_map-append (adds (tick ∷ ticks)) (range_with_len 1 (length ticks)) ((1 + length ticks) ∷ [])
          ∙ ap (λ text. text ++ flat_map (adds (tick ∷ ticks)) ((1 + length ticks) ∷ []))
          (same_texts (adds (tick ∷ ticks)) (adds ticks) (length ticks) 1 (λ t l. earlier_adds tick ticks t (omega (arith, l))))
          ∙ ap (λ text. flat_map (adds ticks) (range_with_len 1 (length ticks)) ++ text) (append-nil (adds (tick ∷ ticks) (1 + length ticks)) ∙ last_adds tick ticks)

  -- the steps of the timeline are the told ticks
  by_steps : (ticks : List TickBlock)
      → steps_text site (faces_of site kept []) (map (step_at ticks) (filter (told_at ticks) (range_with_len 1 (length ticks))))
      ≡ flat_map (adds ticks) (range_with_len 1 (length ticks))
  by_steps ticks =
      by_ticks site (told_at ticks) (step_at ticks) (λ tick untold. (untold_is_same site kept (moments ticks) tick untold).0) (length ticks) 1
      (faces_of site kept []) (ap (faces_of site kept) (sym (up_to_none ticks)))

  whole : (ticks : List TickBlock) → text_so_far site kept ticks ++ end_line (length ticks) ≡ text_of_run site kept (moments ticks)
  whole ticks =
      ap (λ text. text ++ end_line (length ticks)) (so_far ticks)
      ∙ ap (λ text. opening_text site kept ++ text ++ end_line (length ticks)) (sym (by_steps ticks))
      ∙ ap (λ last. opening_text site kept ++ steps_text site (faces_of site kept [])
      (map (step_at ticks) (filter (told_at ticks) (range_with_len 1 last))) ++ end_line last) (sym (tick_moments ticks))

pub is_whole : TextIsWhole
is_whole site kept ticks = whole site kept ticks

pub of_run : TimelineIsOfRun
of_run site kept ticks can = (in_form site kept (moments ticks) can, whole site kept ticks)
