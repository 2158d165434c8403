-- What the lines of a text tell is in form, and its text is that of the lines.
use Rattle.std.proofs.Common.{◌≡◌, ◌≢◌, ◌∙◌, ◌⊎◌, ◌<◌, ◌≤◌, ◌+◌, ◌-◌, ◌^◌, ◌++◌, ◌==◌, ℕ, zero, suc, Bool, true}
use Rattle.std.proofs.Common.{false, List, [], ◌∷◌, Some, length, map, refl, sym, ap, subst, inl, inr, append_assoc}
use Rattle.std.proofs.Common.{arith, if◌then◌else◌}
use Rattle.std.specs.Prelude.{nat_lt, slice_get}
use Rattle.std.specs.List.{range_with_len}
use Rattle.std.proofs.lemmas.Bool.{eq-eqb, eqb-true, ltb-true, ne_eqb, or_cases}
use Rattle.std.proofs.lemmas.List.{append-nil, length-map}
use Rattle.std.proofs.lemmas.List.FromFn.{map-range_with_len_more}
use Rattle.site_types.specs.declared.site.Site.{Site}
use Rattle.face_text.specs.declared.answers.Answers.{Answers}
use Rattle.face_text.specs.declared.face.Face.{Face}
use Rattle.face_text.specs.declared.step.Step.{Step}
use Rattle.face_text.specs.Answers.{answers_text}
use Rattle.face_text.specs.Faces.{empty_face}
use Rattle.face_text.specs.Timelines.{AreAnswers, AreFaces, AreSteps, HasAnswer, IsFaceOf, empty_faces, faces_text, opening_line, step_text, steps_text, tick_line}
use Rattle.face_reading.specs.Reading.{Told, block_of, may_close, no_answers, nothing_told, opened_by, steps_by}
use Rattle.face_reading.proofs.ReadSoFar.{faces_behind, told_text}
use Rattle.face_reading.proofs.AnswerLines.{answered_or_not, answers_are, nothing_answered, nothing_answered_text}
use Rattle.face_reading.proofs.TickBlocks.{IsBlock, block_text}
use Rattle.face_reading.proofs.ChangedFaces.{ArePages, pages_after, same_faces_no_text, untold_pages}
use Rattle.face_reading.proofs.FaceForm.{keeps_form}

-- ---- faces of all panels

faces_at : (site : Site) (panel : ℕ) (faces : List Face) → ArePages site panel faces → (place : ℕ) (face : Face) → slice_get faces place ≡ Some face
    → IsFaceOf site (panel + place) face
faces_at site panel [] are place face is = cc
faces_at site panel (first ∷ faces) are zero face is =
    let same : first ≡ face = cc in
    let at : panel + zero ≡ panel = omega arith in rw at (subst (IsFaceOf site panel) same are.0)
faces_at site panel (first ∷ faces) are (suc place) face is =
    let at : suc panel + place ≡ panel + suc place = omega arith in
    subst (λ (p : ℕ). IsFaceOf site p face) at (faces_at site (suc panel) faces are.1 place face is)

pub faces_are : (site : Site) (faces : List Face) → ArePages site 1 faces → length faces ≡ site.panels → AreFaces site faces
faces_are site faces are count =
    record {
      count = count;
      each = λ place face is. let at : 1 + place ≡ place + 1 = omega arith in
          subst (λ (p : ℕ). IsFaceOf site p face) at (faces_at site 1 faces are place face is);
    }

pages_from : (site : Site) (panel : ℕ) (faces : List Face)
    → ((place : ℕ) (face : Face) → slice_get faces place ≡ Some face → IsFaceOf site (panel + place) face) → ArePages site panel faces
pages_from site panel [] each = tt
pages_from site panel (face ∷ faces) each =
    let at : panel + zero ≡ panel = omega arith in (
      subst (λ (p : ℕ). IsFaceOf site p face) at (each zero face refl),
      pages_from site (suc panel) faces (λ place other is. let next : panel + suc place ≡ suc panel + place = omega arith in
          subst (λ (p : ℕ). IsFaceOf site p other) next (each (suc place) other is)),
    )

pub pages_are : (site : Site) (faces : List Face) → AreFaces site faces → ArePages site 1 faces
pages_are site faces are =
    pages_from site 1 faces (λ place face is. let at : place + 1 ≡ 1 + place = omega arith in
    subst (λ (p : ℕ). IsFaceOf site p face) at (are.each place face is))

empty_pages : (site : Site) → (panel count : ℕ) → ArePages site panel (map empty_face (range_with_len panel count))
empty_pages site panel zero = tt
empty_pages site panel (suc count) =
    let next : panel + 1 ≡ suc panel = omega arith in (
      keeps_form.empty site panel,
      subst (λ (p : ℕ). ArePages site (suc panel) (map empty_face (range_with_len p count))) (sym next)
          (empty_pages site (suc panel) count),
    )

range_size : (first count : ℕ) → length (range_with_len first count) ≡ count
range_size first zero = refl
range_size first (suc count) = ap suc (range_size (first + 1) count)

pub empty_faces_are : (site : Site) → AreFaces site (empty_faces site)
empty_faces_are site =
    faces_are site (empty_faces site) (empty_pages site 1 site.panels)
    (length-map (range_with_len 1 site.panels) empty_face ∙ range_size 1 site.panels)

pub empty_faces_more : (place : ℕ) (faces more : List Face) (face : Face) → faces ≡ map empty_face (range_with_len 1 place)
    → face ≡ empty_face (place + 1) → more ≡ faces ++ face ∷ [] →
    more ≡ map empty_face (range_with_len 1 (place + 1))
empty_faces_more place faces more face so_far is one_more =
    let next : 1 + place ≡ place + 1 = omega arith in
    one_more ∙ ap (λ (all : List Face). all ++ face ∷ []) so_far ∙ ap (λ (last : Face). map empty_face (range_with_len 1 place) ++ last ∷ []) is
    ∙ sym (map-range_with_len_more empty_face 1 place (place + 1) next)

-- ---- what is told is in form

-- the faces before the block
abbrev pub befores_of : Site → Told → List Face
befores_of site told = if told.tick.0 == 0 then empty_faces site else faces_behind told.opened told.steps

-- the text before the block
abbrev pub head_text : Site → Told → List ℕ
head_text site told =
    opening_line site
    ++ (if told.tick.0 == 0 then [] else (faces_text site (empty_faces site) told.opened ++ steps_text site told.opened told.steps
    ++ tick_line told.tick.0))

pub record IsToldForm (site : Site) (told : Told) : Type 0 where
  pub block : IsBlock site told.rank (befores_of site told) told.faces told.answers
  pub small : told.tick.0 < 2 ^ 64
  pub unanswered : told.tick.0 ≡ 0 → answers_text told.answers ≡ []
  pub no_steps : told.tick.0 ≡ 0 → told.steps ≡ []
  pub opened : 0 < told.tick.0 → AreFaces site told.opened
  pub steps : 0 < told.tick.0 → AreSteps site 0 told.opened (told.tick.0 - 1) told.steps

text_by :
    (site : Site) (opening : Bool) (line first steps tick answers : List ℕ) (empties behind faces : List Face) → (opening ≡ true → answers ≡ [])
    → line ++ (if opening then faces_text site empties faces else (first ++ steps ++ (tick ++ faces_text site behind faces ++ answers)))
    ≡ (line ++ (if opening then [] else (first ++ steps ++ tick))) ++ (faces_text site (if opening then empties else behind) faces ++ answers)
text_by site true line first steps tick answers empties behind faces unanswered =
    rw (unanswered refl, append-nil (faces_text site empties faces), append-nil line) refl
text_by site false line first steps tick answers empties behind faces unanswered = simp append_assoc

pub told_text_is : (site : Site) (told : Told) → IsToldForm site told → told_text site told ≡ head_text site told
    ++ block_text site (befores_of site told) told.faces told.answers
told_text_is site told form =
    text_by site (told.tick.0 == 0) (opening_line site) (faces_text site (empty_faces site) told.opened) (steps_text site told.opened told.steps)
    (tick_line told.tick.0) (answers_text told.answers) (empty_faces site)
    (faces_behind told.opened told.steps) told.faces (λ e. form.unanswered (eqb-true told.tick.0 0 e))

pub no_answers_text : (site : Site) → answers_text no_answers ≡ []
no_answers_text site = nothing_answered_text site 0 no_answers (nothing_answered site) (omega arith)

-- a block without a line
pub untold_block : (site : Site) (faces : List Face) → AreFaces site faces → IsBlock site 0 faces faces no_answers
untold_block site faces are =
    record {
      pages = untold_pages site 1 faces (pages_are site faces are);
      count = are.count;
      answered = nothing_answered site;
      content =
          λ some. absurd (omega (arith, some));
    }

pub nothing_is_told : (site : Site) → IsToldForm site (nothing_told site)
nothing_is_told site =
    record {
      block = untold_block site (empty_faces site) (empty_faces_are site);
      small = omega arith;
      unanswered = λ e. no_answers_text site;
      no_steps = λ e. refl;
      opened = λ some. absurd (omega (arith, some));
      steps = λ some. absurd (omega (arith, some));
    }

pub nothing_told_text : (site : Site) → told_text site (nothing_told site) ≡ opening_line site
nothing_told_text site = rw (same_faces_no_text site (empty_faces site)) (append-nil (opening_line site))

-- ---- a block is closed

steps_more :
    (site : Site) (tick last : ℕ) (before : List Face) (steps : List Step) (step : Step) → AreSteps site tick before (step.tick.0 - 1) steps
    → 0 < step.tick.0 → AreFaces site step.faces
    → AreAnswers site step.answers → (step.faces ≢ faces_behind before steps) ⊎ HasAnswer step.answers → step.tick.0 ≤ last
    → AreSteps site tick before last (steps ++ step ∷ [])
steps_more site tick last before [] step are some faces answers content less = (omega (arith, are, some), faces, answers, content, less)
steps_more site tick last before (first ∷ steps) step are some faces answers content less =
    (are.0, are.1, are.2, are.3, steps_more site first.tick.0 last first.faces steps step are.4 some faces answers content less)

steps_text_more : (site : Site) (before : List Face) (steps : List Step) (step : Step) →
    steps_text site before (steps ++ step ∷ []) ≡ steps_text site before steps ++ step_text site (faces_behind before steps) step
steps_text_more site before [] step = append-nil (step_text site before step)
steps_text_more site before (first ∷ steps) step =
    ap (λ t. step_text site before first ++ t) (steps_text_more site first.faces steps step)
    ∙ sym (append_assoc (step_text site before first) (steps_text site first.faces steps) (step_text site (faces_behind first.faces steps) step))

faces_behind_more : (before : List Face) (steps : List Step) (step : Step) → faces_behind before (steps ++ step ∷ []) ≡ step.faces
faces_behind_more before [] step = refl
faces_behind_more before (first ∷ steps) step = faces_behind_more first.faces steps step

-- a block with a line has a change or an answer
block_content : (site : Site) (rank : ℕ) (befores faces : List Face) (answers : Answers) → IsBlock site rank befores faces answers → 0 < rank
    → (faces ≢ befores) ⊎ HasAnswer answers
block_content site rank befores faces answers block some =
    elim (answered_or_not answers block.answered.panels) [
      | inl has ↦ inr has
      | inr none ↦ inl (λ same. block.content some (silent same none))
    ]
  where
    silent : faces ≡ befores → answers_text answers ≡ [] → block_text site befores faces answers ≡ []
    silent same none = rw (none, same, same_faces_no_text site befores) refl

-- what is told, with its block closed by a tick or by the end
pub record IsClosed (site : Site) (told : Told) (last : ℕ) : Type 0 where
  pub opened : AreFaces site (opened_by told)
  pub steps : AreSteps site 0 (opened_by told) last (steps_by told)
  pub text : opening_line site ++ faces_text site (empty_faces site) (opened_by told) ++ steps_text site (opened_by told) (steps_by told)
      ≡ told_text site told
  pub behind : faces_behind (opened_by told) (steps_by told) ≡ told.faces

pub told_faces_are : (site : Site) (told : Told) → IsToldForm site told → AreFaces site told.faces
told_faces_are site told form =
    faces_are site told.faces (pages_after site told.rank 1 (befores_of site told) told.faces form.block.pages) form.block.count

closed_opening : (site : Site) (told : Told) (last : ℕ) → IsToldForm site told → told.tick.0 ≡ 0 → IsClosed site told last
closed_opening site told last form zero_tick =
    let e : (told.tick.0 == 0) ≡ true = eq-eqb told.tick.0 0 zero_tick in
    record {
      opened = rw e (told_faces_are site told form);
      steps = rw (e, form.no_steps zero_tick) (omega arith);
      text = rw (e, form.no_steps zero_tick) (append-nil _);
      behind = rw (e, form.no_steps zero_tick) refl;
    }

closed_tick : (site : Site) (told : Told) (last : ℕ) → IsToldForm site told → 0 < told.tick.0 → 0 < told.rank → told.tick.0 ≤ last
    → IsClosed site told last
closed_tick site told last form some ranked less =
    let e : (told.tick.0 == 0) ≡ false = ne_eqb told.tick.0 0 (λ z. omega (arith, z, some)) in
    let content : (told.faces ≢ faces_behind told.opened told.steps) ⊎ HasAnswer told.answers =
    rw e at (block_content site told.rank (befores_of site told) told.faces told.answers form.block ranked) in
    record {
      opened = rw e (form.opened some);
      steps =
          rw e
          (steps_more site 0 last told.opened told.steps (block_of told) (form.steps some) some (told_faces_are site told form)
          (answers_are site told.rank told.answers form.block.answered) content less);
      text =
          rw e
          (ap (λ t. (opening_line site ++ faces_text site (empty_faces site) told.opened) ++ t)
          (steps_text_more site told.opened told.steps (block_of told))
          ∙ regroup (opening_line site) (faces_text site (empty_faces site) told.opened) (steps_text site told.opened told.steps)
          (step_text site (faces_behind told.opened told.steps) (block_of told)));
      behind = rw e (faces_behind_more told.opened told.steps (block_of told));
    }
  where
    regroup : (a b c d : List ℕ) → (a ++ b) ++ (c ++ d) ≡ a ++ ((b ++ c) ++ d)
    regroup a b c d = simp append_assoc

pub closed : (site : Site) (told : Told) (last : ℕ) → IsToldForm site told → may_close told ≡ true → told.tick.0 ≤ last → IsClosed site told last
closed site told last form may less =
    elim (or_cases (told.tick.0 == 0) (nat_lt 0 told.rank) may) [
      | inl e ↦ closed_opening site told last form (eqb-true told.tick.0 0 e)
      | inr e ↦
          elim (tick_cases told.tick.0) [
            | inl z ↦ closed_opening site told last form z
            | inr some ↦ closed_tick site told last form some (ltb-true 0 told.rank e) less
          ]
    ]
  where
    tick_cases : (n : ℕ) → (n ≡ 0) ⊎ (0 < n)
    tick_cases zero = inl refl
    tick_cases (suc n) = inr (omega arith)
