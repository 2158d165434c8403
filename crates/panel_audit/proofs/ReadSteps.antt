-- Which faces a text shows once so many of its steps were read.
use Rattle.std.proofs.Common.{◌≡◌, ◌∙◌, ◌-◌, ◌<◌, ◌≤◌, ℕ, zero, suc, List, [], ◌∷◌, refl, sym, ap, arith, length, Option, Some, None, inl, inr}
use Rattle.std.proofs.Common.{slice_get, get_or}
use Rattle.std.proofs.lemmas.Bool.Decides.{leb_tells}
use Rattle.site_types.specs.declared.site.Site.{Site}
use Rattle.face_text.specs.declared.face.Face.{Face}
use Rattle.face_text.specs.declared.step.Step.{Step}
use Rattle.face_text.specs.declared.timeline.Timeline.{Timeline}
use Rattle.face_text.specs.Timelines.{AreSteps, IsInForm}
use Rattle.audit_rules.specs.Shown.{faces_after}
use Rattle.told_operations.specs.Founding.{DoRise}
use Rattle.shown_causes.specs.Faults.{DoStepsRise}
use Rattle.panel_audit.specs.ShownSteps.{ReadsUpTo}

-- ---- the steps of a timeline in form

later_than : (site : Site) (steps : List Step) (tick last : ℕ) (faces : List Face) → AreSteps site tick faces last steps → (place : ℕ) (step : Step)
    → slice_get steps place ≡ Some step → tick < step.tick.0
later_than site [] tick last faces form place step is = cc
later_than site (s ∷ steps) tick last faces form zero step is = (let e : s ≡ step = same is in let low = form.0 in rw (sym e) low)
  where
    same : Some s ≡ Some step → s ≡ step
    same e = cc
later_than site (s ∷ steps) tick last faces form (suc place) step is =
    (let low = form.0 in let far = later_than site steps s.tick.0 last s.faces form.4 place step is in omega (arith, low, far))

rising : (site : Site) (steps : List Step) (tick last : ℕ) (faces : List Face) → AreSteps site tick faces last steps → (place later : ℕ) (one other : Step)
    → place < later → slice_get steps place ≡ Some one → slice_get steps later ≡ Some other → one.tick.0 < other.tick.0
rising site [] tick last faces form place later one other low is are = cc
rising site (s ∷ steps) tick last faces form zero zero one other low is are = absurd (omega (arith, low))
rising site (s ∷ steps) tick last faces form zero (suc later) one other low is are =
    (let e : s ≡ one = same is in rw (sym e) (later_than site steps s.tick.0 last s.faces form.4 later other are))
  where
    same : Some s ≡ Some one → s ≡ one
    same e = cc
rising site (s ∷ steps) tick last faces form (suc place) zero one other low is are = absurd (omega (arith, low))
rising site (s ∷ steps) tick last faces form (suc place) (suc later) one other low is are =
    rising site steps s.tick.0 last s.faces form.4 place later one other (omega (arith, low)) is are

pub steps_rise : (site : Site) (timeline : Timeline) → IsInForm site timeline → DoStepsRise timeline.steps
steps_rise site timeline form = record {
  from_one = λ place step is. (let low = later_than site timeline.steps 0 timeline.last.0 timeline.opened form.steps place step is in omega (arith, low));
  rise = rising site timeline.steps 0 timeline.last.0 timeline.opened form.steps;
}

-- ---- step by step

pub reads_none : (steps : List Step) → DoStepsRise steps → ReadsUpTo steps 0 0
reads_none steps rise = record {
  within = omega arith;
  read = λ place step low is. absurd (omega (arith, low));
  left = λ place step low is. (let begin = rise.from_one place step is in omega (arith, begin));
}

-- ---- the faces then

abbrev pub faces_of_step : Option Step → List Face → List Face
faces_of_step None faces = faces
faces_of_step (Some step) faces = step.faces

-- those of the last step that was read, else those at opening
abbrev pub faces_read : ℕ → List Face → List Step → List Face
faces_read zero faces steps = faces
faces_read (suc count) faces steps = faces_of_step (slice_get steps count) faces

pub faces_are : (steps : List Step) (tick count : ℕ) (faces : List Face) → ReadsUpTo steps tick count → faces_after tick faces steps ≡ faces_read count faces steps
faces_are [] tick zero faces reads = refl
faces_are [] tick (suc count) faces reads = (let within = reads.within in absurd (omega (arith, within)))
faces_are (step ∷ steps) tick zero faces reads =
    (let far = reads.left 0 step (omega arith) refl in
    elim (leb_tells step.tick.0 tick) [
      | inl h ↦ (let low = h.1 in absurd (omega (arith, far, low)))
      | inr h ↦ rw h.0 refl
    ])
faces_are (step ∷ steps) tick (suc count) faces reads =
    (let early = reads.read 0 step (omega arith) refl in
    let rest : ReadsUpTo steps tick count = record {
      within = (let within = reads.within in omega (arith, within));
      read = λ place one low is. reads.read (suc place) one (omega (arith, low)) is;
      left = λ place one low is. reads.left (suc place) one (omega (arith, low)) is;
    } in
    elim (leb_tells step.tick.0 tick) [
      | inl h ↦ rw h.0 (faces_are steps tick count step.faces rest ∙ goes_on count rest.within)
      | inr h ↦ (let far = h.1 in absurd (omega (arith, far, early)))
    ])
  where
    there : (xs : List Step) (k : ℕ) (one other : List Face) → k < length xs → faces_of_step (slice_get xs k) one ≡ faces_of_step (slice_get xs k) other
    there [] k one other low = absurd (omega (arith, low))
    there (x ∷ xs) zero one other low = refl
    there (x ∷ xs) (suc k) one other low = there xs k one other (omega (arith, low))

    goes_on : (n : ℕ) → n ≤ length steps → faces_read n step.faces steps ≡ faces_of_step (slice_get (step ∷ steps) n) faces
    goes_on zero within = refl
    goes_on (suc n) within = there steps n step.faces faces within

step_at : (xs : List Step) (k : ℕ) (x : Step) → k < length xs → x ≡ get_or xs k x → slice_get xs k ≡ Some x
step_at [] k x low is = absurd (omega (arith, low))
step_at (y ∷ ys) zero x low is = ap Some (sym is)
step_at (y ∷ ys) (suc k) x low is = step_at ys k x (omega (arith, low)) is

-- where some step was read
pub last_faces : (steps : List Step) (tick count : ℕ) (faces : List Face) (step : Step) → ReadsUpTo steps tick count → (count ≡ 0 → ⊥)
    → step ≡ get_or steps (count - 1) step → step.faces ≡ faces_after tick faces steps
last_faces steps tick zero faces step reads some is = absurd (some refl)
last_faces steps tick (suc count) faces step reads some is =
    let within = reads.within in
    ap (λ found. faces_of_step found faces) (sym (step_at steps count step (omega (arith, within))
    (is ∙ ap (λ n. get_or steps n step) (let e : suc count - 1 ≡ count = omega arith in e)))) ∙ sym (faces_are steps tick (suc count) faces reads)

-- the same for those who look for unfounded answers
pub do_rise : (site : Site) (steps : List Step) (tick last : ℕ) (faces : List Face) → AreSteps site tick faces last steps → DoRise tick steps
do_rise site [] tick last faces form = tt
do_rise site (step ∷ steps) tick last faces form = (form.0, do_rise site steps step.tick.0 last step.faces form.4)
