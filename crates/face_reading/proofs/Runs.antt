-- The lines of each timeline in form may stand one behind another, and tell it.
use Rattle.std.proofs.Common.{◌≡◌, ◌≢◌, ◌∙◌, ◌⊎◌, ◌<◌, ◌≤◌, ◌-◌, ◌^◌, ◌++◌, ◌==◌, ℕ, Bool, true, false, List, [], ◌∷◌, Some, length, refl, sym, ap, subst, inl, inr, append_assoc, arith}
use Rattle.std.specs.Prelude.{nat_le, nat_lt}
use Rattle.std.proofs.lemmas.Bool.{le-leb, lt-ltb, ne_eqb, true≢false}
use Rattle.std.proofs.lemmas.List.{append-nil}
use Rattle.site_types.specs.declared.site.Site.{Site}
use Rattle.face_text.specs.declared.answers.Answers.{Answers}
use Rattle.face_text.specs.declared.face.Face.{Face}
use Rattle.face_text.specs.declared.step.Step.{Step}
use Rattle.face_text.specs.declared.timeline.Timeline.{Timeline}
use Rattle.face_text.specs.Timelines.{AreAnswers, AreFaces, AreSteps, HasAnswer, IsInForm, empty_faces, end_line, opening_line, text_of}
use Rattle.face_reading.specs.declared.entry.Entry.{Entry}
use Rattle.face_reading.specs.declared.entry.Entry.TheVariants.{Tick as TickEntry}
use Rattle.face_reading.specs.Reading.{Told, may_close, no_answers, nothing_told, opened_by, steps_by, timeline_told, told_next}
use Rattle.face_reading.proofs.ReadSoFar.{AreEntries, entries_text, told_after}
use Rattle.face_reading.proofs.Accepted.{all_told, ended_told, or_second, zero_or_more}
use Rattle.face_reading.proofs.RunAnswers.{answer_entries, answer_entries_are, answers_lead}
use Rattle.face_reading.proofs.RunChanges.{entries_join, face_entries, face_entries_are, faces_lead, leads_first, leads_on, shown}
use Rattle.face_reading.proofs.AnswerLines.{AreAnswersTold, no_ops_below}
use Rattle.face_reading.proofs.TickBlocks.{IsBlock}
use Rattle.face_reading.proofs.ReadInForm.{IsToldForm, befores_of, closed, empty_faces_are, nothing_is_told, nothing_told_text, pages_are, told_faces_are}
use Rattle.face_reading.proofs.ChangedFaces.{all_untold, few_panels}
use Rattle.site_types.specs.Valid.{IsValid}

-- ---- a step

abbrev pub step_entries : Site → List Face → Step → List Entry
step_entries site before step = TickEntry step.tick ∷ (face_entries site 1 before step.faces ++ answer_entries step.answers)

-- what is told with a step behind what is closed
abbrev pub with_step : Told → Step → ℕ → Told
with_step told step rank = record {
  opened = opened_by told;
  steps = steps_by told;
  tick = step.tick;
  faces = step.faces;
  answers =
      step.answers;
  rank = rank;
}

step_entries_are : (site : Site) → (before : List Face) (step : Step) → AreFaces site before → step.tick.0 < 2 ^ 64 → AreFaces site step.faces
    → AreAnswers site step.answers →
    AreEntries site (step_entries site before step)
step_entries_are site before step before_are small faces answers =
    let count : length step.faces ≡ site.panels = faces.count in (
      small,
      entries_join site (face_entries site 1 before step.faces) (answer_entries step.answers)
          (face_entries_are site 1 before step.faces (omega arith) (omega (arith, count)) (pages_are site before before_are)
          (pages_are site step.faces faces)) (answer_entries_are site step.answers answers),
    )

step_leads : (site : Site) → IsValid site → (told : Told) (step : Step) → may_close told ≡ true → told.tick.0 < step.tick.0 → AreFaces site told.faces
    → AreFaces site step.faces →
    AreAnswers site step.answers → (rank : ℕ) × (told_after told (step_entries site told.faces step) ≡ Some (with_step told step rank))
step_leads site valid told step may less before faces answers =
    let begun : Told = record {
      opened = opened_by told;
      steps = steps_by told;
      tick = step.tick;
      faces = told.faces;
      answers = no_answers;
      rank =
          0;
    } in
    let tick : nat_lt told.tick.0 step.tick.0 ≡ true = lt-ltb told.tick.0 step.tick.0 less in
    let opens : told_next told (TickEntry step.tick) ≡ Some begun = rw (may, tick) refl in
    let count : length step.faces ≡ site.panels = faces.count in
    let changes =
    faces_lead site begun [] told.faces step.faces 1 0 refl (omega arith) (before.count ∙ sym faces.count) (pages_are site told.faces before)
    (pages_are site step.faces faces) in
    let changed : Told = shown begun step.faces changes.end in
    let replies =
    answers_lead site changed step.answers changes.end (omega (arith, less)) answers (omega (arith, changes.low, count, few_panels site valid)) in (
      replies.end,
      leads_first told begun (with_step told step replies.end) (TickEntry step.tick) (face_entries site 1 told.faces step.faces
          ++ answer_entries step.answers) opens
          (leads_on begun changed (with_step told step replies.end) (face_entries site 1 told.faces step.faces) (answer_entries step.answers)
          changes.leads replies.leads),
    )

-- ---- a step in form has a line

unanswered : (site : Site) (answers : Answers) → AreAnswersTold site 0 answers → HasAnswer answers → ⊥
unanswered site answers told (inl some) = some (no_ops_below 0 answers.ops told.ops)
unanswered site answers told (inr (inl busy)) = busy.1 (told.not_busy busy.0 (omega arith))
unanswered site answers told (inr (inr failed)) = absurd (contradicts answers.failed (told.not_failed (omega arith)) failed)
  where
    contradicts : (failed : Bool) → failed ≡ false → failed ≡ true → ⊥
    contradicts failed off on = true≢false (sym on ∙ off)

content_is_ranked : (site : Site) (rank : ℕ) (befores faces : List Face) (answers : Answers) → IsBlock site rank befores faces answers
    → (faces ≢ befores) ⊎ HasAnswer answers → 0 < rank
content_is_ranked site rank befores faces answers block content =
    elim (zero_or_more rank) [ inl none ↦ absurd (nothing none content) | inr some ↦ some ]
  where
    nothing : rank ≡ 0 → (faces ≢ befores) ⊎ HasAnswer answers → ⊥
    nothing none (inl other) = other (sym (all_untold site rank 1 befores faces (omega (arith, none)) block.pages))
    nothing none (inr has) = unanswered site answers (subst (λ (r : ℕ). AreAnswersTold site r answers) none block.answered) has

-- ---- all steps

steps_end : (site : Site) (tick last : ℕ) (before : List Face) (steps : List Step) → AreSteps site tick before last steps → tick ≤ last
steps_end site tick last before [] are = are
steps_end site tick last before (step ∷ steps) are = omega (arith, are.0, steps_end site step.tick.0 last step.faces steps are.4)

-- lines lead through some steps
pub record LeadsThrough (site : Site) (told : Told) (steps : List Step) (last : ℕ) : Type 0 where
  pub entries : List Entry
  pub next : Told
  pub each : AreEntries site entries
  pub leads : told_after told entries ≡ Some next
  pub opened : opened_by next ≡ opened_by told
  pub steps_are : steps_by next ≡ steps_by told ++ steps
  pub may : may_close next ≡ true
  pub low : next.tick.0 ≤ last

one_step : (site : Site) → IsValid site → (told : Told) (step : Step) → IsToldForm site told → may_close told ≡ true → told.tick.0 < step.tick.0
    → step.tick.0 < 2 ^ 64 →
    AreFaces site step.faces → AreAnswers site step.answers → (step.faces ≢ told.faces) ⊎ HasAnswer step.answers →
    (rank : ℕ) × (told_after told (step_entries site told.faces step) ≡ Some (with_step told step rank)) × IsToldForm site (with_step told step rank)
    × (0 < rank)
one_step site valid told step form may less small faces answers content =
    let before = told_faces_are site told form in
    let p = step_leads site valid told step may less before faces answers in
    let next =
    all_told site valid told (with_step told step p.0) (step_entries site told.faces step) form
    (step_entries_are site told.faces step before small faces answers) p.1 in
    let e : (step.tick.0 == 0) ≡ false = ne_eqb step.tick.0 0 (λ z. omega (arith, z, less)) in
    let shut = closed site told (step.tick.0 - 1) form may (omega (arith, less)) in
    let behind : befores_of site (with_step told step p.0) ≡ told.faces = rw e shut.behind in
    let block : IsBlock site p.0 told.faces step.faces step.answers =
    subst (λ (befores : List Face). IsBlock site p.0 befores step.faces step.answers) behind next.form.block in
    (p.0, p.1, next.form, content_is_ranked site p.0 told.faces step.faces step.answers block content)

pub steps_lead : (site : Site) → IsValid site → (told : Told) (steps : List Step) (last : ℕ) → IsToldForm site told → may_close told ≡ true
    → last < 2 ^ 64 →
    AreSteps site told.tick.0 told.faces last steps → LeadsThrough site told steps last
steps_lead site valid told [] last form may small are =
    record { entries = []; next = told; each = tt; leads = refl; opened = refl; steps_are = sym (append-nil (steps_by told)); may = may; low = are }
steps_lead site valid told (step ∷ steps) last form may small are =
    let end : step.tick.0 ≤ last = steps_end site step.tick.0 last step.faces steps are.4 in
    let one = one_step site valid told step form may are.0 (omega (arith, end, small)) are.1 are.2 are.3 in
    let ranked : nat_lt 0 one.0 ≡ true = lt-ltb 0 one.0 one.3 in
    let rest = steps_lead site valid (with_step told step one.0) steps last one.2 (or_second (step.tick.0 == 0) (nat_lt 0 one.0) ranked) small are.4
    in
    let e : (step.tick.0 == 0) ≡ false = ne_eqb step.tick.0 0 (λ z. omega (arith, z, are.0)) in
    let opened : opened_by (with_step told step one.0) ≡ opened_by told = rw e refl in
    let stepped : steps_by (with_step told step one.0) ≡ steps_by told ++ step ∷ [] = rw e refl in
    record {
      entries = step_entries site told.faces step ++ rest.entries;
      next = rest.next;
      each =
          entries_join site (step_entries site told.faces step) rest.entries
          (step_entries_are site told.faces step (told_faces_are site told form) (omega (arith, end, small)) are.1 are.2) rest.each;
      leads = leads_on told (with_step told step one.0) rest.next (step_entries site told.faces step) rest.entries one.1 rest.leads;
      opened = rest.opened ∙ opened;
      steps_are = rest.steps_are ∙ ap (λ (all : List Step). all ++ steps) stepped ∙ append_assoc (steps_by told) (step ∷ []) steps;
      may = rest.may;
      low = rest.low;
    }

-- ---- a timeline

-- the lines between the first and the last tell a timeline
pub record IsToldBy (site : Site) (timeline : Timeline) (entries : List Entry) (told : Told) : Type 0 where
  pub each : AreEntries site entries
  pub leads : told_after (nothing_told site) entries ≡ Some told
  pub ends : timeline_told told timeline.last ≡ Some timeline
  pub text : text_of site timeline ≡ opening_line site ++ entries_text site entries ++ end_line timeline.last.0

pub record IsTold (site : Site) (timeline : Timeline) : Type 0 where
  pub entries : List Entry
  pub told : Told
  pub by_them : IsToldBy site timeline entries told

timeline_with : (timeline : Timeline) (opened : List Face) (steps : List Step) → opened ≡ timeline.opened → steps ≡ timeline.steps →
    Some (record { opened = opened; steps = steps; last = timeline.last }) ≡ Some timeline
timeline_with timeline opened steps same others = rw (same, others) refl

told_by : (site : Site) → IsValid site → (timeline : Timeline) (entries : List Entry) (told : Told) → IsInForm site timeline → AreEntries site entries
    → told_after (nothing_told site) entries ≡ Some told →
    timeline_told told timeline.last ≡ Some timeline → IsToldBy site timeline entries told
told_by site valid timeline entries told form each leads ends =
    let whole = all_told site valid (nothing_told site) told entries (nothing_is_told site) each leads in
    let read = ended_told site told timeline.last timeline whole.form form.last ends in
    record {
      each = each;
      leads = leads;
      ends = ends;
      text = read.text_is ∙ ap (λ t. t ++ end_line timeline.last.0) (whole.text ∙ ap (λ t. t ++ entries_text site entries) (nothing_told_text site));
    }

pub is_told : (site : Site) → IsValid site → (timeline : Timeline) → IsInForm site timeline → IsTold site timeline
is_told site valid timeline form =
    let empties = empty_faces_are site in
    let nothing : Told = nothing_told site in
    let count : length timeline.opened ≡ site.panels = form.opened.count in
    let first =
    faces_lead site nothing [] (empty_faces site) timeline.opened 1 0 refl (omega arith) (empties.count ∙ sym form.opened.count)
    (pages_are site (empty_faces site) empties)
    (pages_are site timeline.opened form.opened) in
    let entries : List Entry = face_entries site 1 (empty_faces site) timeline.opened in
    let each =
    face_entries_are site 1 (empty_faces site) timeline.opened (omega arith) (omega (arith, count)) (pages_are site (empty_faces site) empties)
    (pages_are site timeline.opened form.opened) in
    let opened : Told = shown nothing timeline.opened first.end in
    let begun = all_told site valid nothing opened entries (nothing_is_told site) each first.leads in
    let rest = steps_lead site valid opened timeline.steps timeline.last.0 begun.form refl form.last form.steps in
    let all = entries_join site entries rest.entries each rest.each in
    let leads : told_after nothing (entries ++ rest.entries) ≡ Some rest.next =
    leads_on nothing opened rest.next entries rest.entries first.leads rest.leads in
    let low : nat_le rest.next.tick.0 timeline.last.0 ≡ true = le-leb rest.next.tick.0 timeline.last.0 rest.low in
    let ends : timeline_told rest.next timeline.last ≡ Some timeline =
    rw (rest.may, low) (timeline_with timeline (opened_by rest.next) (steps_by rest.next) rest.opened rest.steps_are) in
    record {
      entries = entries ++ rest.entries;
      told = rest.next;
      by_them =
          told_by site valid timeline (entries ++ rest.entries) rest.next form all leads ends;
    }
