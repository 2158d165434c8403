-- What lines have told stays in form with each line that may stand there, and a text that goes so far may go on.
use Rattle.std.proofs.Common.{◌≡◌, ◌≢◌, ◌∙◌, ◌⊎◌, ◌<◌, ◌-◌, ◌^◌, ◌++◌, ◌==◌, ◌&&◌, ◌||◌, ℕ, zero, suc, Bool, true}
use Rattle.std.proofs.Common.{false, List, [], ◌∷◌, Option, Some, None, length, refl, sym, ap, subst, inl, inr}
use Rattle.std.proofs.Common.{append_assoc, arith, set, if◌then◌else◌}
use Rattle.std.specs.Prelude.{nat_le, nat_lt}
use Rattle.std.specs.Option.{option_and_then}
use Rattle.std.proofs.lemmas.Bool.{and_parts, eq-eqb, eqb-false, leb-true, lt-ltb, ltb-true, ne_eqb, not-true}
use Rattle.std.proofs.lemmas.List.{append-nil}
use Rattle.site_types.specs.declared.site.Site.{Site}
use Rattle.tick_units.specs.declared.tick.Tick.{Tick}
use Rattle.face_text.specs.declared.answers.Answers.{Answers}
use Rattle.face_text.specs.declared.face.Face.{Face}
use Rattle.face_text.specs.declared.op_answer.OpAnswer.{OpAnswer}
use Rattle.face_text.specs.declared.timeline.Timeline.{Timeline}
use Rattle.face_text.specs.Answers.{answers_text}
use Rattle.face_text.specs.Slots.{value_in}
use Rattle.face_text.specs.Timelines.{empty_faces, end_line, faces_text, opening_line, steps_text, tick_line}
use Rattle.face_reading.specs.declared.change.Change.{Change}
use Rattle.face_reading.specs.declared.entry.Entry.{Entry}
use Rattle.face_reading.specs.declared.entry.Entry.TheVariants.{Change as ChangeEntry, Answer as AnswerEntry, Busy as BusyEntry, StoreFailed, Tick as TickEntry, End as EndEntry}
use Rattle.face_reading.specs.Entries.{IsEntry, entry_line, rank_of, slot_of, value_of}
use Rattle.face_reading.specs.Reading.{IsRead, MayGoOn, Told, comes_next, face_at, is_in_tick, is_news, may_close, no_answers, opened_by, steps_by, timeline_told, told_next}
use Rattle.face_reading.proofs.ReadSoFar.{AreEntries, entries_text, told_after, told_text}
use Rattle.face_reading.specs.Telling.{face_told}
use Rattle.face_reading.proofs.TickBlocks.{IsBlock, IsNextBlock, answer_block, block_text, busy_block, change_block, failed_block}
use Rattle.face_reading.proofs.ReadInForm.{IsToldForm, befores_of, closed, head_text, no_answers_text, told_faces_are, told_text_is, untold_block}
use Rattle.face_reading.proofs.ChangedFaces.{same_faces_no_text}
use Rattle.site_types.specs.Valid.{IsValid}

pub if_taken : {A : Type 0} (b : Bool) (x y : A) → (if b then Some x else None) ≡ Some y → (b ≡ true) × (x ≡ y)
if_taken true x y e = (refl, cc)
if_taken false x y e = cc

-- what is told after one more line
pub record IsNextTold (site : Site) (told next : Told) (line : List ℕ) : Type 0 where
  pub form : IsToldForm site next
  pub text : told_text site next ≡ told_text site told ++ line

-- ---- a line of the block

grown_told :
    (site : Site) (told : Told) (faces : List Face) (answers : Answers) (rank : ℕ) (line : List ℕ) → IsToldForm site told
    → IsNextBlock site rank (befores_of site told) told.faces faces told.answers answers line → (told.tick.0 ≡ 0 → answers_text answers ≡ [])
    → IsNextTold site told (record { opened = told.opened; steps = told.steps; tick = told.tick; faces = faces; answers = answers; rank = rank }) line
grown_told site told faces answers rank line form next unanswered =
    let after : Told = record { opened = told.opened; steps = told.steps; tick = told.tick; faces = faces; answers = answers; rank = rank } in
    let is : IsToldForm site after = record {
      block = next.block;
      small = form.small;
      unanswered = unanswered;
      no_steps = form.no_steps;
      opened =
          form.opened;
      steps = form.steps;
    } in
    record {
      form = is;
      text =
          told_text_is site after is ∙ ap (λ t. head_text site told ++ t) next.text
          ∙ sym (append_assoc (head_text site told) (block_text site (befores_of site told) told.faces told.answers) line) ∙ ap (λ t. t ++ line)
          (sym (told_text_is site told form));
    }

change_next :
    (site : Site) → IsValid site → (told next : Told) (panel : ℕ) (change : Change) → IsToldForm site told → IsEntry site (ChangeEntry panel change)
    → told_next told (ChangeEntry panel change) ≡ Some next → IsNextTold site told next (entry_line site (ChangeEntry panel change))
change_next site valid told next panel change form is taken =
    let p = if_taken (comes_next told (ChangeEntry panel change) && is_news told panel change) _ next taken in
    let tests = and_parts (comes_next told (ChangeEntry panel change)) (is_news told panel change) p.0 in
    let less : told.rank < rank_of (ChangeEntry panel change) = ltb-true told.rank (rank_of (ChangeEntry panel change)) tests.0 in
    let news : value_in (face_at told.faces panel) (slot_of change) ≢ value_of change =
    eqb-false (value_in (face_at told.faces panel) (slot_of change)) (value_of change) (not-true _ tests.1) in
    let block = change_block site valid told.rank (befores_of site told) told.faces told.answers panel change form.block is less news in
    subst (λ (t : Told). IsNextTold site told t (entry_line site (ChangeEntry panel change))) p.1
    (grown_told site told (set told.faces (panel - 1) (face_told (face_at told.faces panel) change)) told.answers (rank_of (ChangeEntry panel change))
    (entry_line site (ChangeEntry panel change)) form block form.unanswered)

in_tick : (told : Told) → is_in_tick told ≡ true → (answers : Answers) → told.tick.0 ≡ 0 → answers_text answers ≡ []
in_tick told is answers none = absurd (omega (arith, none, ltb-true 0 told.tick.0 is))

answer_next :
    (site : Site) → IsValid site → (told next : Told) (answer : OpAnswer) → IsToldForm site told → IsEntry site (AnswerEntry answer)
    → told_next told (AnswerEntry answer) ≡ Some next
    → IsNextTold site told next (entry_line site (AnswerEntry answer))
answer_next site valid told next answer form is taken =
    let p = if_taken (is_in_tick told && comes_next told (AnswerEntry answer) && nat_lt (length told.answers.ops) 64) _ next taken in
    let tests = and_parts (is_in_tick told && comes_next told (AnswerEntry answer)) (nat_lt (length told.answers.ops) 64) p.0 in
    let first = and_parts (is_in_tick told) (comes_next told (AnswerEntry answer)) tests.0 in
    let less : told.rank < rank_of (AnswerEntry answer) = ltb-true told.rank (rank_of (AnswerEntry answer)) first.1 in
    let room : length told.answers.ops < 64 = ltb-true (length told.answers.ops) 64 tests.1 in
    let answers : Answers = record told.answers { ops = told.answers.ops ++ answer ∷ [] } in
    let block = answer_block site valid told.rank (befores_of site told) told.faces told.answers answer form.block is less room in
    subst (λ (t : Told). IsNextTold site told t (entry_line site (AnswerEntry answer))) p.1
    (grown_told site told told.faces answers (rank_of (AnswerEntry answer)) (entry_line site (AnswerEntry answer)) form block
    (in_tick told first.0 answers))

busy_next :
    (site : Site) → IsValid site → (told next : Told) (panel count : ℕ) → IsToldForm site told → IsEntry site (BusyEntry panel count)
    → told_next told (BusyEntry panel count) ≡ Some next → IsNextTold site told next (entry_line site (BusyEntry panel count))
busy_next site valid told next panel count form is taken =
    let p = if_taken (is_in_tick told && comes_next told (BusyEntry panel count)) _ next taken in
    let first = and_parts (is_in_tick told) (comes_next told (BusyEntry panel count)) p.0 in
    let less : told.rank < rank_of (BusyEntry panel count) = ltb-true told.rank (rank_of (BusyEntry panel count)) first.1 in
    let answers : Answers = record told.answers { busy = set told.answers.busy (panel - 1) count } in
    let block = busy_block site valid told.rank (befores_of site told) told.faces told.answers panel count form.block is less in
    subst (λ (t : Told). IsNextTold site told t (entry_line site (BusyEntry panel count))) p.1
    (grown_told site told told.faces answers (rank_of (BusyEntry panel count)) (entry_line site (BusyEntry panel count)) form block
    (in_tick told first.0 answers))

failed_next :
    (site : Site) → IsValid site → (told next : Told) → IsToldForm site told → told_next told StoreFailed ≡ Some next
    → IsNextTold site told next (entry_line site StoreFailed)
failed_next site valid told next form taken =
    let p = if_taken (is_in_tick told && comes_next told StoreFailed) _ next taken in
    let first = and_parts (is_in_tick told) (comes_next told StoreFailed) p.0 in
    let less : told.rank < rank_of StoreFailed = ltb-true told.rank (rank_of StoreFailed) first.1 in
    let answers : Answers = record told.answers { failed = true } in
    let block = failed_block site valid told.rank (befores_of site told) told.faces told.answers form.block less in
    subst (λ (t : Told). IsNextTold site told t (entry_line site StoreFailed)) p.1
    (grown_told site told told.faces answers (rank_of StoreFailed) (entry_line site StoreFailed) form block (in_tick told first.0 answers))

-- ---- a tick

tick_next :
    (site : Site) (told next : Told) (tick : Tick) → IsToldForm site told → IsEntry site (TickEntry tick)
    → told_next told (TickEntry tick) ≡ Some next
    → IsNextTold site told next (entry_line site (TickEntry tick))
tick_next site told next tick form is taken =
    let p = if_taken (may_close told && nat_lt told.tick.0 tick.0) _ next taken in
    let tests = and_parts (may_close told) (nat_lt told.tick.0 tick.0) p.0 in
    let less : told.tick.0 < tick.0 = ltb-true told.tick.0 tick.0 tests.1 in
    let e : (tick.0 == 0) ≡ false = ne_eqb tick.0 0 (λ z. omega (arith, z, less)) in
    let shut = closed site told (tick.0 - 1) form tests.0 (omega (arith, less)) in
    let after : Told = record { opened = opened_by told; steps = steps_by told; tick = tick; faces = told.faces; answers = no_answers; rank = 0 } in
    let before : befores_of site after ≡ told.faces = rw e shut.behind in
    let in_form : IsToldForm site after =
    record {
      block =
          subst (λ (faces : List Face). IsBlock site 0 faces told.faces no_answers) (sym before)
          (untold_block site told.faces (told_faces_are site told form));
      small = is;
      unanswered = λ z. no_answers_text site;
      no_steps = λ z. absurd (omega (arith, z, less));
      opened = λ some. shut.opened;
      steps = λ some. shut.steps;
    } in
    let silent : block_text site (befores_of site after) told.faces no_answers ≡ [] =
    rw before (rw (same_faces_no_text site told.faces, no_answers_text site) refl) in
    let head : head_text site after ≡ told_text site told ++ tick_line tick.0 =
    rw e
    (regroup (opening_line site) (faces_text site (empty_faces site) (opened_by told)) (steps_text site (opened_by told) (steps_by told))
    (tick_line tick.0)
    ∙ ap (λ t. t ++ tick_line tick.0) shut.text) in
    subst (λ (t : Told). IsNextTold site told t (entry_line site (TickEntry tick))) p.1
    (record {
      form = in_form;
      text =
          told_text_is site after in_form ∙ ap (λ t. head_text site after ++ t) silent ∙ append-nil (head_text site after) ∙ head;
    })
  where
    regroup : (a b c d : List ℕ) → a ++ ((b ++ c) ++ d) ≡ ((a ++ b) ++ c) ++ d
    regroup a b c d = simp append_assoc

-- ---- any line

pub next_told :
    (site : Site) → IsValid site → (told next : Told) (entry : Entry) → IsToldForm site told → IsEntry site entry → told_next told entry ≡ Some next
    → IsNextTold site told next (entry_line site entry)
next_told site valid told next (ChangeEntry panel change) form is taken = change_next site valid told next panel change form is taken
next_told site valid told next (AnswerEntry answer) form is taken = answer_next site valid told next answer form is taken
next_told site valid told next (BusyEntry panel count) form is taken = busy_next site valid told next panel count form is taken
next_told site valid told next StoreFailed form is taken = failed_next site valid told next form taken
next_told site valid told next (TickEntry tick) form is taken = tick_next site told next tick form is taken
next_told site valid told next (EndEntry tick) form is taken = cc

pub after_more : (told next : Told) (entry : Entry) (entries : List Entry) → told_after told (entry ∷ entries) ≡ Some next
    → (one : Told) × (told_next told entry ≡ Some one) × (told_after one entries ≡ Some next)
after_more told next entry entries taken = by (told_next told entry) refl taken
  where
    by : (step : Option Told) → told_next told entry ≡ step → option_and_then (λ one. told_after one entries) step ≡ Some next
        → (one : Told) × (told_next told entry ≡ Some one) × (told_after one entries ≡ Some next)
    by None e taken = cc
    by (Some one) e taken = (one, e, taken)

pub all_told :
    (site : Site) → IsValid site → (told next : Told) (entries : List Entry) → IsToldForm site told → AreEntries site entries
    → told_after told entries ≡ Some next → IsNextTold site told next (entries_text site entries)
all_told site valid told next [] form are taken =
    let same : told ≡ next = cc in
    subst (λ (t : Told). IsNextTold site told t []) same (record { form = form; text = sym (append-nil (told_text site told)) })
all_told site valid told next (entry ∷ entries) form are taken =
    let p = after_more told next entry entries taken in
    let first = next_told site valid told p.0 entry form are.0 p.1 in
    let rest = all_told site valid p.0 next entries first.form are.1 p.2 in
    record {
      form = rest.form;
      text =
          rest.text ∙ ap (λ t. t ++ entries_text site entries) first.text ∙ append_assoc (told_text site told) (entry_line site entry)
          (entries_text site entries);
    }

-- ---- the end

-- a timeline that is told, with the last line
pub ended_told : (site : Site) (told : Told) (last : Tick) (timeline : Timeline) → IsToldForm site told → last.0 < 2 ^ 64
    → timeline_told told last ≡ Some timeline →
    IsRead site (told_text site told ++ end_line last.0) timeline
ended_told site told last timeline form small taken =
    let p = if_taken (may_close told && nat_le told.tick.0 last.0) _ timeline taken in
    let tests = and_parts (may_close told) (nat_le told.tick.0 last.0) p.0 in
    let shut = closed site told last.0 form tests.0 (leb-true told.tick.0 last.0 tests.1) in
    subst (λ (t : Timeline). IsRead site (told_text site told ++ end_line last.0) t) p.1
    (record { form = record { opened = shut.opened; steps = shut.steps; last = small }; text_is = ap (λ t. t ++ end_line last.0) shut.text })

-- ---- a text may go on

closed_goes_on : (site : Site) (told : Told) → IsToldForm site told → may_close told ≡ true → MayGoOn site (told_text site told)
closed_goes_on site told form may =
    let shut = closed site told told.tick.0 form may (omega arith) in
    record {
      timeline = record { opened = opened_by told; steps = steps_by told; last = told.tick };
      form = record { opened = shut.opened; steps = shut.steps; last = form.small };
      rest = end_line told.tick.0;
      text = ap (λ t. t ++ end_line told.tick.0) shut.text;
    }

pub goes_on_before : (site : Site) (front more : List ℕ) → MayGoOn site (front ++ more) → MayGoOn site front
goes_on_before site front more may =
    record { timeline = may.timeline; form = may.form; rest = more ++ may.rest; text = may.text ∙ append_assoc front more may.rest }

pub zero_or_more : (n : ℕ) → (n ≡ 0) ⊎ (0 < n)
zero_or_more zero = inl refl
zero_or_more (suc n) = inr (omega arith)

pub or_second : (a b : Bool) → b ≡ true → (a || b) ≡ true
or_second true b e = refl
or_second false b e = e

pub or_first : (a b : Bool) → a ≡ true → (a || b) ≡ true
or_first a b e = rw e refl

-- in the block of a tick that has no line yet, that Keep's turn failed may be the first
failure_goes_on : (site : Site) → IsValid site → (told : Told) → IsToldForm site told → 0 < told.tick.0 → told.rank ≡ 0
    → MayGoOn site (told_text site told)
failure_goes_on site valid told form some unranked =
    let after : Told =
    record {
      opened = told.opened;
      steps = told.steps;
      tick = told.tick;
      faces = told.faces;
      answers = record told.answers { failed = true };
      rank =
          rank_of StoreFailed;
    } in
    let ticking : nat_lt 0 told.tick.0 ≡ true = lt-ltb 0 told.tick.0 some in
    let first : nat_lt told.rank (rank_of StoreFailed) ≡ true = lt-ltb told.rank (rank_of StoreFailed) (omega (arith, unranked)) in
    let taken : told_next told StoreFailed ≡ Some after = rw (ticking, first) refl in
    let one = failed_next site valid told after form taken in
    let shut : MayGoOn site (told_text site after) =
    closed_goes_on site after one.form (or_second (told.tick.0 == 0) (nat_lt 0 (rank_of StoreFailed)) refl) in
    goes_on_before site (told_text site told) (entry_line site StoreFailed) (subst (MayGoOn site) one.text shut)

pub goes_on : (site : Site) → IsValid site → (told : Told) → IsToldForm site told → MayGoOn site (told_text site told)
goes_on site valid told form =
    elim (zero_or_more told.tick.0) [
      | inl none ↦ closed_goes_on site told form (or_first (told.tick.0 == 0) (nat_lt 0 told.rank) (eq-eqb told.tick.0 0 none))
      | inr some ↦
          elim (zero_or_more told.rank) [
            | inl unranked ↦ failure_goes_on site valid told form some unranked
            | inr ranked ↦ closed_goes_on site told form (or_second (told.tick.0 == 0) (nat_lt 0 told.rank) (lt-ltb 0 told.rank ranked))
          ]
    ]
