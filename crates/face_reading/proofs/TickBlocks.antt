-- The block of lines that is being told: the changes of all faces, and answers behind them.
use Rattle.std.proofs.Common.{◌≡◌, ◌≢◌, ◌∙◌, ◌<◌, ◌+◌, ◌-◌, ◌*◌, ◌^◌, ◌++◌, ℕ, List, [], ◌∷◌, true, length, sym, ap, subst, append_assoc, arith, set}
use Rattle.std.proofs.lemmas.List.{append-nil, length-append, length-set}
use Rattle.site_types.specs.declared.site.Site.{Site}
use Rattle.face_text.specs.declared.answers.Answers.{Answers}
use Rattle.face_text.specs.declared.face.Face.{Face}
use Rattle.face_text.specs.declared.op_answer.OpAnswer.{OpAnswer}
use Rattle.face_text.specs.Answers.{answer_line, answers_text, counted_line, failed_text}
use Rattle.face_text.specs.Slots.{value_in}
use Rattle.face_text.specs.Timelines.{faces_text}
use Rattle.face_text.specs.Faces.{empty_face}
use Rattle.face_reading.specs.declared.change.Change.{Change}
use Rattle.face_reading.specs.declared.entry.Entry.TheVariants.{Change as ChangeEntry, Answer as AnswerEntry, Busy as BusyEntry, StoreFailed}
use Rattle.face_reading.specs.Entries.{IsChange, IsEntry, rank_of, slot_of, slot_rank, value_of}
use Rattle.face_reading.proofs.ReadSoFar.{IsOneLine}
use Rattle.face_reading.proofs.FaceTelling.{change_line}
use Rattle.face_reading.specs.Reading.{face_at}
use Rattle.face_reading.specs.Telling.{face_told}
use Rattle.face_reading.proofs.AnswerLines.{AreAnswersTold, answer_told, busy_told, failure_told, later_answers, nothing_answered_text}
use Rattle.face_reading.proofs.ChangedFaces.{ArePagesTold, change_told, few_panels, later_pages, rank_is_small}
use Rattle.face_reading.proofs.EntryLaws.{entry_line-one}
use Rattle.site_types.specs.Valid.{IsValid}

-- the text of a block
abbrev pub block_text : Site → List Face → List Face → Answers → List ℕ
block_text site befores faces answers = faces_text site befores faces ++ answers_text answers

pub record IsBlock (site : Site) (rank : ℕ) (befores faces : List Face) (answers : Answers) : Type 0 where
  pub pages : ArePagesTold site rank 1 befores faces
  pub count : length faces ≡ site.panels
  pub answered : AreAnswersTold site rank answers
  pub content : 0 < rank → block_text site befores faces answers ≢ []

-- a text with one more line
pub some_text : (text more line : List ℕ) → more ≡ text ++ line → IsOneLine line → more ≢ []
some_text text more line is one none =
    let size : length (text ++ line) ≡ 0 = ap length (sym is ∙ none) in
    let last : length line ≡ length one.body + 1 = ap length one.bytes_is ∙ length-append one.body (10 ∷ []) in
    absurd (omega (arith, size, last, length-append text line))

-- a block that has become another, with one more line
pub record IsNextBlock (site : Site) (rank : ℕ) (befores faces afters : List Face) (answers replies : Answers) (line : List ℕ) : Type 0 where
  pub block : IsBlock site rank befores afters replies
  pub text : block_text site befores afters replies ≡ block_text site befores faces answers ++ line

pub change_block :
    (site : Site) → IsValid site → (rank : ℕ) (befores faces : List Face) (answers : Answers) (panel : ℕ) (change : Change)
    → IsBlock site rank befores faces answers → IsEntry site (ChangeEntry panel change) → rank < rank_of (ChangeEntry panel change)
    → value_in (face_at faces panel) (slot_of change) ≢ value_of change
    → IsNextBlock site (rank_of (ChangeEntry panel change)) befores faces (set faces (panel - 1) (face_told (face_at faces panel) change)) answers
    answers (change_line site panel change)
change_block site valid rank befores faces answers panel change block is less news =
    let at : 1 + (panel - 1) ≡ panel = omega (arith, is.0) in
    let size : length faces ≡ site.panels = block.count in
    let small = rank_is_small site panel change is.2 in
    let low : panel * 100000 + slot_rank (slot_of change) < 1000000 = omega (arith, small.1, is.1, few_panels site valid) in
    let told =
    subst
    (λ (p : ℕ).
    ArePagesTold site (p * 100000 + slot_rank (slot_of change)) 1 befores (set faces (panel - 1) (face_told (face_at faces panel) change))
    × (faces_text site befores (set faces (panel - 1) (face_told (face_at faces panel) change)) ≡ faces_text site befores faces
    ++ change_line site p change))
    at
    (change_told site rank 1 (panel - 1) befores faces change (empty_face panel) block.pages (omega (arith, size, is.0, is.1))
    (subst (λ (p : ℕ). IsChange site p change) (sym at) is.2) (subst (λ (p : ℕ). rank < p * 100000 + slot_rank (slot_of change)) (sym at) less) news)
    in
    let silent : answers_text answers ≡ [] = nothing_answered_text site rank answers block.answered (omega (arith, less, low)) in
    let afters = set faces (panel - 1) (face_told (face_at faces panel) change) in
    let text : faces_text site befores afters ++ answers_text answers ≡ (faces_text site befores faces ++ answers_text answers)
    ++ change_line site panel change =
    rw silent (append-nil _ ∙ told.1 ∙ ap (λ t. t ++ change_line site panel change) (sym (append-nil (faces_text site befores faces)))) in
    record {
      block =
          record {
            pages = told.0;
            count = length-set faces (panel - 1) (face_told (face_at faces panel) change) ∙ size;
            answered = later_answers site rank (panel * 100000 + slot_rank (slot_of change)) answers (omega (arith, less)) block.answered;
            content =
                λ some. some_text (block_text site befores faces answers) (block_text site befores afters answers) (change_line site panel change)
                text (entry_line-one site valid (ChangeEntry panel change) is);
          };
      text = text;
    }

-- one more line of what is answered
answered_block :
    (site : Site) (rank later : ℕ) (befores faces : List Face) (answers replies : Answers) (line : List ℕ) → IsBlock site rank befores faces answers
    → rank < later
    → AreAnswersTold site later replies → answers_text replies ≡ answers_text answers ++ line → IsOneLine line
    → IsNextBlock site later befores faces faces answers replies line
answered_block site rank later befores faces answers replies line block less told is one =
    let text : faces_text site befores faces ++ answers_text replies ≡ (faces_text site befores faces ++ answers_text answers) ++ line =
    ap (λ t. faces_text site befores faces ++ t) is ∙ sym (append_assoc (faces_text site befores faces) (answers_text answers) line) in
    record {
      block =
          record {
            pages = later_pages site rank later 1 befores faces (omega (arith, less)) block.pages;
            count = block.count;
            answered = told;
            content = λ some. some_text (block_text site befores faces answers) (block_text site befores faces replies) line text one;
          };
      text = text;
    }

pub answer_block :
    (site : Site) → IsValid site → (rank : ℕ) (befores faces : List Face) (answers : Answers) (answer : OpAnswer)
    → IsBlock site rank befores faces answers
    → IsEntry site (AnswerEntry answer) → rank < rank_of (AnswerEntry answer) → length answers.ops < 64
    → IsNextBlock site (rank_of (AnswerEntry answer)) befores faces faces answers (record answers { ops = answers.ops ++ answer ∷ [] })
    (answer_line answer)
answer_block site valid rank befores faces answers answer block is less room =
    let told = answer_told site rank answers answer block.answered less is.0 is.1 room in
    answered_block site rank (1000000 + answer.number) befores faces answers (record answers { ops = answers.ops ++ answer ∷ [] })
    (answer_line answer) block less told.0 told.1 (entry_line-one site valid (AnswerEntry answer) is)

pub busy_block :
    (site : Site) → IsValid site → (rank : ℕ) (befores faces : List Face) (answers : Answers) (panel count : ℕ)
    → IsBlock site rank befores faces answers
    → IsEntry site (BusyEntry panel count) → rank < rank_of (BusyEntry panel count)
    → IsNextBlock site (rank_of (BusyEntry panel count)) befores faces faces answers (record answers { busy = set answers.busy (panel - 1) count })
    (counted_line panel count)
busy_block site valid rank befores faces answers panel count block is less =
    let told = busy_told site rank panel count answers block.answered (few_panels site valid) is.0 is.1 is.2 is.3 less in
    answered_block site rank (1000000 + 2 ^ 64 + panel) befores faces answers (record answers { busy = set answers.busy (panel - 1) count })
    (counted_line panel count) block less told.0 told.1
    (entry_line-one site valid (BusyEntry panel count) is)

pub failed_block :
    (site : Site) → IsValid site → (rank : ℕ) (befores faces : List Face) (answers : Answers) → IsBlock site rank befores faces answers
    → rank < rank_of StoreFailed
    → IsNextBlock site (rank_of StoreFailed) befores faces faces answers (record answers { failed = true }) (failed_text true)
failed_block site valid rank befores faces answers block less =
    let told = failure_told site rank answers block.answered less in
    answered_block site rank (1000000 + 2 ^ 64 + 9) befores faces answers (record answers { failed = true }) (failed_text true) block less told.0
    told.1 (entry_line-one site valid StoreFailed tt)
