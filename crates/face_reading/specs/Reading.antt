-- How a text is read, line by line, and which line of a text is the first bad one.
use Rattle.std.specs.Prelude.{◌≡◌, ◌≢◌, ◌⊎◌, ◌<◌, ◌≤◌, ◌-◌, ◌==◌, ◌&&◌, ◌||◌, ℕ, zero, suc, Bool, true, false, not}
use Rattle.std.specs.Prelude.{List, [], ◌∷◌, ◌++◌, Option, Some, None, length, replicate, slice_index_or, slice_set}
use Rattle.std.specs.Prelude.{nat_le, nat_lt, if◌then◌else◌}
use Rattle.site_types.specs.declared.site.Site.{Site}
use Rattle.tick_units.specs.declared.tick.Tick.{Tick}
use Rattle.face_text.specs.declared.answers.Answers.{Answers}
use Rattle.face_text.specs.declared.face.Face.{Face}
use Rattle.face_text.specs.declared.step.Step.{Step}
use Rattle.face_text.specs.declared.timeline.Timeline.{Timeline}
use Rattle.face_text.specs.Faces.{empty_face}
use Rattle.face_text.specs.Slots.{value_in}
use Rattle.face_text.specs.Timelines.{IsInForm, empty_faces, text_of}
use Rattle.face_reading.specs.declared.change.Change.{Change}
use Rattle.face_reading.specs.declared.entry.Entry.{Entry}
use Rattle.face_reading.specs.declared.entry.Entry.TheVariants.{Change as ChangeEntry, Answer as AnswerEntry}
use Rattle.face_reading.specs.declared.entry.Entry.TheVariants.{Busy as BusyEntry, StoreFailed, Tick as TickEntry}
use Rattle.face_reading.specs.declared.entry.Entry.TheVariants.{End as EndEntry}
use Rattle.face_reading.specs.declared.text_refusal.TextRefusal.{TextRefusal}
use Rattle.face_reading.specs.declared.text_refusal.TextRefusal.TheVariants.{BadLine, NoMemory}
use Rattle.face_reading.specs.Entries.{rank_of, slot_of, value_of}
use Rattle.face_reading.specs.Telling.{face_told}

-- ---- which texts are read, and the first bad line

-- a text that isn't ended yet may become one: some timeline in form has a text that begins so
pub record MayGoOn (site : Site) (front : List ℕ) : Type 0 where
  pub timeline : Timeline
  pub form : IsInForm site timeline
  pub rest : List ℕ
  pub text : text_of site timeline ≡ front ++ rest

-- how many lines of a text are ended
abbrev pub line_ends : List ℕ → ℕ
line_ends [] = 0
line_ends (byte ∷ bytes) = if byte == 10 then suc (line_ends bytes) else line_ends bytes

-- the first lines of a text, so many as are asked for, with their ends
abbrev pub first_lines : ℕ → List ℕ → List ℕ
first_lines zero bytes = []
first_lines (suc count) [] = []
first_lines (suc count) (byte ∷ bytes) =
    byte ∷ (if byte == 10 then first_lines count bytes else first_lines (suc count) bytes)

-- the text is that of no timeline in form, and this is the first line, counted from 1, that no such text has
-- behind the lines before it
pub record IsBadLine (site : Site) (text : List ℕ) (line : ℕ) : Type 0 where
  pub not_a_text : (timeline : Timeline) → IsInForm site timeline → text_of site timeline ≢ text
  pub from_one : 1 ≤ line
  pub ended : line - 1 ≤ line_ends text
  pub before : MayGoOn site (first_lines (line - 1) text)
  pub bad : (line_ends text < line) ⊎ (MayGoOn site (first_lines line text) → ⊥)

-- what a text is read to
pub record IsRead (site : Site) (text : List ℕ) (timeline : Timeline) : Type 0 where
  pub form : IsInForm site timeline
  pub text_is : text_of site timeline ≡ text

-- why a text isn't read: its first bad line, or for want of memory
abbrev pub IsRefusal : Site → List ℕ → TextRefusal → Type 0
IsRefusal site text (BadLine line) = IsBadLine site text line
IsRefusal site text NoMemory = Unit {0}

-- ---- line by line

-- what the lines of a text have told so far: the opening and the ended steps, and the block of lines that is
-- being told, which is the opening's where its tick is 0. `rank` is the place of the block's last line, 0
-- where it has none
pub record Told : Type 0 where
  pub opened : List Face
  pub steps : List Step
  pub tick : Tick
  pub faces : List Face
  pub answers : Answers
  pub rank : ℕ

abbrev pub no_answers : Answers
no_answers = record { ops = []; busy = replicate 8 0; failed = false }

-- nothing is told: all faces are empty
abbrev pub nothing_told : Site → Told
nothing_told site = record {
  opened = [];
  steps = [];
  tick = record { 0 = 0 };
  faces =
      empty_faces site;
  answers = no_answers;
  rank = 0;
}

-- the face of a panel, as told so far
abbrev pub face_at : List Face → ℕ → Face
face_at faces panel = slice_index_or faces (panel - 1) (empty_face panel)

-- a line's place is behind that of the block's last line
abbrev pub comes_next : Told → Entry → Bool
comes_next told entry = nat_lt told.rank (rank_of entry)

-- the block is that of a tick
abbrev pub is_in_tick : Told → Bool
is_in_tick told = nat_lt 0 told.tick.0

-- the block is that of the opening, or has a line
abbrev pub may_close : Told → Bool
may_close told = (told.tick.0 == 0) || nat_lt 0 told.rank

-- a change tells what isn't so yet
abbrev pub is_news : Told → ℕ → Change → Bool
is_news told panel change = not (value_in (face_at told.faces panel) (slot_of change) == value_of change)

-- the faces at opening, and the steps, where the block is closed
abbrev pub opened_by : Told → List Face
opened_by told = if told.tick.0 == 0 then told.faces else told.opened

abbrev pub block_of : Told → Step
block_of told = record { tick = told.tick; faces = told.faces; answers = told.answers }

abbrev pub steps_by : Told → List Step
steps_by told = if told.tick.0 == 0 then told.steps else told.steps ++ block_of told ∷ []

-- what is told once the block that is being told has become the opening or a step
abbrev pub closed_block : Told → Told
closed_block told =
    record told { opened = opened_by told; steps = steps_by told; answers = no_answers }

-- what is told after one more line, if the line may stand there; after the last line nothing is told on
abbrev pub told_next : Told → Entry → Option Told
told_next told (ChangeEntry panel change) =
    if comes_next told (ChangeEntry panel change) && is_news told panel change
    then Some
    (record told {
      faces = slice_set told.faces (panel - 1) (face_told (face_at told.faces panel) change);
      rank = rank_of (ChangeEntry panel change);
    })
    else None
told_next told (AnswerEntry answer) =
    if is_in_tick told && comes_next told (AnswerEntry answer) && nat_lt (length told.answers.ops) 64
    then Some (record told {
      answers = record told.answers { ops = told.answers.ops ++ answer ∷ [] };
      rank =
          rank_of (AnswerEntry answer);
    })
    else None
told_next told (BusyEntry panel count) =
    if is_in_tick told && comes_next told (BusyEntry panel count)
    then Some
    (record told {
      answers = record told.answers { busy = slice_set told.answers.busy (panel - 1) count };
      rank = rank_of (BusyEntry panel count);
    })
    else None
told_next told StoreFailed =
    if is_in_tick told && comes_next told StoreFailed
    then Some (record told { answers = record told.answers { failed = true }; rank = rank_of StoreFailed })
    else None
told_next told (TickEntry tick) =
    if may_close told && nat_lt told.tick.0 tick.0
    then Some (record {
      opened = opened_by told;
      steps = steps_by told;
      tick = tick;
      faces =
          told.faces;
      answers = no_answers;
      rank = 0;
    })
    else None
told_next told (EndEntry tick) = None

-- the timeline that is told where the last line names this tick, if that line may stand there
abbrev pub timeline_told : Told → Tick → Option Timeline
timeline_told told last =
    if may_close told
    && nat_le told.tick.0 last.0 then Some (record {
      opened = opened_by told;
      steps = steps_by told;
      last =
          last;
    }) else None
