-- What is written of an answer that is under way.
use Rattle.std.specs.Prelude.{◌≡◌, ◌≤◌, ◌++◌, ℕ, true, false, List, [], Option, Result, OnErr, OnOk}
use Rattle.panel_edges.specs.Contents.{Grows, GrowsByFront}
use Rattle.panel_edges.specs.Faults.{HasCause, Rose}
use Rattle.face_text.specs.Holding.{Moves}
use Rattle.desk_faces.specs.declared.answer_writer.AnswerWriter.{AnswerWriter}

-- what is known of where an answer is written: the bytes there, where they are told, and its faults
pub record Outlet : Type 0 where
  pub bytes : Option (List ℕ)
  pub faults : ℕ

abbrev pub outlet : Option (List ℕ) → ℕ → Outlet
outlet bytes faults = record { bytes = bytes; faults = faults }

-- a write failed, and only a front of a text is written
abbrev pub IsBroken : Outlet → Outlet → List ℕ → Type 0
IsBroken begun reached told = GrowsByFront begun.bytes reached.bytes told × Rose begun.faults reached.faults

-- since its beginning the writer was told this text: it is written up to what is still held, or a write failed
-- and only a front of it is written
pub record IsTold (begun reached : Outlet) (writer : AnswerWriter) (told : List ℕ) : Type 0 where
  pub going : writer.failed ≡ false → Moves [] writer.held begun.bytes reached.bytes told
  pub stopped : writer.failed ≡ true → IsBroken begun reached told
  pub later : begun.faults ≤ reached.faults

-- the writer was told this text more, whatever it was told before
pub record AddsText (from : Outlet) (writer : AnswerWriter) (upto : Outlet) (longer : AnswerWriter)
    (text : List ℕ) : Type 0 where
  pub adds : (begun : Outlet) (told : List ℕ) → IsTold begun from writer told
      → IsTold begun upto longer (told ++ text)

-- a text was written, or a write failed and a front of it was
pub record WritesText {T E : Type 0} (begun reached : Outlet) (text : List ℕ) (result : Result T E) : Type 0 where
  pub ok : OnOk result (Grows begun.bytes reached.bytes text)
  pub err : OnErr result (GrowsByFront begun.bytes reached.bytes text)
  pub cause : HasCause begun.faults reached.faults result

-- what the writer was told is written to its end, whatever that was
pub record EndsAnswer {T E : Type 0} (from : Outlet) (writer : AnswerWriter) (upto : Outlet)
    (result : Result T E) : Type 0 where
  pub writes : (begun : Outlet) (told : List ℕ) → IsTold begun from writer told
      → WritesText begun upto told result
