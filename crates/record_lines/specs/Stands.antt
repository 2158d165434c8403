-- What a reader stands for, and what it answers to a piece.
use Rattle.std.specs.Prelude.{◌≡◌, ◌⊎◌, ◌+◌, ◌<◌, ◌≤◌, ◌++◌, ℕ, List, [], ◌∷◌, true, false, take, length, Option}
use Rattle.std.specs.Prelude.{Some, None, Ok, Err}
use Rattle.std.specs.List.{list_all}
use Rattle.site_types.specs.declared.site.Site.{Site}
use Rattle.site_types.specs.Limits.{line_bytes}
use Rattle.record_lines.specs.Judged.{judged, line_view}
use Rattle.record_lines.specs.Lines.{Reading, byte_refusal, cut, ends_with, is_printable, lines_read, next_number}
use Rattle.record_lines.specs.Lines.{reading_of, stands_behind}
use Rattle.record_lines.specs.declared.line.Line.{Line}
use Rattle.record_lines.specs.declared.line.Line.TheVariants.{End}
use Rattle.record_lines.specs.declared.fed.Fed.{Fed}
use Rattle.record_lines.specs.declared.step.Step.{Step}
use Rattle.record_lines.specs.declared.step.Step.TheVariants.{Need, Line as LineStep, Refused as RefusedStep}
use Rattle.record_lines.specs.declared.over.Over.{Over}
use Rattle.record_lines.specs.declared.over.Over.TheVariants.{Ended, Refused}
use Rattle.record_lines.specs.declared.reader.LineReader.{LineReader}
use Rattle.record_lines.specs.declared.why.Why.{Why}

-- the reader waits for more: it keeps what has come of the next line
pub record IsOpen (site : Site) (bytes : List ℕ) (reader : LineReader) : Type 0 where
  pub going : (lines_read site (cut bytes).whole).ending ≡ None
  pub stands : reader.so_far ≡ (lines_read site (cut bytes).whole).so_far
  pub counts : reader.number ≡ (lines_read site (cut bytes).whole).number
  pub keeps : reader.text.items ≡ (cut bytes).rest
  pub fine : byte_refusal (cut bytes).rest ≡ None

abbrev pub StandsBy : Site → List ℕ → LineReader → Option Over → Type 0
StandsBy site bytes reader None = IsOpen site bytes reader
StandsBy site bytes reader (Some over) = (reading_of site bytes).ending ≡ Some over

-- the reader stands for the bytes that it has used
abbrev pub StandsFor : Site → List ℕ → LineReader → Type 0
StandsFor site bytes reader = StandsBy site bytes reader reader.over

-- the answer that stays
abbrev pub over_step : Over → Step
over_step Ended = LineStep End
over_step (Refused refusal) = RefusedStep refusal

-- what one reading has more than another
abbrev pub Tells : Reading → Reading → Step → Type 0
Tells before after Need = (after.lines ≡ before.lines) × (after.ending ≡ None)
Tells before after (LineStep line) = (after.lines ≡ before.lines ++ line_view line ∷ [])
    × (after.ending ≡ ends_with line)
Tells before after (RefusedStep refusal) =
    (after.lines ≡ before.lines) × (after.ending ≡ Some (Refused refusal))

-- the byte at this place changed the reading, and none before it
pub record IsFirst (site : Site) (before piece : List ℕ) (used place : ℕ) : Type 0 where
  pub last : used ≡ place + 1
  pub within : place < length piece
  pub same : (reading_of site (before ++ take place piece)).lines ≡ (reading_of site before).lines
  pub going : (reading_of site (before ++ take place piece)).ending ≡ None

abbrev pub Uses : Site → List ℕ → List ℕ → ℕ → Step → Type 0
Uses site before piece used Need = used ≡ length piece
Uses site before piece used (LineStep line) = (place : ℕ) × IsFirst site before piece used place
Uses site before piece used (RefusedStep refusal) = (place : ℕ) × IsFirst site before piece used place

-- an answer to a piece: before the end, what these bytes brought; behind it, the same again
abbrev pub Answers : Site → List ℕ → List ℕ → Fed → Option Over → Type 0
Answers site before piece fed None =
    Tells (reading_of site before) (reading_of site (before ++ take fed.used piece)) fed.step
    × Uses site before piece fed.used fed.step
Answers site before piece fed (Some over) = (fed.step ≡ over_step over) × (fed.used ≡ 0)

pub record Feeds (site : Site) (before piece : List ℕ) (fed : Fed) (reader : LineReader) : Type 0 where
  pub stands : StandsFor site (before ++ take fed.used piece) reader
  pub answers : Answers site before piece fed (reading_of site before).ending

-- ---- steps of the reader

-- the reader keeps so many bytes of a piece behind what has come of its line: each is printable, and a line
-- has room for them
pub record Keeps (old : LineReader) (piece : List ℕ) (count : ℕ) (reader : LineReader) : Type 0 where
  pub within : count ≤ length piece
  pub text : reader.text.items ≡ old.text.items ++ take count piece
  pub printable : list_all is_printable (take count piece) ≡ true
  pub room : length reader.text.items ≤ line_bytes
  pub stands : reader.so_far ≡ old.so_far
  pub counts : reader.number ≡ old.number
  pub over : reader.over ≡ old.over

-- the byte can't be kept: the line has no room for it, or it isn't printable
abbrev pub Stops : LineReader → ℕ → Type 0
Stops reader byte = (line_bytes ≤ length reader.text.items) ⊎ (is_printable byte ≡ false)

-- the answer is a line or a refusal
abbrev pub EndsLine : Step → Type 0
EndsLine Need = ⊥
EndsLine (LineStep line) = Unit {0}
EndsLine (RefusedStep refusal) = Unit {0}

-- the reader goes on behind a line
pub record Accepts (old : LineReader) (line : Line) (reader : LineReader) : Type 0 where
  pub counts : reader.number ≡ next_number old.number
  pub stands : reader.so_far ≡ stands_behind old.so_far line
  pub keeps : reader.text.items ≡ []
  pub ends : (old.over ≡ None) → reader.over ≡ ends_with line

-- the reader refuses
pub record Refuses (old : LineReader) (why : Why) (reader : LineReader) (step : Step) : Type 0 where
  pub over : reader.over ≡ Some (Refused (record { line = old.number; why = why }))
  pub told : step ≡ RefusedStep (record { line = old.number; why = why })

-- the reader judges the line that it keeps
abbrev pub TakesLine : Site → LineReader → LineReader → Step → Type 0
TakesLine site old reader Need = ⊥
TakesLine site old reader (LineStep line) = (judged site old.so_far old.text.items ≡ Ok (line_view line))
    × Accepts old line reader
TakesLine site old reader (RefusedStep refusal) =
    (why : Why) × (judged site old.so_far old.text.items ≡ Err why)
    × Refuses old why reader (RefusedStep refusal)

-- the reader takes a byte more
pub record TakesByte (site : Site) (before : List ℕ) (byte : ℕ) (reader : LineReader) (step : Step) :
    Type 0 where
  pub stands : StandsFor site (before ++ byte ∷ []) reader
  pub tells : Tells (reading_of site before) (reading_of site (before ++ byte ∷ [])) step
