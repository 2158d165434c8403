-- Where a line may come, and what its text is read as there.
use Rattle.std.specs.Prelude.{◌≡◌, ◌+◌, ◌++◌, ◌≤◌, ℕ, false, List, [], ◌∷◌, length, Option, Some, None, IsTrue}
use Rattle.arrayvec.specs.ArrayString.{ArrayString}
use Rattle.site_types.specs.Names.{is_code}
use Rattle.site_types.specs.declared.site.Site.{Site}
use Rattle.site_types.specs.declared.event.Event.{Event}
use Rattle.site_types.specs.declared.event.Event.TheVariants.{Point, Cable, Supply, Link, Confirmed, Op}
use Rattle.tick_units.specs.declared.seat.Seat.{Seat}
use Rattle.record_lines.specs.Belongs.{Belongs}
use Rattle.record_lines.specs.Judged.{line_view}
use Rattle.record_lines.specs.Lines.{accepted, cut, reading_of}
use Rattle.record_lines.specs.Printed.{HasInFront, line_text}
use Rattle.record_lines.specs.Stands.{Feeds}
use Rattle.record_lines.specs.declared.fed.Fed.{Fed}
use Rattle.record_lines.specs.declared.reader.LineReader.{LineReader}
use Rattle.record_lines.specs.declared.step.Step.{Step}
use Rattle.record_lines.specs.declared.step.Step.TheVariants.{Need, Line as LineStep, Refused as RefusedStep}
use Rattle.record_lines.specs.declared.line.Line.{Line}
use Rattle.record_lines.specs.declared.line.Line.TheVariants.{Tick, Event as EventLine, Order, End}
use Rattle.record_lines.specs.declared.ticks_so_far.TicksSoFar.{TicksSoFar}

-- the record stands at the beginning of a line, and neither its end nor a refusal has come
pub record IsBetweenLines (site : Site) (before : List ℕ) : Type 0 where
  pub going : (reading_of site before).ending ≡ None
  pub fresh : (cut before).rest ≡ []

-- a code, if there is one, is of a code's form
abbrev pub IsCode : Option ArrayString → Type 0
IsCode None = Unit {0}
IsCode (Some code) = IsTrue (is_code code.bytes)

abbrev pub HasCode : Event → Type 0
HasCode (Op panel code operation) = IsCode code
HasCode (Point point state) = Unit {0}
HasCode (Cable panel line piece state) = Unit {0}
HasCode (Supply panel kind bad) = Unit {0}
HasCode (Link link up) = Unit {0}
HasCode (Confirmed output) = Unit {0}

-- the code of a line can be spelled
abbrev pub HasSpelling : Line → Type 0
HasSpelling (EventLine event) = HasCode event
HasSpelling (Tick tick) = Unit {0}
HasSpelling (Order order) = Unit {0}
HasSpelling End = Unit {0}

-- where a record stands so, this line's turn has come: a tick follows the one before, an event and an order
-- come in a tick, a tick has at most one order
abbrev pub IsDue : TicksSoFar → Line → Type 0
IsDue so_far (Tick tick) = tick.0 ≡ so_far.ticks + 1
IsDue so_far (EventLine event) = 1 ≤ so_far.ticks
IsDue so_far (Order order) = (1 ≤ so_far.ticks) × (so_far.has_order ≡ false)
IsDue so_far End = Unit {0}

-- the line may come where a record of the site stands so
pub record MayCome (site : Site) (so_far : TicksSoFar) (line : Line) : Type 0 where
  pub belongs : Belongs site line
  pub spelled : HasSpelling line
  pub due : IsDue so_far line

-- a line that is answered may come where the record stands so
abbrev pub StepMayCome : Site → TicksSoFar → Step → Type 0
StepMayCome site so_far Need = Unit {0}
StepMayCome site so_far (LineStep line) = MayCome site so_far line
StepMayCome site so_far (RefusedStep refusal) = Unit {0}

-- the answer is the line
abbrev pub IsAnswer : Line → Step → Type 0
IsAnswer line Need = ⊥
IsAnswer line (LineStep read) = line_view read ≡ line_view line
IsAnswer line (RefusedStep refusal) = ⊥

-- behind these bytes the text and a line end are read as the line, and a reader that is fed them answers the
-- line and uses all of them
pub record IsReadAs (site : Site) (line : Line) (text before : List ℕ) : Type 0 where
  pub told : reading_of site (before ++ text ++ 10 ∷ []) ≡ accepted (reading_of site before) (line_view line)
  pub answered : (fed : Fed) (reader : LineReader) → Feeds site before (text ++ 10 ∷ []) fed reader
      → IsAnswer line fed.step × (fed.used ≡ length text + 1)

-- the text is read as the line wherever the line may come
abbrev pub ReadsBack : Site → Line → List ℕ → Type 0
ReadsBack site line text = (before : List ℕ) → IsBetweenLines site before
    → MayCome site (reading_of site before).so_far line → IsReadAs site line text before

-- a reader that has nothing of a line yet is given a piece that begins with this one, whose turn has come
pub record Brings (site : Site) (reader : LineReader) (line : Line) (piece : List ℕ) (used : ℕ) : Type 0 where
  pub fresh : reader.text.items ≡ []
  pub text : HasInFront (line_text site line) piece used
  pub may_come : MayCome site reader.so_far line

-- a reader that has nothing of a line yet is given a piece that begins with the line of an order with these seats,
-- whose turn has come; the seats need not be the site's
pub record BringsSeats (reader : LineReader) (seats : List Seat) (piece : List ℕ) (used : ℕ) : Type 0 where
  pub fresh : reader.text.items ≡ []
  pub text : (site : Site) → HasInFront (line_text site (Order seats)) piece used
  pub due : IsDue reader.so_far (Order seats)
