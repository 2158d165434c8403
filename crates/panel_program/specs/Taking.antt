-- How a run takes the lines of a record, and the bytes that hold them.
use Rattle.std.specs.Prelude.{◌≡◌, ◌*◌, ◌≤◌, ℕ, Bool, false, List, ◌++◌, length}
use Rattle.std.specs.Prelude.{take}
use Rattle.std.specs.Prelude.{Option, Some, None, Result, Ok, Err}
use Rattle.site_types.specs.declared.retained.Retained.{Retained}
use Rattle.site_types.specs.declared.site.Site.{Site}
use Rattle.record_lines.specs.declared.line.Line.{Line}
use Rattle.record_lines.specs.declared.line.Line.TheVariants.{End}
use Rattle.record_lines.specs.declared.reader.LineReader.{LineReader}
use Rattle.record_lines.specs.declared.step.Step.{Step}
use Rattle.record_lines.specs.declared.step.Step.TheVariants.{Need, Line as LineStep, Refused as RefusedStep}
use Rattle.record_lines.specs.declared.over.Over.TheVariants.{Ended as OverEnded, Refused as OverRefused}
use Rattle.record_lines.specs.Belongs.{Belongs}
use Rattle.record_lines.specs.Judged.{line_view}
use Rattle.record_lines.specs.Lines.{ends_with, reading_of}
use Rattle.record_lines.specs.Stands.{StandsFor as ReadsFor}
use Rattle.panel_edges.specs.Limits.{most_record_bytes}
use Rattle.panel_edges.specs.declared.failed.Failed.{Failed}
use Rattle.panel_rules.specs.Moments.{TickBlock}
use Rattle.site_run.specs.declared.run.Run.{Run}
use Rattle.site_run.specs.Stands.{AreFew, HasRun, IsNext, Stands}
use Rattle.site_run.specs.Stands.{Writes, WritesPart}
use Rattle.panel_program.specs.declared.run_end.RunEnd.{RunEnd}
use Rattle.panel_program.specs.declared.run_end.RunEnd.TheVariants.{Ended, Refused, TooManyBytes, ReadFault}
use Rattle.site_run.specs.Records.{Progress, closed, after_line, progress_of}
use Rattle.site_run.specs.Records.{moments_in, recorded}
use Rattle.panel_program.specs.declared.taken.Taken.{Taken}
use Rattle.panel_program.specs.Ahead.{AreTicksOf, EndWithClosing}
use Rattle.site_run.specs.Outside.{DiskKind, Disks, Outside, outside_after, outside_before}

-- a line may come behind what was taken
pub record MayCome (site : Site) (p : Progress) (line : Line) : Type 0 where
  pub belongs : Belongs site line
  pub next : IsNext line (length (closed false p))
  pub short : AreFew (moments_in (after_line site false p (line_view line)))

-- a line may come to a run that stands for something
pub record MayTake (line : Line) (run : Run) : Type 0 where
  pub site : Site
  pub kept : Retained
  pub p : Progress
  pub stands : Stands site kept p run
  pub comes : MayCome site p line

module _ (site : Site) (kept : Retained) where
  -- a line acted, and the text of the tick that it closed was written
  pub record Acts {kind : DiskKind} (p : Progress) (line : Line) (old new : Outside kind) (run : Run) : Type 0 where
    pub failed : Bool
    pub stands : Stands site kept (after_line site failed p (line_view line)) run
    pub wrote : Writes site kept old new p.run (after_line site failed p (line_view line)).run

  -- the line `end` closed the last tick
  pub record Finishes {kind : DiskKind} (p : Progress) (old new : Outside kind) (run : Run) : Type 0 where
    pub failed : Bool
    pub ran : HasRun site kept (closed failed p) run
    pub wrote : Writes site kept old new p.run (closed failed p)

  -- a write failed in the text of the tick that the line closed
  pub record Fails {kind : DiskKind} (p : Progress) (line : Line) (old new : Outside kind) (run : Run) : Type 0 where
    pub failed : Bool
    pub ran : HasRun site kept (after_line site failed p (line_view line)).run run
    pub broke : WritesPart site kept old new p.run (after_line site failed p (line_view line)).run
    pub first : broke.whole ≡ p.run

  -- how a line was taken: it acts, it ends the run, or a write failed
  abbrev pub Takes : {kind : DiskKind} → Progress → Line → Outside kind → Outside kind → Run
      → Result (Option RunEnd) Failed → Type 0
  Takes p line old new run (Ok None) = (ends_with line ≡ None) × Acts p line old new run
  Takes p line old new run (Ok (Some Ended)) = (line ≡ End) × Finishes p old new run
  Takes p line old new run (Ok (Some (Refused refusal))) = ⊥
  Takes p line old new run (Ok (Some TooManyBytes)) = ⊥
  Takes p line old new run (Ok (Some ReadFault)) = ⊥
  Takes p line old new run (Err failed) = Fails p line old new run

-- a line that may come was taken, whatever lines came before it
abbrev pub HasTakenLine : Line → Disks → Option (List ℕ) → Option (List ℕ) → Run → Run
    → Result (Option RunEnd) Failed → Type 0
HasTakenLine line disks old new before run result =
    (site : Site) (kept : Retained) (p : Progress) → Stands site kept p before → MayCome site p line
    → Takes site kept p line (outside_before disks old before) (outside_after disks new run) run result

-- what a reader answered may come
abbrev pub MayStep : Site → Progress → Step → Type 0
MayStep site p Need = Unit {0}
MayStep site p (LineStep line) = MayCome site p line
MayStep site p (RefusedStep refusal) = Unit {0}

pub record MayStepSome (step : Step) (run : Run) : Type 0 where
  pub site : Site
  pub kept : Retained
  pub p : Progress
  pub stands : Stands site kept p run
  pub comes : MayStep site p step

-- how it was taken
abbrev pub TakesStep : {kind : DiskKind} → Site → Retained → Progress → Step → Outside kind → Outside kind → Run
    → Run → Result (Option RunEnd) Failed → Type 0
TakesStep site kept p Need old new before run result = (result ≡ Ok None) × (new ≡ old) × (run ≡ before)
TakesStep site kept p (LineStep line) old new before run result = Takes site kept p line old new run result
TakesStep site kept p (RefusedStep refusal) old new before run result =
    (result ≡ Ok (Some (Refused refusal))) × (new ≡ old) × (run ≡ before)

-- what a reader answered was taken, if it may come, whatever came before it
abbrev pub HasTakenStep : Step → Disks → Option (List ℕ) → Option (List ℕ) → Run → Run
    → Result (Option RunEnd) Failed → Type 0
HasTakenStep step disks old new before run result =
    (site : Site) (kept : Retained) (p : Progress) → Stands site kept p before → MayStep site p step
    → TakesStep site kept p step (outside_before disks old before) (outside_after disks new run) before run result

-- ---- bytes

-- neither the end nor a refusal has come yet
abbrev pub IsGoing : Site → List ℕ → Type 0
IsGoing site bytes = (reading_of site bytes).ending ≡ None

-- bytes are no more than may be read of a record
abbrev pub AreWithin : List ℕ → Type 0
AreWithin bytes = length bytes ≤ most_record_bytes

-- the moments of a run are at most 66 for each line of its record
abbrev pub IsSmall : Site → List ℕ → Progress → Type 0
IsSmall site bytes p = length (moments_in p) ≤ 66 * length (reading_of site bytes).lines

-- a reader and a run have taken these bytes, whose lines made this
pub record IsAt (site : Site) (kept : Retained) (bytes : List ℕ) (p : Progress) (reader : LineReader) (run : Run)
    : Type 0 where
  pub reads : ReadsFor site bytes reader
  pub going : IsGoing site bytes
  pub made : recorded p ≡ progress_of site (reading_of site bytes).lines
  pub small : IsSmall site bytes p
  pub stands : Stands site kept p run

pub record IsAtSome (reader : LineReader) (run : Run) : Type 0 where
  pub site : Site
  pub kept : Retained
  pub bytes : List ℕ
  pub p : Progress
  pub is_at : IsAt site kept bytes p reader run

-- a piece may be taken behind these bytes
pub record MayPiece (piece : List ℕ) (reader : LineReader) (run : Run) : Type 0 where
  pub at : IsAtSome reader run
  pub within : AreWithin (at.bytes ++ piece)

-- the bytes of a record end a run in this way: with its end or a refusal, not with too many bytes or a failed read
abbrev pub EndsAt : Site → List ℕ → RunEnd → Type 0
EndsAt site bytes Ended = (reading_of site bytes).ending ≡ Some OverEnded
EndsAt site bytes (Refused refusal) = (reading_of site bytes).ending ≡ Some (OverRefused refusal)
EndsAt site bytes TooManyBytes = ⊥
EndsAt site bytes ReadFault = ⊥

module _ {kind : DiskKind} (site : Site) (kept : Retained) (p : Progress) where
  -- bytes more were taken, and the run goes on
  pub record GoesOnAt (after : List ℕ) (old new : Outside kind) (reader : LineReader) (run : Run) : Type 0 where
    pub p' : Progress
    pub is_at : IsAt site kept after p' reader run
    pub wrote : Writes site kept old new p.run p'.run

  -- bytes more were taken, and the run has ended
  pub record HasEnded (after : List ℕ) (end : RunEnd) (old new : Outside kind) (run : Run) : Type 0 where
    pub ticks : List TickBlock
    pub ended : EndsAt site after end
    pub of : AreTicksOf site after ticks
    pub ran : HasRun site kept ticks run
    pub wrote : Writes site kept old new p.run ticks

  abbrev pub GoesOn : List ℕ → Outside kind → Outside kind → LineReader → Run → Option RunEnd → Type 0
  GoesOn after old new reader run None = GoesOnAt after old new reader run
  GoesOn after old new reader run (Some end) = HasEnded after end old new run

  -- a write failed when so much of a piece was taken
  pub record BreaksOff (before piece : List ℕ) (old new : Outside kind) (run : Run) : Type 0 where
    pub front : List ℕ
    pub rest : List ℕ
    pub ticks : List TickBlock
    pub is : piece ≡ front ++ rest
    pub of : AreTicksOf site (before ++ front) ticks
    pub ran : HasRun site kept ticks run
    pub broke : WritesPart site kept old new p.run ticks
    pub closed : EndWithClosing site (before ++ front) broke.whole

  -- the next line of a piece was taken, or the whole of it where no line ends in it
  abbrev pub TakesNext : List ℕ → List ℕ → Outside kind → Outside kind → LineReader → Run
      → Result Taken Failed → Type 0
  TakesNext before piece old new reader run (Ok taken) =
      GoesOn (before ++ take taken.used piece) old new reader run taken.end
  TakesNext before piece old new reader run (Err failed) = BreaksOff before piece old new run

  -- a run ended in a piece
  pub record EndsIn (before piece : List ℕ) (end : RunEnd) (old new : Outside kind) (run : Run) : Type 0 where
    pub front : List ℕ
    pub rest : List ℕ
    pub is : piece ≡ front ++ rest
    pub has : HasEnded (before ++ front) end old new run

  -- a whole piece was taken, or so much of it as the run needed to its end
  abbrev pub TakesPiece : List ℕ → List ℕ → Outside kind → Outside kind → LineReader → Run
      → Result (Option RunEnd) Failed → Type 0
  TakesPiece before piece old new reader run (Ok None) = GoesOnAt (before ++ piece) old new reader run
  TakesPiece before piece old new reader run (Ok (Some end)) = EndsIn before piece end old new run
  TakesPiece before piece old new reader run (Err failed) = BreaksOff before piece old new run

-- the next line of a piece, or the piece, was taken behind whatever bytes came before it
abbrev pub TakesBehind : (Site → Retained → Progress → List ℕ → Type 0) → List ℕ → LineReader → Run → Type 0
TakesBehind Does piece reader run = (site : Site) (kept : Retained) (before : List ℕ) (p : Progress)
    → IsAt site kept before p reader run → AreWithin (before ++ piece) → Does site kept p before

abbrev pub HasTakenNext : List ℕ → Disks → Option (List ℕ) → Option (List ℕ) → LineReader → Run → LineReader → Run
    → Result Taken Failed → Type 0
HasTakenNext piece disks old new before from reader run result =
    TakesBehind (λ site kept p bytes. TakesNext site kept p bytes piece
    (outside_before disks old from) (outside_after disks new run)
    reader run result) piece before from

abbrev pub HasTakenPiece : List ℕ → Disks → Option (List ℕ) → Option (List ℕ) → LineReader → Run → LineReader → Run
    → Result (Option RunEnd) Failed → Type 0
HasTakenPiece piece disks old new before from reader run result =
    TakesBehind (λ site kept p bytes. TakesPiece site kept p bytes piece
    (outside_before disks old from) (outside_after disks new run)
    reader run result) piece before from
