-- A tick block: which tick it begins, or the first of its lines that is refused.
use Rattle.std.specs.Prelude.{◌+◌, ◌==◌, ◌++◌, ℕ, Bool, List, [], ◌∷◌, drop, length}
use Rattle.std.specs.Prelude.{not, Option, Some, None, Result, Ok, Err}
use Rattle.std.specs.Prelude.{if◌then◌else◌}
use Rattle.site_types.specs.declared.site.Site.{Site}
use Rattle.record_lines.specs.Lines.{Reading, cut, reading_of}
use Rattle.record_lines.specs.Printed.{line_text}
use Rattle.record_lines.specs.declared.line.Line.{Line}
use Rattle.record_lines.specs.declared.line.Line.TheVariants.{Tick as TickLine, Event, Order, End}
use Rattle.record_lines.specs.declared.over.Over.{Over}
use Rattle.record_lines.specs.declared.over.Over.TheVariants.{Ended, Refused}
use Rattle.desk_ticks.specs.declared.block_refusal.BlockRefusal.{BlockRefusal}
use Rattle.desk_ticks.specs.Numbers.{number_behind}
use Rattle.desk_ticks.specs.Stops.{named_why}

-- the most bytes that a block may have
abbrev pub most_block_bytes : ℕ
most_block_bytes = 65536

-- ---- the first line

-- the tick that a record of these bytes begins with, whatever its number, or why its first line is refused: it is
-- another line, it has no line end, or the record's own refusal
abbrev pub begun_tick : List Line → Option Over → Result ℕ ℕ
begun_tick (TickLine tick ∷ lines) ending = Ok tick.0
begun_tick (Event event ∷ lines) ending = Err 1
begun_tick (Order order ∷ lines) ending = Err 1
begun_tick (End ∷ lines) ending = Err 1
begun_tick [] None = Err 1
begun_tick [] (Some Ended) = Err 1
begun_tick [] (Some (Refused refusal)) = named_why refusal.why

abbrev pub named_of : Reading → Result ℕ ℕ
named_of reading = begun_tick reading.lines reading.ending

-- ---- the lines behind it

-- the bytes behind the first line end
abbrev pub behind_line : List ℕ → List ℕ
behind_line [] = []
behind_line (byte ∷ bytes) = if byte == 10 then bytes else behind_line bytes

-- the lines behind the first are read as those behind the line of the first tick
abbrev pub tick_one : Line
tick_one = TickLine (record { 0 = 1 })

abbrev pub first_line : Site → List ℕ
first_line site = line_text site tick_one ++ 10 ∷ []

abbrev pub reading_behind : Site → List ℕ → Reading
reading_behind site bytes = reading_of site (first_line site ++ bytes)

-- the first line of a tick among some lines, the first of them having this number
abbrev pub tick_among : ℕ → List Line → Option ℕ
tick_among number [] = None
tick_among number (TickLine tick ∷ lines) = Some number
tick_among number (Event event ∷ lines) = tick_among (number + 1) lines
tick_among number (Order order ∷ lines) = tick_among (number + 1) lines
tick_among number (End ∷ lines) = tick_among (number + 1) lines

-- the bytes behind the last line end are a line without one
abbrev pub is_unfinished : List ℕ → Bool
is_unfinished bytes = not (length (cut bytes).rest == 0)

-- how so many lines ended: the line `end`, a refused line, or none of these and a line without its line end
abbrev pub end_behind : ℕ → Option Over → Bool → Option BlockRefusal
end_behind count (Some Ended) unfinished = Some (record { line = count; number = 1 })
end_behind count (Some (Refused refusal)) unfinished =
    Some (record { line = refusal.line; number = number_behind refusal.why })
end_behind count None unfinished = if unfinished then Some (record { line = count + 1; number = 1 }) else None

-- a second tick comes before whatever ended the lines behind it
abbrev pub tick_or : Option ℕ → Option BlockRefusal → Option BlockRefusal
tick_or (Some number) ended = Some (record { line = number; number = 1 })
tick_or None ended = ended

-- the refusal of the lines behind the first, if one of them is refused
abbrev pub refusal_behind : Site → List ℕ → Option BlockRefusal
refusal_behind site bytes =
    tick_or (tick_among 2 (drop 1 (reading_behind site bytes).lines))
    (end_behind (length (reading_behind site bytes).lines) (reading_behind site bytes).ending (is_unfinished bytes))

-- ---- the whole block

abbrev pub verdict_by : Result ℕ ℕ → Option BlockRefusal → Result ℕ BlockRefusal
verdict_by (Err number) behind = Err (record { line = 1; number = number })
verdict_by (Ok tick) (Some refusal) = Err refusal
verdict_by (Ok tick) None = Ok tick

-- the tick that a block begins where all its lines are accepted, or the first refused line
abbrev pub verdict_of : Site → List ℕ → Result ℕ BlockRefusal
verdict_of site block = verdict_by (named_of (reading_of site block)) (refusal_behind site (behind_line block))
