-- The lines that bytes hold, and how their reading ended, if it did.
use Rattle.std.specs.Prelude.{◌+◌, ◌-◌, ◌^◌, ◌==◌, ◌&&◌, ◌++◌, ℕ, zero, suc, Bool, true, false, nat_le, min, List, []}
use Rattle.std.specs.Prelude.{◌∷◌, Option, Some, None, Result, Ok, Err, if◌then◌else◌}
use Rattle.std.specs.List.{fold}
use Rattle.site_types.specs.declared.site.Site.{Site}
use Rattle.site_types.specs.Limits.{line_bytes}
use Rattle.record_lines.specs.Judged.{judged}
use Rattle.record_lines.specs.declared.line.Line.{Line}
use Rattle.record_lines.specs.declared.line.Line.TheVariants.{Tick, Event, Order, End}
use Rattle.record_lines.specs.declared.over.Over.{Over}
use Rattle.record_lines.specs.declared.over.Over.TheVariants.{Ended, Refused}
use Rattle.record_lines.specs.declared.ticks_so_far.TicksSoFar.{TicksSoFar}
use Rattle.record_lines.specs.declared.why.Why.{Why}
use Rattle.record_lines.specs.declared.why.Why.TheVariants.{LineTooLong, NotAscii}

-- ---- bytes are cut at line ends

-- the whole lines, each without its line end, and what has come of the next
pub record Cut : Type 0 where
  pub whole : List (List ℕ)
  pub rest : List ℕ

-- a byte in front of the first line
abbrev pub begun : ℕ → List (List ℕ) → List ℕ → Cut
begun byte [] rest = record { whole = []; rest = byte ∷ rest }
begun byte (line ∷ lines) rest = record { whole = (byte ∷ line) ∷ lines; rest = rest }

abbrev pub with_byte : Bool → ℕ → Cut → Cut
with_byte true byte behind = record { whole = [] ∷ behind.whole; rest = behind.rest }
with_byte false byte behind = begun byte behind.whole behind.rest

-- the byte 10 ends a line
abbrev pub cut : List ℕ → Cut
cut [] = record { whole = []; rest = [] }
cut (byte ∷ bytes) = with_byte (byte == 10) byte (cut bytes)

-- ---- bytes that are refused

abbrev pub is_printable : ℕ → Bool
is_printable byte = nat_le 32 byte && nat_le byte 126

-- the refusal of the first bad byte of a line with room for so many
abbrev pub refusal_within : ℕ → List ℕ → Option Why
refusal_within room [] = None
refusal_within zero (byte ∷ rest) = Some LineTooLong
refusal_within (suc room) (byte ∷ rest) =
    if is_printable byte then refusal_within room rest else Some NotAscii

-- a line has at most 512 bytes, each printable
abbrev pub byte_refusal : List ℕ → Option Why
byte_refusal text = refusal_within line_bytes text

-- ---- lines are read in turn

-- what was read of a record: its lines, with the bytes of codes alone; the number of the line that comes
-- next, which stays at the greatest of 64 bits;
-- where the record stands; and how its reading ended
pub record Reading : Type 0 where
  pub lines : List Line
  pub number : ℕ
  pub so_far : TicksSoFar
  pub ending : Option Over

abbrev pub at_start : Reading
at_start = record {
  lines = [];
  number = 1;
  so_far = record { ticks = 0; has_order = false };
  ending =
      None;
}

abbrev pub next_number : ℕ → ℕ
next_number number = min (number + 1) (2 ^ 64 - 1)

-- where the record stands behind a line
abbrev pub stands_behind : TicksSoFar → Line → TicksSoFar
stands_behind so_far (Tick tick) = record { ticks = tick.0; has_order = false }
stands_behind so_far (Event event) = so_far
stands_behind so_far (Order order) = record { ticks = so_far.ticks; has_order = true }
stands_behind so_far End = so_far

abbrev pub ends_with : Line → Option Over
ends_with (Tick tick) = None
ends_with (Event event) = None
ends_with (Order order) = None
ends_with End = Some Ended

abbrev pub accepted : Reading → Line → Reading
accepted reading line =
    record {
      lines = reading.lines ++ line ∷ [];
      number = next_number reading.number;
      so_far =
          stands_behind reading.so_far line;
      ending = ends_with line;
    }

abbrev pub refused : Reading → Why → Reading
refused reading why =
    record {
      lines = reading.lines;
      number = reading.number;
      so_far = reading.so_far;
      ending =
          Some (Refused (record { line = reading.number; why = why }));
    }

abbrev pub verdict : Reading → Result Line Why → Reading
verdict reading (Ok line) = accepted reading line
verdict reading (Err why) = refused reading why

-- a whole line, by the refusal of its bytes
abbrev pub by_bytes : Site → Reading → List ℕ → Option Why → Reading
by_bytes site reading text None = verdict reading (judged site reading.so_far text)
by_bytes site reading text (Some why) = refused reading why

abbrev pub by_ending : Site → Reading → List ℕ → Option Over → Reading
by_ending site reading text None = by_bytes site reading text (byte_refusal text)
by_ending site reading text (Some over) = reading

-- a line more; nothing is looked at behind the end and behind a refusal
abbrev pub next_line : Site → Reading → List ℕ → Reading
next_line site reading text = by_ending site reading text reading.ending

-- whole lines from the beginning
abbrev pub lines_read : Site → List (List ℕ) → Reading
lines_read site lines = fold (next_line site) at_start lines

abbrev pub refused_rest : Reading → Option Why → Reading
refused_rest reading None = reading
refused_rest reading (Some why) = refused reading why

-- what has come of the next line is refused as soon as its first bad byte is there
abbrev pub rest_by_ending : Reading → List ℕ → Option Over → Reading
rest_by_ending reading rest None = refused_rest reading (byte_refusal rest)
rest_by_ending reading rest (Some over) = reading

abbrev pub with_rest : Reading → List ℕ → Reading
with_rest reading rest = rest_by_ending reading rest reading.ending

-- what was read of these bytes
abbrev pub reading_of : Site → List ℕ → Reading
reading_of site bytes = with_rest (lines_read site (cut bytes).whole) (cut bytes).rest
