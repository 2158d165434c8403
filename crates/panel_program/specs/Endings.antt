-- How a run ends, its status and its last line.
use Rattle.std.specs.Prelude.{ℕ, nat_lt, List, ◌++◌, length, take, Option, Some, None, codes}
use Rattle.std.specs.Prelude.{decimal, if◌then◌else◌}
use Rattle.panel_edges.specs.Limits.{most_record_bytes}
use Rattle.site_types.specs.declared.site.Site.{Site}
use Rattle.record_lines.specs.declared.why.Why.{Why}
use Rattle.record_lines.specs.declared.why.Why.TheVariants.{BadWord, BadNumber, NoSuch, BadTick, BadOrder}
use Rattle.record_lines.specs.declared.why.Why.TheVariants.{LineTooLong, NotAscii, BeforeFirstTick, Truncated}
use Rattle.record_lines.specs.declared.why.Why.TheVariants.{TickLimit}
use Rattle.record_lines.specs.declared.over.Over.{Over}
use Rattle.record_lines.specs.declared.over.Over.TheVariants.{Ended as OverEnded, Refused as OverRefused}
use Rattle.record_lines.specs.Lines.{Reading, reading_of}
use Rattle.panel_program.specs.declared.run_end.RunEnd.{RunEnd}
use Rattle.panel_program.specs.declared.run_end.RunEnd.TheVariants.{Ended, Refused, TooManyBytes, ReadFault}
use Rattle.refused_lines.specs.Refusals.{refusal_text}
use Rattle.program_status.specs.declared.status.Status.{Status}
use Rattle.program_status.specs.declared.status.Status.TheVariants as exit

-- ---- how the bytes of a record end a run

-- where the bytes are over without the end: they are as many as a record may have, or too few
abbrev pub end_without : ℕ → ℕ → RunEnd
end_without count number =
    if nat_lt count most_record_bytes then Refused (record { line = number; why = Truncated }) else
    TooManyBytes

abbrev pub end_by : ℕ → ℕ → Option Over → RunEnd
end_by count number None = end_without count number
end_by count number (Some OverEnded) = Ended
end_by count number (Some (OverRefused refusal)) = Refused refusal

abbrev pub end_in : ℕ → Reading → RunEnd
end_in count reading = end_by count reading.number reading.ending

-- the bytes of a record that are read at most
abbrev pub within_limit : List ℕ → List ℕ
within_limit bytes = take most_record_bytes bytes

-- the end of a run over these bytes, where no read fails: the line `end`, the first refusal, or the end of the bytes
abbrev pub end_of : Site → List ℕ → RunEnd
end_of site bytes = end_in (length (within_limit bytes)) (reading_of site (within_limit bytes))

-- ---- what is told of an end

abbrev pub status_by : Why → Status
status_by BadWord = exit.BadRecord
status_by BadNumber = exit.BadRecord
status_by NoSuch = exit.BadRecord
status_by (BadTick expected found) = exit.BadRecord
status_by (BadOrder place) = exit.BadRecord
status_by LineTooLong = exit.BadRecord
status_by NotAscii = exit.BadRecord
status_by BeforeFirstTick = exit.BadRecord
status_by Truncated = exit.BadRecord
status_by TickLimit = exit.Limit

abbrev pub status_of : RunEnd → Status
status_of Ended = exit.Done
status_of (Refused refusal) = status_by refusal.why
status_of TooManyBytes = exit.Limit
status_of ReadFault = exit.ReadFault

-- the last line of a run, after so many ticks
abbrev pub last_line : ℕ → RunEnd → List ℕ
last_line ticks Ended = codes "end " ++ decimal ticks ++ codes "\n"
last_line ticks (Refused refusal) = refusal_text refusal
last_line ticks TooManyBytes = codes "limit bytes\n"
last_line ticks ReadFault = codes "fault read\n"
