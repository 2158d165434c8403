-- Which line ends a record.
use Rattle.std.specs.Prelude.{Bool, true, false}
use Rattle.record_lines.specs.declared.line.Line.{Line}
use Rattle.record_lines.specs.declared.line.Line.TheVariants.{Tick, Event, Order, End}
use Rattle.record_lines.specs.declared.step.Step.{Step}
use Rattle.record_lines.specs.declared.step.Step.TheVariants.{Need, Line as LineStep, Refused}

abbrev pub is_last : Line → Bool
is_last (Tick tick) = false
is_last (Event event) = false
is_last (Order order) = false
is_last End = true

-- a reader's answer is that line
abbrev pub is_end : Step → Bool
is_end Need = false
is_end (LineStep line) = is_last line
is_end (Refused refusal) = false
