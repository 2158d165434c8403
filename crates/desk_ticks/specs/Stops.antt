-- What the answer to a line makes of a block.
use Rattle.std.specs.Prelude.{ℕ, Option, Some, None, Result, Ok, Err}
use Rattle.record_lines.specs.declared.line.Line.TheVariants.{Tick, Event, Order, End}
use Rattle.record_lines.specs.declared.step.Step.{Step}
use Rattle.record_lines.specs.declared.step.Step.TheVariants.{Need, Line as LineStep, Refused as RefusedStep}
use Rattle.record_lines.specs.declared.why.Why.{Why}
use Rattle.record_lines.specs.declared.why.Why.TheVariants.{BadWord, BadNumber, NoSuch, BadTick, BadOrder, LineTooLong}
use Rattle.record_lines.specs.declared.why.Why.TheVariants.{NotAscii, BeforeFirstTick, Truncated, TickLimit}
use Rattle.desk_ticks.specs.declared.block_refusal.BlockRefusal.{BlockRefusal}
use Rattle.desk_ticks.specs.Numbers.{number_behind}

-- a refused line of a tick that is out of turn names that tick
abbrev pub named_why : Why → Result ℕ ℕ
named_why (BadTick expected found) = Ok found
named_why BadWord = Err 1
named_why BadNumber = Err 2
named_why NoSuch = Err 3
named_why (BadOrder place) = Err 5
named_why LineTooLong = Err 6
named_why NotAscii = Err 7
named_why BeforeFirstTick = Err 8
named_why Truncated = Err 9
named_why TickLimit = Err 10

-- the tick that a first line names, or the number of its refusal
abbrev pub named_by : Step → Result ℕ ℕ
named_by Need = Err 1
named_by (LineStep (Tick tick)) = Ok tick.0
named_by (LineStep (Event event)) = Err 1
named_by (LineStep (Order order)) = Err 1
named_by (LineStep End) = Err 1
named_by (RefusedStep refusal) = named_why refusal.why

-- the refusal at the line of a number, if it is one
abbrev pub stop_by : Step → ℕ → Option BlockRefusal
stop_by Need number = Some (record { line = number; number = 1 })
stop_by (LineStep (Tick tick)) number = Some (record { line = number; number = 1 })
stop_by (LineStep (Event event)) number = None
stop_by (LineStep (Order order)) number = None
stop_by (LineStep End) number = Some (record { line = number; number = 1 })
stop_by (RefusedStep refusal) number = Some (record { line = refusal.line; number = number_behind refusal.why })
