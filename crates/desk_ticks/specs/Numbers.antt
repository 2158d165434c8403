-- The numbers of refusals.
use Rattle.std.specs.Prelude.{ℕ}
use Rattle.record_lines.specs.declared.why.Why.{Why}
use Rattle.record_lines.specs.declared.why.Why.TheVariants.{BadWord, BadNumber, NoSuch, BadTick, BadOrder, LineTooLong}
use Rattle.record_lines.specs.declared.why.Why.TheVariants.{NotAscii, BeforeFirstTick, Truncated, TickLimit}

-- the number of a refusal, as a record has it
abbrev pub refusal_number : Why → ℕ
refusal_number BadWord = 1
refusal_number BadNumber = 2
refusal_number NoSuch = 3
refusal_number (BadTick expected found) = 4
refusal_number (BadOrder place) = 5
refusal_number LineTooLong = 6
refusal_number NotAscii = 7
refusal_number BeforeFirstTick = 8
refusal_number Truncated = 9
refusal_number TickLimit = 10

-- behind the first line of a block another tick is a word out of place
abbrev pub number_behind : Why → ℕ
number_behind BadWord = 1
number_behind BadNumber = 2
number_behind NoSuch = 3
number_behind (BadTick expected found) = 1
number_behind (BadOrder place) = 5
number_behind LineTooLong = 6
number_behind NotAscii = 7
number_behind BeforeFirstTick = 8
number_behind Truncated = 9
number_behind TickLimit = 1
