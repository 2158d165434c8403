-- The lines that tell why a record is refused.
use Rattle.std.specs.Prelude.{ℕ, List, ◌++◌, codes, decimal}
use Rattle.record_lines.specs.declared.refusal.Refusal.{Refusal}
use Rattle.record_lines.specs.declared.why.Why.{Why}
use Rattle.record_lines.specs.declared.why.Why.TheVariants.{BadWord, BadNumber, NoSuch, BadTick, BadOrder}
use Rattle.record_lines.specs.declared.why.Why.TheVariants.{LineTooLong, NotAscii, BeforeFirstTick, Truncated}
use Rattle.record_lines.specs.declared.why.Why.TheVariants.{TickLimit}

-- a refused line: its number, that of the refusal and what is told besides
abbrev pub refused_text : ℕ → List ℕ → List ℕ
refused_text line detail = codes "refused line " ++ decimal line ++ detail ++ codes "\n"

abbrev pub why_text : ℕ → Why → List ℕ
why_text line BadWord = refused_text line (codes " 1")
why_text line BadNumber = refused_text line (codes " 2")
why_text line NoSuch = refused_text line (codes " 3")
why_text line (BadTick expected found) =
    refused_text line (codes " 4 expected " ++ decimal expected ++ codes " found " ++ decimal found)
why_text line (BadOrder place) = refused_text line (codes " 5 " ++ decimal place)
why_text line LineTooLong = refused_text line (codes " 6")
why_text line NotAscii = refused_text line (codes " 7")
why_text line BeforeFirstTick = refused_text line (codes " 8")
why_text line Truncated = refused_text line (codes " 9")
why_text line TickLimit = codes "limit ticks\n"

abbrev pub refusal_text : Refusal → List ℕ
refusal_text refusal = why_text refusal.line refusal.why
