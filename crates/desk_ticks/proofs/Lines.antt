-- Bytes within a line, and the lines of a tick.
use Rattle.std.proofs.Common.{◌≡◌, ◌∙◌, ◌+◌, ◌++◌, ◌==◌, not, ℕ, Bool, true, false, List, [], ◌∷◌, length}
use Rattle.std.proofs.Common.{None, if◌then◌else◌, refl, sym, ap, append_assoc, append-nil, arith}
use Rattle.std.specs.List.{list_all}
use Rattle.std.proofs.lemmas.Bool.{and_parts}
use Rattle.record_lines.specs.Lines.{Cut, cut}
use Rattle.record_lines.specs.declared.line.Line.{Line}
use Rattle.record_lines.specs.declared.line.Line.TheVariants.{Tick, Event, Order, End}
use Rattle.record_lines.proofs.Cuts.{cut_end, cut_more}
use Rattle.record_readings.specs.OneLine.{is_within_line}
use Rattle.desk_ticks.specs.Blocks.{behind_line, tick_among}

within_byte : (byte : ℕ) → is_within_line byte ≡ true → (byte == 10) ≡ false
within_byte byte e = by (byte == 10) refl e
  where
    by : (b : Bool) → (byte == 10) ≡ b → not b ≡ true → (byte == 10) ≡ false
    by false is h = is
    by true is h = absurd cc

-- bytes within a line go on with what has come of it
pub within_rest : (bytes more : List ℕ) → list_all is_within_line more ≡ true
    → cut (bytes ++ more) ≡ record { whole = (cut bytes).whole; rest = (cut bytes).rest ++ more }
within_rest bytes [] within =
    ap cut (append-nil bytes) ∙ ap (λ rest. record { whole = (cut bytes).whole; rest = rest }) (sym (append-nil (cut bytes).rest))
within_rest bytes (byte ∷ more) within =
    let parts = and_parts (is_within_line byte) (list_all is_within_line more) within in
    let first = cut_more bytes byte (within_byte byte parts.0) in
    ap cut (sym (append_assoc bytes (byte ∷ []) more)) ∙ within_rest (bytes ++ byte ∷ []) more parts.1
    ∙ ap (λ (c : Cut). record { whole = c.whole; rest = c.rest ++ more }) first
    ∙ ap (λ rest. record { whole = (cut bytes).whole; rest = rest }) (append_assoc (cut bytes).rest (byte ∷ []) more)

-- nothing has come of a line behind a line end
pub ended_rest : (bytes text : List ℕ) → (cut (bytes ++ (text ++ 10 ∷ []))).rest ≡ []
ended_rest bytes text =
    ap (λ xs. (cut xs).rest) (sym (append_assoc bytes text (10 ∷ []))) ∙ ap (λ (c : Cut). c.rest) (cut_end (bytes ++ text) 10 refl)

-- what stands behind the first line end
pub behind_first : (text rest : List ℕ) → list_all is_within_line text ≡ true → behind_line ((text ++ 10 ∷ []) ++ rest) ≡ rest
behind_first [] rest within = refl
behind_first (byte ∷ text) rest within =
    let parts = and_parts (is_within_line byte) (list_all is_within_line text) within in
    step (byte == 10) (within_byte byte parts.0) ∙ behind_first text rest parts.1
  where
    step : (b : Bool) → b ≡ false → (if b then ((text ++ 10 ∷ []) ++ rest) else behind_line ((text ++ 10 ∷ []) ++ rest)) ≡ behind_line ((text ++ 10 ∷ []) ++ rest)
    step false e = refl
    step true e = absurd cc

-- ---- lines of a tick

pub no_tick_more : (number : ℕ) (lines more : List Line) → tick_among number lines ≡ None
    → tick_among number (lines ++ more) ≡ tick_among (number + length lines) more
no_tick_more number [] more none = ap (λ n. tick_among n more) (omega arith)
no_tick_more number (Tick tick ∷ lines) more none = absurd cc
no_tick_more number (Event event ∷ lines) more none =
    no_tick_more (number + 1) lines more none ∙ ap (λ n. tick_among n more) (omega arith)
no_tick_more number (Order order ∷ lines) more none =
    no_tick_more (number + 1) lines more none ∙ ap (λ n. tick_among n more) (omega arith)
no_tick_more number (End ∷ lines) more none = no_tick_more (number + 1) lines more none ∙ ap (λ n. tick_among n more) (omega arith)
