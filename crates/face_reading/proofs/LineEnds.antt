-- Line ends of a text: how many there are, what the first lines are, and that bytes up to a line end are
-- parted in one way.
use Rattle.std.proofs.Common.{◌≡◌, ◌∙◌, ◌+◌, ◌<◌, ◌++◌, ℕ, zero, suc, Bool, true, false, List, [], ◌∷◌, get_or, drop, refl, sym, ap, arith}
use Rattle.std.specs.Prelude.{◌==◌, if◌then◌else◌}
use Rattle.face_reading.specs.Reading.{first_lines, line_ends}

ends_front : (here : Bool) (n m : ℕ) → (if here then suc (n + m) else n + m) ≡ (if here then suc n else n) + m
ends_front true n m = omega arith
ends_front false n m = refl

-- line ends add up
pub line_ends-append : (front rest : List ℕ) → line_ends (front ++ rest) ≡ line_ends front + line_ends rest
line_ends-append [] rest = omega arith
line_ends-append (byte ∷ front) rest =
    ap (λ n. if byte == 10 then suc n else n) (line_ends-append front rest) ∙ ends_front (byte == 10) (line_ends front) (line_ends rest)

-- a byte of bytes without a line end is none, and there is none behind it
none_here : (here : Bool) (n : ℕ) → (if here then suc n else n) ≡ 0 → (here ≡ false) × (n ≡ 0)
none_here true n none = absurd (omega arith)
none_here false n none = (refl, none)

-- one line more
pub line_ends-line : (line rest : List ℕ) → line_ends line ≡ 0 → line_ends (line ++ 10 ∷ rest) ≡ suc (line_ends rest)
line_ends-line line rest none = line_ends-append line (10 ∷ rest) ∙ ap (λ n. n + suc (line_ends rest)) none ∙ omega arith

first_step : (here : Bool) (byte : ℕ) (ended going : List ℕ) → here ≡ false → byte ∷ (if here then ended else going) ≡ byte ∷ going
first_step here byte ended going is = ap (λ b. byte ∷ (if b then ended else going)) is

pub first_lines-line : (count : ℕ) (line rest : List ℕ) → line_ends line ≡ 0 → first_lines (suc count) (line ++ 10 ∷ rest) ≡ line ++ 10
    ∷ first_lines count rest
first_lines-line count [] rest none = refl
first_lines-line count (byte ∷ line) rest none =
    let p = none_here (byte == 10) (line_ends line) none in
    first_step (byte == 10) byte (first_lines count (line ++ 10 ∷ rest)) (first_lines (suc count) (line ++ 10 ∷ rest)) p.0 ∙ ap (λ t. byte ∷ t)
    (first_lines-line count line rest p.1)

past_step : (here : Bool) (byte : ℕ) (count : ℕ) (text : List ℕ) → (if here then suc (line_ends text) else line_ends text) < suc count →
    (line_ends text < count → first_lines count text ≡ text) → (line_ends text < suc count → first_lines (suc count) text ≡ text) →
    byte ∷ (if here then first_lines count text else first_lines (suc count) text) ≡ byte ∷ text
past_step true byte count text past ended going = ap (λ t. byte ∷ t) (ended (omega arith))
past_step false byte count text past ended going = ap (λ t. byte ∷ t) (going past)

-- where more lines are asked for than are ended, the first lines are all bytes
pub first_lines-past : (count : ℕ) (text : List ℕ) → line_ends text < count → first_lines count text ≡ text
first_lines-past zero text past = absurd (omega arith)
first_lines-past (suc count) [] past = refl
first_lines-past (suc count) (byte ∷ text) past =
    past_step (byte == 10) byte count text past (first_lines-past count text) (first_lines-past (suc count) text)

front_byte : (line : List ℕ) (byte : ℕ) (rest : List ℕ) → (if byte == 10 then suc (line_ends line) else line_ends line) ≡ 0 → 10 ≡ byte → ⊥
front_byte line byte rest none same =
    let p = none_here (byte == 10) (line_ends line) none in
    let here : (byte == 10) ≡ true = ap (λ b. b == 10) (sym same) in
    let false_is_true : false ≡ true = sym p.0 ∙ here in
    cc

-- bytes up to the first line end, and those behind it, are parted in one way
pub same_line : (line rest other behind : List ℕ) → line_ends line ≡ 0 → line_ends other ≡ 0 → line ++ 10 ∷ rest ≡ other ++ 10 ∷ behind
    → (line ≡ other) × (rest ≡ behind)
same_line [] rest [] behind none nothing same = (refl, ap (drop 1) same)
same_line [] rest (byte ∷ other) behind none nothing same = absurd (front_byte other byte rest nothing (ap (λ t. get_or t 0 0) same))
same_line (byte ∷ line) rest [] behind none nothing same = absurd (front_byte line byte rest none (ap (λ t. get_or t 0 0) (sym same)))
same_line (byte ∷ line) rest (first ∷ other) behind none nothing same =
    let one : byte ≡ first = ap (λ t. get_or t 0 0) same in
    let p = same_line line rest other behind (none_here (byte == 10) (line_ends line) none).1 (none_here (first == 10) (line_ends other) nothing).1
    (ap (drop 1) same) in
    let all : byte ∷ line ≡ first ∷ other = (let tail = p.0 in cc) in
    (all, p.1)
