-- How a text is parted at its first line end, and how bytes are told to be a line with its end.
use Rattle.std.proofs.Common.{◌≡◌, ◌∙◌, ◌<◌, ◌+◌, ◌++◌, ◌↔◌, ℕ, Bool, true, false, List, [], ◌∷◌, IsTrue, sym, ap, length, get_or, take, drop, take-append-drop, arith}
use Rattle.std.specs.Prelude.{bytes_eq, if◌then◌else◌}
use Rattle.std.proofs.lemmas.Bool.{ne_eqb}
use Rattle.std.proofs.lemmas.List.{append_cancel_left, take-append-le, take_all, take_more}
use Rattle.std.proofs.lemmas.Slice.Eq.{bytes_eq-Decides}
use Rattle.face_reading.specs.Reading.{line_ends}
use Rattle.face_reading.proofs.LineEnds.{line_ends-append}

-- one byte more that is no line end
pub none_more : (text : List ℕ) (place : ℕ) → place < length text → (get_or text place 0 ≡ 10 → ⊥) → line_ends (take place text) ≡ 0
    → line_ends (take (place + 1) text) ≡ 0
none_more text place within other none =
    let byte = get_or text place 0 in
    let one : line_ends (byte ∷ []) ≡ 0 = ap (λ b. if b then 1 else 0) (ne_eqb byte 10 other) in
    let both = ap line_ends (take_more text place 0 within) ∙ line_ends-append (take place text) (byte ∷ []) in
    omega (arith, both, one, none)

-- ---- a line with its end

front_is : (bytes line rest : List ℕ) → bytes ≡ line ++ rest → take (length line) bytes ≡ line
front_is bytes line rest is =
    ap (take (length line)) is ∙ take-append-le (length line) line rest (omega arith) ∙ take_all (length line) line (omega arith)

-- bytes that begin with the line are it with its end where that is left
pub ended_if : (bytes line rest : List ℕ) (end : Bool) → bytes_eq (take (length line) bytes) line ≡ true → rest ≡ drop (length line) bytes
    → end ≡ bytes_eq rest (10 ∷ []) → IsTrue end ↔ (bytes ≡ line ++ 10 ∷ [])
ended_if bytes line rest end begins left is =
    let decides = bytes_eq-Decides rest (10 ∷ []) in
    let whole : bytes ≡ line ++ rest =
    sym (take-append-drop (length line) bytes) ∙ ap (λ t. t ++ drop (length line) bytes) ((bytes_eq-Decides (take (length line) bytes) line).0 begins)
    ∙ ap (λ t. line ++ t) (sym left)
    in (
      λ yes. whole ∙ ap (λ t. line ++ t) (decides.0 (sym is ∙ yes)),
      λ same. is ∙ decides.1 (append_cancel_left line rest (10 ∷ []) (sym whole ∙ same)),
    )

-- and are not where they don't begin so
pub ended_not : (bytes line : List ℕ) → bytes_eq (take (length line) bytes) line ≡ false → IsTrue false ↔ (bytes ≡ line ++ 10 ∷ [])
ended_not bytes line other = (
  λ h. cc,
  λ same. let begins : bytes_eq (take (length line) bytes) line ≡ true =
      (bytes_eq-Decides (take (length line) bytes) line).1 (front_is bytes line (10 ∷ []) same) in
      absurd (let e : true ≡ false = sym begins ∙ other in cc),
)
