-- The bytes of names and codes are text, so that a label holds them.
use Rattle.std.proofs.Common.{◌≡◌, ◌≤◌, ◌<◌, inl, inr, ℕ, Bool, true, ◌&&◌, ◌||◌, List, [], ◌∷◌, Option, Some, length, ◌∙◌, refl, arith}
use Rattle.std.specs.Prelude.{nat_le, ◌==◌}
use Rattle.std.specs.List.{list_all}
use Rattle.std.specs.Str.{IsAscii, IsUtf8}
use Rattle.std.proofs.lemmas.Bool.{and_parts, or_cases, leb-true, eqb-true}
use Rattle.std.proofs.lemmas.Str.{IsUtf8-from_ascii}
use Rattle.std.proofs.lemmas.Str.Ascii.{IsAscii-nil, IsAscii-cons}
use Rattle.site_types.specs.Numbers.{is_digit}
use Rattle.site_types.specs.Names.{is_letter, is_name_byte, is_code_byte, is_name, is_code, name_of, code_of, begins_with_letter}

letter_below : (byte : ℕ) → is_letter byte ≡ true → byte < 128
letter_below byte h = let p = leb-true byte 122 (and_parts (nat_le 97 byte) (nat_le byte 122) h).1 in omega (arith, p)

digit_below : (byte : ℕ) → is_digit byte ≡ true → byte < 128
digit_below byte h = let p = leb-true byte 57 (and_parts (nat_le 48 byte) (nat_le byte 57) h).1 in omega (arith, p)

code_byte_below : (byte : ℕ) → is_code_byte byte ≡ true → byte < 128
code_byte_below byte h = elim (or_cases (is_letter byte) (is_digit byte) h) [
  | inl a ↦ letter_below byte a
  | inr b ↦ digit_below byte b
]

name_byte_below : (byte : ℕ) → is_name_byte byte ≡ true → byte < 128
name_byte_below byte h = elim (or_cases (is_letter byte || is_digit byte) (byte == 45) h) [
  | inl a ↦ code_byte_below byte a
  | inr b ↦ (let e = eqb-true byte 45 b in omega (arith, e))
]

all_ascii : (test : ℕ → Bool) → ((byte : ℕ) → test byte ≡ true → byte < 128) → (text : List ℕ) → list_all test text ≡ true → IsAscii text
all_ascii test below [] h = IsAscii-nil
all_ascii test below (byte ∷ rest) h =
    let parts = and_parts (test byte) (list_all test rest) h in
    IsAscii-cons byte rest (below byte parts.0) (all_ascii test below rest parts.1)

-- the bytes of a name are text, at most 16 of them
pub name_text : (text : List ℕ) → is_name text ≡ true → IsUtf8 text × (length text ≤ 16)
name_text text h =
    let parts = and_parts (begins_with_letter text && nat_le (length text) 16) (list_all is_name_byte text) h in
    let short = and_parts (begins_with_letter text) (nat_le (length text) 16) parts.0 in
    (IsUtf8-from_ascii text (all_ascii is_name_byte name_byte_below text parts.1), leb-true (length text) 16 short.1)

pub code_text : (text : List ℕ) → is_code text ≡ true → IsUtf8 text × (length text ≤ 16)
code_text text h =
    let parts = and_parts (nat_le 1 (length text) && nat_le (length text) 16) (list_all is_code_byte text) h in
    let short = and_parts (nat_le 1 (length text)) (nat_le (length text) 16) parts.0 in
    (IsUtf8-from_ascii text (all_ascii is_code_byte code_byte_below text parts.1), leb-true (length text) 16 short.1)

pub copied_name : (text : List ℕ) (copied : Option (List ℕ)) → is_name text ≡ true →
    (IsUtf8 text → length text ≤ 16 → copied ≡ Some text) → copied ≡ name_of text
copied_name text copied h gives = let t = name_text text h in gives t.0 t.1 ∙ rw h refl

pub copied_code : (text : List ℕ) (copied : Option (List ℕ)) → is_code text ≡ true →
    (IsUtf8 text → length text ≤ 16 → copied ≡ Some text) → copied ≡ code_of text
copied_code text copied h gives = let t = code_text text h in gives t.0 t.1 ∙ rw h refl
