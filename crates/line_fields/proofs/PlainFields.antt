-- Plain fields, which have neither spaces nor line ends: words, names, codes and numbers are such.
use Rattle.std.proofs.Common.{◌≡◌, ◌<◌, ◌≤◌, ◌^◌, ◌&&◌, ◌||◌, inl, inr, ℕ, Bool, true, List, [], ◌∷◌, length, refl, arith}
use Rattle.std.specs.Prelude.{◌==◌, nat_le, decimal}
use Rattle.std.specs.List.{list_all}
use Rattle.std.proofs.lemmas.Bool.{and_from, and_parts, or_cases, le-leb, leb-true, eqb-true}
use Rattle.std.proofs.lemmas.Fmt.{length-decimal-le}
use Rattle.site_types.specs.Names.{is_letter, is_name_byte, is_name, is_code_byte, is_code, begins_with_letter}
use Rattle.site_types.specs.Numbers.{is_digit, all_digits}
use Rattle.site_types.proofs.Spelling.{number_of-decimal, number_parts}

-- a printable byte that is no space
abbrev pub is_plain : ℕ → Bool
is_plain byte = nat_le 33 byte && nat_le byte 126

abbrev pub are_plain : List (List ℕ) → Bool
are_plain fields = list_all (list_all is_plain) fields

-- plain, with so many bytes at most
abbrev pub is_fit : ℕ → List ℕ → Bool
is_fit most field = list_all is_plain field && nat_le (length field) most

abbrev pub are_fit : ℕ → List (List ℕ) → Bool
are_fit most fields = list_all (is_fit most) fields

pub plain_range : (byte : ℕ) → is_plain byte ≡ true → (33 ≤ byte) × (byte ≤ 126)
plain_range byte plain =
    let p = and_parts (nat_le 33 byte) (nat_le byte 126) plain in
    (leb-true 33 byte p.0, leb-true byte 126 p.1)

plain_within : (byte : ℕ) → 33 ≤ byte → byte ≤ 126 → is_plain byte ≡ true
plain_within byte low high = and_from (nat_le 33 byte) (nat_le byte 126) (le-leb 33 byte low) (le-leb byte 126 high)

pub all_weaker : (p q : ℕ → Bool) → ((byte : ℕ) → p byte ≡ true → q byte ≡ true) → (text : List ℕ) → list_all p text ≡ true → list_all q text ≡ true
all_weaker p q weaker [] all = refl
all_weaker p q weaker (byte ∷ rest) all =
    let h = and_parts (p byte) (list_all p rest) all in
    and_from (q byte) (list_all q rest) (weaker byte h.0) (all_weaker p q weaker rest h.1)

-- ---- names and codes

letter_plain : (byte : ℕ) → is_letter byte ≡ true → is_plain byte ≡ true
letter_plain byte is =
    let p = and_parts (nat_le 97 byte) (nat_le byte 122) is in
    plain_within byte (omega (arith, leb-true 97 byte p.0)) (omega (arith, leb-true byte 122 p.1))

digit_plain : (byte : ℕ) → is_digit byte ≡ true → is_plain byte ≡ true
digit_plain byte is =
    let p = and_parts (nat_le 48 byte) (nat_le byte 57) is in
    plain_within byte (omega (arith, leb-true 48 byte p.0)) (omega (arith, leb-true byte 57 p.1))

dash_plain : (byte : ℕ) → (byte == 45) ≡ true → is_plain byte ≡ true
dash_plain byte is = plain_within byte (omega (arith, eqb-true byte 45 is)) (omega (arith, eqb-true byte 45 is))

code_byte_plain : (byte : ℕ) → is_code_byte byte ≡ true → is_plain byte ≡ true
code_byte_plain byte is =
    elim (or_cases (is_letter byte) (is_digit byte) is) [ inl letter ↦ letter_plain byte letter | inr digit ↦ digit_plain byte digit ]

name_byte_plain : (byte : ℕ) → is_name_byte byte ≡ true → is_plain byte ≡ true
name_byte_plain byte is =
    elim (or_cases (is_letter byte || is_digit byte) (byte == 45) is) [ inl code ↦ code_byte_plain byte code | inr dash ↦ dash_plain byte dash ]

-- the length of a field with a greater bound
fit_from : (least most : ℕ) (field : List ℕ) → least ≤ most → list_all is_plain field ≡ true → nat_le (length field) least ≡ true
    → is_fit most field ≡ true
fit_from least most field within plain short =
    and_from (list_all is_plain field) (nat_le (length field) most) plain
    (le-leb (length field) most (omega (arith, leb-true (length field) least short, within)))

pub name_plain : (name : List ℕ) → is_name name ≡ true → list_all is_plain name ≡ true
name_plain name is =
    all_weaker is_name_byte is_plain name_byte_plain name (and_parts (begins_with_letter name && nat_le (length name) 16) (list_all is_name_byte name)
    is).1

pub name_fit : (name : List ℕ) → is_name name ≡ true → is_fit 20 name ≡ true
name_fit name is =
    let p = and_parts (begins_with_letter name && nat_le (length name) 16) (list_all is_name_byte name) is in
    let short = and_parts (begins_with_letter name) (nat_le (length name) 16) p.0 in
    fit_from 16 20 name (omega arith) (name_plain name is) short.1

pub code_fit : (code : List ℕ) → is_code code ≡ true → is_fit 20 code ≡ true
code_fit code is =
    let p = and_parts (nat_le 1 (length code) && nat_le (length code) 16) (list_all is_code_byte code) is in
    let short = and_parts (nat_le 1 (length code)) (nat_le (length code) 16) p.0 in
    fit_from 16 20 code (omega arith) (all_weaker is_code_byte is_plain code_byte_plain code p.1) short.1

-- ---- numbers

digits_plain : (text : List ℕ) → all_digits text ≡ true → list_all is_plain text ≡ true
digits_plain [] all = refl
digits_plain (byte ∷ rest) all =
    let p = and_parts (is_digit byte) (all_digits rest) all in
    and_from (is_plain byte) (list_all is_plain rest) (digit_plain byte p.0) (digits_plain rest p.1)

pub decimal_plain : (n : ℕ) → n < 2 ^ 64 → list_all is_plain (decimal n) ≡ true
decimal_plain n small = digits_plain (decimal n) (number_parts (decimal n) n (number_of-decimal n small)).1

pub number_fit : (n : ℕ) → n < 2 ^ 64 → is_fit 20 (decimal n) ≡ true
number_fit n small =
    and_from (list_all is_plain (decimal n)) (nat_le (length (decimal n)) 20) (decimal_plain n small)
    (le-leb (length (decimal n)) 20 (length-decimal-le 20 n (omega arith) (omega (arith, small)) small))

pub octet_small : (n : ℕ) → n < 256 → n < 2 ^ 64
octet_small n below = omega (arith, below)
