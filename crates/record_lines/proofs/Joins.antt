-- A printed text: its fields, how many they are, and its bytes.
use Rattle.std.proofs.Common.{◌≡◌, ◌∙◌, ◌+◌, ◌*◌, ◌≤◌, ◌++◌, ℕ, zero, suc, true, List, [], ◌∷◌, None, Some, length, map, refl, sym, ap, subst, arith, length-append}
use Rattle.std.specs.Prelude.{nat_le, if◌then◌else◌}
use Rattle.std.specs.List.{list_all}
use Rattle.std.proofs.lemmas.Bool.{and_from, and_parts, le-leb}
use Rattle.std.proofs.lemmas.List.Folds.{list_all-append}
use Rattle.site_types.specs.Fields.{after_space}
use Rattle.line_fields.proofs.Joined.{HasFields, after_first, all_clear, before_word, both, fit_all_clear, fit_clear, fit_plain, fit_short, is_clear, parted, spaced}
use Rattle.line_fields.proofs.Joined.{fields_of as fields_spaced}
use Rattle.line_fields.proofs.PlainFields.{are_fit, is_fit, is_plain, plain_range}
use Rattle.record_lines.specs.Lines.{is_printable, refusal_within}
use Rattle.record_lines.specs.Printed.{joined}
use Rattle.record_lines.specs.declared.why.Why.TheVariants.{NotAscii}
use Rattle.record_lines.specs.Seats.{seat_of, seats_of}
use Rattle.record_lines.proofs.Printing.{joined_is}

-- ---- fields

pub fields_of : (most : ℕ) (word : List ℕ) (fields : List (List ℕ)) → is_fit most word ≡ true → are_fit most fields ≡ true
    → HasFields (joined word fields) word fields
fields_of most word fields fit others =
    subst (λ text. HasFields text word fields) (sym (joined_is word fields))
    (fields_spaced word fields (fit_clear most word fit) (fit_all_clear most fields others))

pub after_joined : (word : List ℕ) (fields : List (List ℕ)) → is_clear word ≡ true → after_space (joined word fields) ≡ parted fields
after_joined word fields clear = ap after_space (joined_is word fields) ∙ after_first word fields clear

pub seats_parted : (fields : List (List ℕ)) → all_clear fields ≡ true → seats_of (length fields) (parted fields) ≡ map seat_of fields
seats_parted [] clear = refl
seats_parted (first ∷ fields) clear =
    let p = both (is_clear first) (all_clear fields) clear in
    ap (λ t. seat_of t ∷ seats_of (length fields) (after_space (first ++ spaced fields))) (before_word first fields p.0)
    ∙ ap (λ t. seat_of first ∷ seats_of (length fields) t) (after_first first fields p.0) ∙ ap (λ rest. seat_of first ∷ rest)
    (seats_parted fields p.1)

-- ---- bytes

plain_printable : (byte : ℕ) → is_plain byte ≡ true → is_printable byte ≡ true
plain_printable byte plain =
    let range = plain_range byte plain in
    let low = range.0 in
    and_from (nat_le 32 byte) (nat_le byte 126) (le-leb 32 byte (omega (arith, low))) (le-leb byte 126 range.1)

field_printable : (field : List ℕ) → list_all is_plain field ≡ true → list_all is_printable field ≡ true
field_printable [] plain = refl
field_printable (byte ∷ rest) plain =
    let p = and_parts (is_plain byte) (list_all is_plain rest) plain in
    and_from (is_printable byte) (list_all is_printable rest) (plain_printable byte p.0) (field_printable rest p.1)

printable_append : (xs ys : List ℕ) → list_all is_printable xs ≡ true → list_all is_printable ys ≡ true → list_all is_printable (xs ++ ys) ≡ true
printable_append xs ys front behind = list_all-append is_printable xs ys ∙ and_from (list_all is_printable xs) (list_all is_printable ys) front behind

spaced_printable : (most : ℕ) (fields : List (List ℕ)) → are_fit most fields ≡ true → list_all is_printable (spaced fields) ≡ true
spaced_printable most [] fit = refl
spaced_printable most (first ∷ fields) fit =
    let p = and_parts (is_fit most first) (are_fit most fields) fit in
    printable_append first (spaced fields) (field_printable first (fit_plain most first p.0)) (spaced_printable most fields p.1)

spaced_short : (most : ℕ) (fields : List (List ℕ)) → are_fit most fields ≡ true → length (spaced fields) ≤ (most + 1) * length fields
spaced_short most [] fit = omega arith
spaced_short most (first ∷ fields) fit =
    let p = and_parts (is_fit most first) (are_fit most fields) fit in
    let here = fit_short most first p.0 in
    let rest = spaced_short most fields p.1 in
    omega (arith, length-append first (spaced fields), here, rest)

-- at most 512 bytes, each printable
pub record IsLineText (text : List ℕ) : Type 0 where
  pub printable : list_all is_printable text ≡ true
  pub short : length text ≤ 512

pub joined_text : (most : ℕ) (word : List ℕ) (fields : List (List ℕ)) → is_fit most word ≡ true → are_fit most fields ≡ true
    → (most + 1) * (length fields + 1) ≤ 512 → IsLineText (joined word fields)
joined_text most word fields fit others few =
    let front = fit_short most word fit in
    let behind = spaced_short most fields others in
    subst IsLineText (sym (joined_is word fields)) (record {
      printable = printable_append word (spaced fields) (field_printable word (fit_plain most word fit)) (spaced_printable most fields others);
      short = omega (arith, length-append word (spaced fields), front, behind, few);
    })

pub fine_bytes : (text : List ℕ) (room : ℕ) → list_all is_printable text ≡ true → length text ≤ room → refusal_within room text ≡ None
fine_bytes [] room printable short = refl
fine_bytes (byte ∷ rest) zero printable short = absurd (omega arith)
fine_bytes (byte ∷ rest) (suc room) printable short =
    let p = and_parts (is_printable byte) (list_all is_printable rest) printable in
    ap (λ good. if good then refusal_within room rest else Some NotAscii) p.0 ∙ fine_bytes rest room p.1 (omega arith)

pub fit_more : (most : ℕ) (first : List ℕ) (fields : List (List ℕ)) → is_fit most first ≡ true → are_fit most fields ≡ true
    → are_fit most (first ∷ fields) ≡ true
fit_more most first fields fit others = and_from (is_fit most first) (are_fit most fields) fit others
