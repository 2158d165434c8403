-- What a text has that was put together of fields without spaces: its fields, and how many they are.
use Rattle.std.proofs.Common.{◌≡◌, ◌∙◌, ◌+◌, ◌≤◌, ◌++◌, ◌&&◌, ℕ, zero, suc, Bool, true, false, cond, List, [], ◌∷◌, length, get_or, refl, ap, arith, zero-add}
use Rattle.std.specs.Prelude.{◌==◌, nat_le, not, if◌then◌else◌}
use Rattle.std.specs.List.{list_all}
use Rattle.std.proofs.lemmas.Bool.{and_from, and_parts, leb-true, ne_eqb, not-true, not_from_false}
use Rattle.std.proofs.lemmas.List.Sums.{sum_by-append}
use Rattle.line_fields.specs.Fields.{each_field, space_count}
use Rattle.site_types.specs.Fields.{after_space, before_space, field}
use Rattle.line_fields.proofs.PlainFields.{are_fit, are_plain, is_fit, is_plain, plain_range}

-- ---- fields without spaces

abbrev pub is_clear : List ℕ → Bool
is_clear [] = true
is_clear (byte ∷ rest) = not (byte == 32) && is_clear rest

abbrev pub all_clear : List (List ℕ) → Bool
all_clear [] = true
all_clear (first ∷ fields) = is_clear first && all_clear fields

pub both : (a b : Bool) → (a && b) ≡ true → (a ≡ true) × (b ≡ true)
both true true is = (refl, refl)
both true false is = cc
both false b is = cc

-- what stands behind a first field
abbrev pub spaced : List (List ℕ) → List ℕ
spaced [] = []
spaced (first ∷ fields) = 32 ∷ (first ++ spaced fields)

before_byte : (space : Bool) (byte : ℕ) (rest word : List ℕ) → not space ≡ true → rest ≡ word → (if space then [] else byte ∷ rest) ≡ byte ∷ word
before_byte true byte rest word other is = cc
before_byte false byte rest word other is = ap (λ t. byte ∷ t) is

pub before_word : (word : List ℕ) (fields : List (List ℕ)) → is_clear word ≡ true → before_space (word ++ spaced fields) ≡ word
before_word [] [] clear = refl
before_word [] (first ∷ fields) clear = refl
before_word (byte ∷ word) fields clear =
    let p = both (not (byte == 32)) (is_clear word) clear in
    before_byte (byte == 32) byte (before_space (word ++ spaced fields)) word p.0 (before_word word fields p.1)

after_byte : (space : Bool) (rest behind word : List ℕ) → not space ≡ true → behind ≡ word → (if space then rest else behind) ≡ word
after_byte true rest behind word other is = cc
after_byte false rest behind word other is = is

pub after_word : (word first : List ℕ) (fields : List (List ℕ)) → is_clear word ≡ true → after_space (word ++ spaced (first ∷ fields)) ≡ first
    ++ spaced fields
after_word [] first fields clear = refl
after_word (byte ∷ word) first fields clear =
    let p = both (not (byte == 32)) (is_clear word) clear in
    after_byte (byte == 32) (word ++ spaced (first ∷ fields)) (after_space (word ++ spaced (first ∷ fields))) (first ++ spaced fields) p.0
    (after_word word first fields p.1)

pub after_last : (word : List ℕ) → is_clear word ≡ true → after_space (word ++ []) ≡ []
after_last [] clear = refl
after_last (byte ∷ word) clear =
    let p = both (not (byte == 32)) (is_clear word) clear in
    after_byte (byte == 32) (word ++ []) (after_space (word ++ [])) [] p.0 (after_last word p.1)

no_field : (place : ℕ) → field place [] ≡ []
no_field zero = refl
no_field (suc place) = no_field place

nothing_at : (place : ℕ) → [] ≡ get_or {A = List ℕ} [] place []
nothing_at zero = refl
nothing_at (suc place) = refl

field_spaced : (place : ℕ) (word : List ℕ) (fields : List (List ℕ)) → is_clear word ≡ true → all_clear fields ≡ true
    → field place (word ++ spaced fields) ≡ get_or (word ∷ fields) place []
field_spaced zero word fields clear others = before_word word fields clear
field_spaced (suc place) word [] clear others = ap (field place) (after_last word clear) ∙ no_field place ∙ nothing_at place
field_spaced (suc place) word (first ∷ fields) clear others =
    let p = both (is_clear first) (all_clear fields) others in
    ap (field place) (after_word word first fields clear) ∙ field_spaced place first fields p.0 p.1

-- ---- plain fields have no spaces

pub plain_clear : (field : List ℕ) → list_all is_plain field ≡ true → is_clear field ≡ true
plain_clear [] plain = refl
plain_clear (byte ∷ rest) plain =
    let p = and_parts (is_plain byte) (list_all is_plain rest) plain in
    let low = (plain_range byte p.0).0 in
    and_from (not (byte == 32)) (is_clear rest) (not_from_false (byte == 32) (ne_eqb byte 32 (λ e. omega (arith, e, low)))) (plain_clear rest p.1)

pub plain_all_clear : (fields : List (List ℕ)) → are_plain fields ≡ true → all_clear fields ≡ true
plain_all_clear [] plain = refl
plain_all_clear (first ∷ fields) plain =
    let p = and_parts (list_all is_plain first) (are_plain fields) plain in
    and_from (is_clear first) (all_clear fields) (plain_clear first p.0) (plain_all_clear fields p.1)

pub fit_plain : (most : ℕ) (field : List ℕ) → is_fit most field ≡ true → list_all is_plain field ≡ true
fit_plain most field fit = (and_parts (list_all is_plain field) (nat_le (length field) most) fit).0

pub fit_short : (most : ℕ) (field : List ℕ) → is_fit most field ≡ true → length field ≤ most
fit_short most field fit = leb-true (length field) most (and_parts (list_all is_plain field) (nat_le (length field) most) fit).1

pub fit_clear : (most : ℕ) (field : List ℕ) → is_fit most field ≡ true → is_clear field ≡ true
fit_clear most field fit = plain_clear field (fit_plain most field fit)

pub fit_all_clear : (most : ℕ) (fields : List (List ℕ)) → are_fit most fields ≡ true → all_clear fields ≡ true
fit_all_clear most [] fit = refl
fit_all_clear most (first ∷ fields) fit =
    let p = and_parts (is_fit most first) (are_fit most fields) fit in
    and_from (is_clear first) (all_clear fields) (fit_clear most first p.0) (fit_all_clear most fields p.1)

-- ---- how many fields there are

pub count_front : (byte : ℕ) (rest : List ℕ) → space_count (byte ∷ rest) ≡ cond (byte == 32) 1 0 + space_count rest
count_front byte rest = sum_by-append (λ b. cond (b == 32) 1 0) (byte ∷ []) rest ∙ ap (λ n. n + space_count rest) (zero-add (cond (byte == 32) 1 0))

count_word : (word : List ℕ) → is_clear word ≡ true → space_count word ≡ 0
count_word [] clear = refl
count_word (byte ∷ word) clear =
    let p = both (not (byte == 32)) (is_clear word) clear in
    count_front byte word ∙ ap (λ b. cond b 1 0 + space_count word) (not-true (byte == 32) p.0) ∙ zero-add (space_count word) ∙ count_word word p.1

count_append : (word rest : List ℕ) → is_clear word ≡ true → space_count (word ++ rest) ≡ space_count rest
count_append word rest clear =
    sum_by-append (λ b. cond (b == 32) 1 0) word rest ∙ ap (λ n. n + space_count rest) (count_word word clear) ∙ zero-add (space_count rest)

count_spaced : (fields : List (List ℕ)) → all_clear fields ≡ true → space_count (spaced fields) ≡ length fields
count_spaced [] clear = refl
count_spaced (first ∷ fields) clear =
    let p = both (is_clear first) (all_clear fields) clear in
    let front : space_count (spaced (first ∷ fields)) ≡ 1 + space_count (first ++ spaced fields) = count_front 32 (first ++ spaced fields) in
    let rest : space_count (first ++ spaced fields) ≡ length fields = count_append first (spaced fields) p.0 ∙ count_spaced fields p.1 in
    omega (arith, front, rest)

-- the fields that a text has behind its first word
pub record HasFields (text word : List ℕ) (fields : List (List ℕ)) : Type 0 where
  pub at : (place : ℕ) → field place text ≡ get_or (word ∷ fields) place []
  pub count : space_count text ≡ length fields

pub fields_of : (word : List ℕ) (fields : List (List ℕ)) → is_clear word ≡ true → all_clear fields ≡ true
    → HasFields (word ++ spaced fields) word fields
fields_of word fields clear others =
    record {
      at = λ place. field_spaced place word fields clear others;
      count = count_append word (spaced fields) clear ∙ count_spaced fields others;
    }

-- ---- the fields in turn

-- fields with a space between each two
abbrev pub parted : List (List ℕ) → List ℕ
parted [] = []
parted (first ∷ fields) = first ++ spaced fields

pub after_first : (word : List ℕ) (fields : List (List ℕ)) → is_clear word ≡ true → after_space (word ++ spaced fields) ≡ parted fields
after_first word [] clear = after_last word clear
after_first word (first ∷ fields) clear = after_word word first fields clear

pub each_parted : (test : List ℕ → Bool) (fields : List (List ℕ)) → all_clear fields ≡ true
    → each_field test (length fields) (parted fields) ≡ list_all test fields
each_parted test [] clear = refl
each_parted test (first ∷ fields) clear =
    let p = both (is_clear first) (all_clear fields) clear in
    ap (λ t. test t && each_field test (length fields) (after_space (first ++ spaced fields))) (before_word first fields p.0)
    ∙ ap (λ t. test first && each_field test (length fields) t) (after_first first fields p.0) ∙ ap (λ b. test first && b)
    (each_parted test fields p.1)
