-- The number of a text, and the text of a number.
use Rattle.std.proofs.Common.{rules, ap, length, Bool, ◌&&◌, ◌≡◌, ◌<◌, ◌^◌, ℕ, zero, suc, true, false, List, [], ◌∷◌, Some, None, refl, sym, ◌∙◌, get_or, arith}
use Rattle.std.specs.Prelude.{◌==◌, nat_lt, if◌then◌else◌}
use Rattle.std.specs.Fmt.{decimal}
use Rattle.std.proofs.lemmas.Option.{same_Some}
use Rattle.std.proofs.lemmas.Bool.{ltb-true, eqb-false, not-true, ne_eqb, lt-ltb, not_from_false}
use Rattle.std.proofs.lemmas.Fmt.{decimal-digits_value, decimal_digit, first_decimal, digits_decimal, digits_value-decimal}
use Rattle.std.proofs.lemmas.Str.Parse.{IsNumeralModel, numerals_by_fold}
use Rattle.site_types.specs.Numbers.{all_digits, value_after, begins_as_number, number_of}
use Rattle.site_types.proofs.Digits.{spelt}

-- a text that begins as a number spells what its digits spell, and another one none
pub begun : (text : List ℕ) → begins_as_number text ≡ true → spelt text ≡ number_of text
unfolding number_of
begun text h = rw h refl

pub not_begun : (text : List ℕ) → begins_as_number text ≡ false → None ≡ number_of text
unfolding number_of
not_begun text h = rw h refl

own : IsNumeralModel (λ ds. all_digits ds ≡ true) (value_after 0)
own = numerals_by_fold _ (search rules) value_after (search rules)

begins_above : (text : List ℕ) → 48 < get_or text 0 0 → begins_as_number text ≡ true
begins_above [] h = absurd (omega arith)
begins_above (byte ∷ []) h = refl
begins_above (byte ∷ next ∷ rest) h = not_from_false (byte == 48) (ne_eqb byte 48 (λ e. omega (arith, e, h)))

decimal_begins : (n : ℕ) → n < 2 ^ 64 → begins_as_number (decimal n) ≡ true
decimal_begins zero small = rw (decimal_digit 0 (omega arith)) refl
decimal_begins (suc n) small = begins_above (decimal (suc n)) (first_decimal (suc n) (omega arith) small)

spells : (text : List ℕ) (n : ℕ) → begins_as_number text ≡ true → all_digits text ≡ true → value_after 0 text ≡ n → n < 2 ^ 64
    → number_of text ≡ Some n
spells text n begins digits value small = sym (begun text begins) ∙ rw (digits, value, lt-ltb n (2 ^ 64) small) refl

-- the text that is written for a number spells it
pub number_of-decimal : (n : ℕ) → n < 2 ^ 64 → number_of (decimal n) ≡ Some n
number_of-decimal n small = spells (decimal n) n (decimal_begins n small) (digits_decimal own n small) (digits_value-decimal own n small) small

parts : (begins digits small : Bool) (value n : ℕ) → (if (begins && digits) && small then Some value else None) ≡ Some n →
    (begins ≡ true) × (digits ≡ true) × (small ≡ true) × (value ≡ n)
parts true true true value n h = (refl, refl, refl, same_Some value n h)
parts true true false value n h = cc
parts true false small value n h = cc
parts false digits small value n h = cc

-- what the number of a text tells of the text
pub number_parts : (text : List ℕ) (n : ℕ) → number_of text ≡ Some n →
    (begins_as_number text ≡ true) × (all_digits text ≡ true) × (value_after 0 text ≡ n) × (n < 2 ^ 64)
unfolding number_of
number_parts text n h =
    let p = parts (begins_as_number text) (all_digits text) (nat_lt (value_after 0 text) (2 ^ 64)) (value_after 0 text) n h in
    let small = ltb-true (value_after 0 text) (2 ^ 64) p.2 in
    let is = p.3 in
    (p.0, p.1, is, omega (arith, small, is))

nonempty : (text : List ℕ) → begins_as_number text ≡ true → 0 < length text
nonempty [] h = cc
nonempty (byte ∷ rest) h = omega arith

only_zero : (text : List ℕ) → begins_as_number text ≡ true → get_or text 0 0 ≡ 48 → length text ≡ 1
only_zero [] h zero_first = cc
only_zero (byte ∷ []) h zero_first = refl
only_zero (byte ∷ next ∷ rest) h zero_first = absurd (eqb-false byte 48 (not-true (byte == 48) h) zero_first)

-- a text that spells a number is the one that is written for it
pub decimal-number_of : (text : List ℕ) (n : ℕ) → number_of text ≡ Some n → text ≡ decimal n
decimal-number_of text n h =
    let p = number_parts text n h in
    let small : value_after 0 text < 2 ^ 64 = (let is = p.2 in let less = p.3 in omega (arith, is, less)) in
    sym (decimal-digits_value own text p.1 (nonempty text p.0) (only_zero text p.0) small) ∙ ap decimal p.2
