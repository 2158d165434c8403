-- Reading a number digit by digit.
use Rattle.std.proofs.Common.{◌≡◌, inl, inr, ℕ, suc, ◌+◌, ◌-◌, ◌*◌, ◌<◌, ◌≤◌, ◌^◌, ◌&&◌, Bool, true, false, List, []}
use Rattle.std.proofs.Common.{◌∷◌, Option, Some, None, if◌then◌else◌, refl, ◌∙◌, length, drop, get_or, arith, add-one}
use Rattle.std.specs.Prelude.{nat_lt}
use Rattle.std.proofs.Math.ListN.{drop_of_length-le}
use Rattle.std.proofs.Math.Seq.{drop-cons}
use Rattle.std.proofs.lemmas.Bool.{cases_lt, lt-ltb}
use Rattle.std.proofs.lemmas.Grind.{common_steps}
use Rattle.site_types.specs.Numbers.{is_digit, all_digits, value_after}

-- what is left to read of a text after its first k bytes, which are digits that spell this number
pub record IsRead (text : List ℕ) (number k : ℕ) : Type 0 where
  pub digits : all_digits text ≡ all_digits (drop k text)
  pub value : value_after 0 text ≡ value_after number (drop k text)
  pub small : number < 2 ^ 64

pub none_read : (text : List ℕ) → IsRead text 0 0
none_read text = record { digits = refl; value = refl; small = omega arith }

-- the number that the digits of a text spell
abbrev pub spelt : List ℕ → Option ℕ
spelt text = if all_digits text && nat_lt (value_after 0 text) (2 ^ 64) then Some (value_after 0 text) else None

pub one_read : (text : List ℕ) (number k digit : ℕ) → k < length text → is_digit (get_or text k 0) ≡ true → digit ≡ get_or text k 0 - 48
    → 10 * number + digit < 2 ^ 64 →
    IsRead text number k → IsRead text (10 * number + digit) (k + 1)
one_read text number k digit small is_one d fits_in read = record {
  digits = read.digits ∙ rw (drop-cons text k 0 small, is_one, add-one) refl;
  value = read.value ∙ rw (drop-cons text k 0 small, d, add-one) refl;
  small = fits_in;
}

pub other_read : (text : List ℕ) (number k : ℕ) → k < length text → is_digit (get_or text k 0) ≡ false → IsRead text number k → None ≡ spelt text
other_read text number k small is_none read =
    let none : all_digits text ≡ false = read.digits ∙ rw (drop-cons text k 0 small, is_none) refl in
    rw none refl

value_grows : (number : ℕ) (text : List ℕ) → number ≤ value_after number text
value_grows number [] = omega arith
value_grows number (byte ∷ rest) = omega (arith, value_grows (10 * number + (byte - 48)) rest)

too_great : (b : Bool) (n : ℕ) → 2 ^ 64 ≤ n → None ≡ (if b && nat_lt n (2 ^ 64) then Some n else None)
too_great false n great = refl
too_great true n great = grind (arith, common_steps)

-- no number comes where the next one is too great
pub none_is_great : (n : ℕ) → None ≡ (if nat_lt n (2 ^ 64) then Some n else None) → 2 ^ 64 ≤ n
none_is_great n h = elim (cases_lt n (2 ^ 64)) [
  | inl less ↦ absurd (let some : ◌≡◌ {A = Option ℕ} None (Some n) = h ∙ rw (lt-ltb n (2 ^ 64) less) refl in cc)
  | inr great ↦ great
]

pub great_read : (text : List ℕ) (number k digit : ℕ) → k < length text → digit ≡ get_or text k 0 - 48 → 2 ^ 64 ≤ 10 * number + digit →
    IsRead text number k → None ≡ spelt text
great_read text number k digit small d great read =
    let is : value_after 0 text ≡ value_after (10 * number + digit) (drop (suc k) text) = read.value ∙ rw (drop-cons text k 0 small, d) refl in
    too_great (all_digits text) (value_after 0 text) (omega (arith, great, is, value_grows (10 * number + digit) (drop (suc k) text)))

fits : (n : ℕ) → n < 2 ^ 64 → Some n ≡ (if true && nat_lt n (2 ^ 64) then Some n else None)
fits n small = grind (arith, common_steps)

pub all_read : (text : List ℕ) (number k : ℕ) → length text ≤ k → IsRead text number k → Some number ≡ spelt text
all_read text number k end read =
    let done = drop_of_length-le text end in
    let all : all_digits text ≡ true = read.digits ∙ rw done refl in
    let is : value_after 0 text ≡ number = read.value ∙ rw done refl in
    rw (all, is) (fits number read.small)
