use Rattle.std.proofs.Common.{◌≡◌, ◌≢◌, ℕ, ◌+◌, ◌-◌, ◌/◌, ◌%◌, ◌^◌, ◌<◌, ◌≤◌, ◌==◌, true, false, inl, inr, sym, ◌∙◌, ap, arith}
use Rattle.std.proofs.Math.Nat.{div-le_self}
use Rattle.std.proofs.lemmas.Nat.{shr-shr}
use Rattle.std.proofs.lemmas.Nat.Bits.{bit_at-trailing_zeros}
use Rattle.std.specs.Int.{w32, bit_at, trailing_zeros}
use Rattle.site_types.specs.Bits.{has_bit}
use Rattle.site_types.proofs.Done.{lt_tells}
use Rattle.site_types.proofs.Masks.{has_bit-above, has_bit-zero}
use Rattle.coincidence.proofs.bits.lowest_from.Goals as goal

-- the bits of a word behind a place
moved : (word place k : ℕ) → place ≤ k → has_bit word k ≡ has_bit (word / 2 ^ place) (k - place)
moved word place k le =
    let at : place + (k - place) ≡ k = omega (arith, le) in
    ap (has_bit word) (sym at) ∙ sym (ap (λ n. n % 2 == 1) (shr-shr word place (k - place)))

-- one that is set lies in the word
set_within : (word place bit : ℕ) → word < 2 ^ 32 → has_bit (word / 2 ^ place) bit ≡ true → place + bit < 32
set_within word place bit fits set = elim (lt_tells (place + bit) 32) [
  | inl less ↦ less.1
  | inr other ↦ absurd (let none = has_bit-above 32 word (place + bit) fits other.1 in
      let same = ap (λ n. n % 2 == 1) (shr-shr word place bit) in
      cc)
]

pub returns-then-left-eq0-clause-none : goal.returns-then-left-eq0-clause-none
returns-then-left-eq0-clause-none c k from less =
    moved c.args.word c.args.place k from ∙ ap (λ n. has_bit n (k - c.args.place)) c.if-left-eq0.true ∙ has_bit-zero (k - c.args.place)

-- its bits, by the lowest one that is set
module _ (word place : ℕ) (fits : word < 2 ^ 32) (some : word / 2 ^ place ≢ 0) where
  abbrev left : ℕ
  left = word / 2 ^ place

  lowest : (trailing_zeros w32 left < 32) × (bit_at left (trailing_zeros w32 left) ≡ 1) × ((i : ℕ) → i < trailing_zeros w32 left → bit_at left i ≡ 0)
  lowest =
      let most : left ≤ word = div-le_self word (2 ^ place) in
      bit_at-trailing_zeros w32 left (omega (arith, some)) (omega (arith, most, fits))

  most_left : place + trailing_zeros w32 left ≤ 32
  most_left = let within = set_within word place (trailing_zeros w32 left) fits (ap (λ n. n == 1) lowest.1) in omega (arith, within)

  none_left : (k : ℕ) → place ≤ k → k < place + trailing_zeros w32 left → has_bit word k ≡ false
  none_left k from less = moved word place k from ∙ ap (λ n. n == 1) (lowest.2 (k - place) (omega (arith, from, less)))

pub returns-clause-most : goal.returns-clause-most
returns-clause-most c = most_left c.args.word c.args.place c.ranges.word.fits c.if-left-eq0.false

pub returns-clause-none : goal.returns-clause-none
returns-clause-none c k from less = none_left c.args.word c.args.place c.ranges.word.fits c.if-left-eq0.false k from less
