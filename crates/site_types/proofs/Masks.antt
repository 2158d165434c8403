-- Masks and their bits, at any width.
use Rattle.std.proofs.Common.{◌-◌, ◌&&◌, ◌||◌, max, min, bit_and, add-one, add-zero, ◌≡◌, ◌≢◌, inl, inr, ℕ, zero, suc}
use Rattle.std.proofs.Common.{◌+◌, ◌*◌, ◌/◌, ◌%◌, ◌^◌, ◌<◌, ◌≤◌, ◌==◌, Bool, true, false, if◌then◌else◌, refl, sym}
use Rattle.std.proofs.Common.{◌∙◌, ap, arith, pow-suc}
use Rattle.std.specs.Prelude.{not}
use Rattle.std.specs.Int.{Width, bit_at, bit_not}
use Rattle.std.specs.Int.Bits.{bit_or, or_zero_r}
use mir.Val.{bits}
use Rattle.std.proofs.Math.Nat.{div-eq_of_lt, mod-eq_of_lt}
use Rattle.std.proofs.Math.Pow.{pow_mono}
use Rattle.std.proofs.lemmas.Nat.{and_le_l, or_block, or_lt, pow_below}
use Rattle.std.proofs.lemmas.Nat.Bits.{bit_at_or, bit_at_and, bit_at_not, bit_at-pow_same, bit_at-pow_other}
use Rattle.std.proofs.lemmas.Nat.Bits.{bit_at-lt, bit_at-zero, bit_at_above, bit_at_set_same, bit_at_set_other}
use Rattle.std.proofs.lemmas.Nat.Bits.{bit_at_clear_same, bit_at_clear_other, same_from_bits_below}
use Rattle.std.proofs.lemmas.Bool.Decides.{eqb_tells}
use Rattle.site_types.specs.Bits.{has_bit, mask_of, with_bit}

-- a mask of n bits is below 2 ^ n
pub mask_below : (n : ℕ) (test : ℕ → Bool) → mask_of n test < 2 ^ n
unfolding mask_of
mask_below zero test = omega arith
mask_below (suc n) test = elim (test n) as (λ b. mask_of n test + (if b then 2 ^ n else 0) < 2 ^ suc n) [
  | true ↦ omega (arith, mask_below n test, pow-suc 2 n)
  | false ↦ omega (arith, mask_below n test, pow-suc 2 n)
]

-- so it fits every width that has its bits
pub mask_fits : (w n : ℕ) (test : ℕ → Bool) → n ≤ w → mask_of n test < 2 ^ w
mask_fits w n test le = let below = mask_below n test in let more : 2 ^ n ≤ 2 ^ w = pow_mono le in omega (arith, below, more)

-- the mask of one more bit
pub mask_more : (n : ℕ) (test : ℕ → Bool) → mask_of (suc n) test ≡ mask_of n test + (if test n then 2 ^ n else 0)
unfolding mask_of
mask_more n test = refl

pub mask_none : (test : ℕ → Bool) → mask_of 0 test ≡ 0
unfolding mask_of
mask_none test = refl

-- the next bit fits
pub bit_fits : (w n mask : ℕ) → n < w → mask < 2 ^ n → mask + 1 * 2 ^ n % 2 ^ w < 2 ^ w
bit_fits w n mask small below =
    let one : 2 ^ n < 2 ^ w = pow_below n w small in
    let two : 2 ^ suc n ≤ 2 ^ w = pow_mono small in
    omega (arith, below, one, two, pow-suc 2 n)

joined : (n mask : ℕ) → mask < 2 ^ n → bit_or mask (2 ^ n) ≡ mask + 2 ^ n
joined n mask below =
    let block = or_block n 0 1 mask 0 below (omega (arith, below)) in
    let left : 0 * 2 ^ n + mask ≡ mask = omega arith in
    let right : 1 * 2 ^ n + 0 ≡ 2 ^ n = omega arith in
    sym (ap (λ a. bit_or a (1 * 2 ^ n + 0)) left ∙ ap (bit_or mask) right) ∙ block ∙ ap (λ r. 1 * 2 ^ n + r) (or_zero_r mask) ∙ omega arith

-- each bit of a mask is its test
pub bit_at-mask : (n : ℕ) (test : ℕ → Bool) (k : ℕ) → k < n → bit_at (mask_of n test) k ≡ (if test k then 1 else 0)
unfolding mask_of
bit_at-mask zero test k small = absurd (omega arith)
bit_at-mask (suc n) test k small = go (test n) refl (bit_at-mask n test k) (mask_below n test)
  where
    go : (b : Bool) → test n ≡ b → (k < n → bit_at (mask_of n test) k ≡ (if test k then 1 else 0)) → mask_of n test < 2 ^ n
        → bit_at (mask_of n test + (if b then 2 ^ n else 0)) k ≡ (if test k then 1 else 0)
    go true e ih below =
        let m = mask_of n test in
        let bits = ap (λ x. bit_at x k) (sym (joined n m below)) ∙ bit_at_or m (2 ^ n) k in
        elim (eqb_tells k n) [
          | inl same ↦ (let this : bit_at (2 ^ n) k ≡ 1 = ap (bit_at (2 ^ n)) same.1 ∙ bit_at-pow_same n in
              bits ∙ omega (arith, this, bit_at-lt m k) ∙ ap (λ t. if t then 1 else 0) (sym (ap test same.1 ∙ e)))
          | inr other ↦ (let this : bit_at (2 ^ n) k ≡ 0 = bit_at-pow_other n k other.1 in let apart = other.1 in
              bits ∙ omega (arith, this) ∙ ih (omega (arith, small, apart)))
        ]
    go false e ih below =
        let m = mask_of n test in
        let same : m + 0 ≡ m = omega arith in
        elim (eqb_tells k n) [
          | inl here ↦ (let none : m / 2 ^ n ≡ 0 = div-eq_of_lt below in let bit : bit_at m n ≡ 0 = rw none refl in
              ap (λ x. bit_at x k) same ∙ ap (bit_at m) here.1 ∙ bit ∙ ap (λ t. if t then 1 else 0) (sym (ap test here.1 ∙ e)))
          | inr other ↦ (let apart = other.1 in ap (λ x. bit_at x k) same ∙ ih (omega (arith, small, apart)))
        ]

flag_is : (b : Bool) (n : ℕ) → n ≡ (if b then 1 else 0) → (n == 1) ≡ b
flag_is true n e = rw e refl
flag_is false n e = rw e refl

-- each bit of a mask is its test
pub has_bit-mask : (n : ℕ) (test : ℕ → Bool) (k : ℕ) → k < n → has_bit (mask_of n test) k ≡ test k
has_bit-mask n test k small = flag_is (test k) (bit_at (mask_of n test) k) (bit_at-mask n test k small)

-- two bits are the same where their tests are
bit_from : (a b : ℕ) → a < 2 → b < 2 → (a == 1) ≡ (b == 1) → a ≡ b
bit_from a b la lb e = elim (eqb_tells a 1) [
  | inl x ↦ elim (eqb_tells b 1) [
    | inl y ↦ x.1 ∙ sym y.1
    | inr y ↦ absurd (let no_way : true ≡ false = sym x.0 ∙ e ∙ y.0 in cc)
  ]
  | inr x ↦ elim (eqb_tells b 1) [
    | inl y ↦ absurd (let no_way : false ≡ true = sym x.0 ∙ e ∙ y.0 in cc)
    | inr y ↦ (let p = x.1 in let q = y.1 in omega (arith, la, lb, p, q))
  ]
]

-- two numbers of n bits with the same bits are equal
pub same_mask : (n a b : ℕ) → a < 2 ^ n → b < 2 ^ n → ((k : ℕ) → k < n → has_bit a k ≡ has_bit b k) → a ≡ b
same_mask n a b la lb same =
    same_from_bits_below n a b la lb (λ k small. bit_from (bit_at a k) (bit_at b k) (bit_at-lt a k) (bit_at-lt b k) (same k small))

-- a number of n bits is the mask of its bits
pub mask_is : (n mask : ℕ) → mask < 2 ^ n → mask ≡ mask_of n (has_bit mask)
mask_is n mask below =
    same_mask n mask (mask_of n (has_bit mask)) below (mask_below n (has_bit mask)) (λ k small. sym (has_bit-mask n (has_bit mask) k small))

-- a number whose bits are the tests is their mask
pub mask_from_bits : (n mask : ℕ) (test : ℕ → Bool) → mask < 2 ^ n → ((k : ℕ) → k < n → has_bit mask k ≡ test k) → mask ≡ mask_of n test
mask_from_bits n mask test below same =
    same_mask n mask (mask_of n test) below (mask_below n test) (λ k small. same k small ∙ sym (has_bit-mask n test k small))

-- equal tests make equal masks
pub mask_same : (n : ℕ) (p q : ℕ → Bool) → ((k : ℕ) → k < n → p k ≡ q k) → mask_of n p ≡ mask_of n q
mask_same n p q same =
    mask_from_bits n (mask_of n p) q (mask_below n p) (λ k small. has_bit-mask n p k small ∙ same k small)

-- no bit of 0 is set, and none at or above the width
pub has_bit-zero : (k : ℕ) → has_bit 0 k ≡ false
has_bit-zero k = rw (bit_at-zero k) refl

pub has_bit-above : (n mask k : ℕ) → mask < 2 ^ n → n ≤ k → has_bit mask k ≡ false
has_bit-above n mask k below above = rw (bit_at_above mask n k below above) refl

-- a number without a set bit is 0
pub mask_empty : (n mask : ℕ) → mask < 2 ^ n → ((k : ℕ) → k < n → has_bit mask k ≡ false) → mask ≡ 0
mask_empty n mask below none =
    same_mask n mask 0 below (omega (arith, below)) (λ k small. none k small ∙ sym (has_bit-zero k))

-- the bit that is written
pub with_bit-same : (w : Width) (mask k : ℕ) (on : Bool) → k < bits w → has_bit (with_bit w mask k on) k ≡ on
with_bit-same w mask k true within = rw (bit_at_set_same w mask k within) refl
with_bit-same w mask k false within = rw (bit_at_clear_same w mask k within) refl

-- every other bit
pub with_bit-other : (w : Width) (mask k : ℕ) (on : Bool) → k < bits w → (i : ℕ) → i < bits w → i ≢ k
    → has_bit (with_bit w mask k on) i ≡ has_bit mask i
with_bit-other w mask k true within i small apart = rw (bit_at_set_other w mask k within i apart) refl
with_bit-other w mask k false within i small apart = rw (bit_at_clear_other w mask k within i small apart) refl

-- a mask that grows by one flag
pub mask_on : (w n mask : ℕ) (test : ℕ → Bool) → n < w → mask ≡ mask_of n test → test n ≡ true → mask + 1 * 2 ^ n % 2 ^ w ≡ mask_of (n + 1) test
mask_on w n mask test small is on =
    let one : 2 ^ n < 2 ^ w = pow_below n w small in
    let place : 1 * 2 ^ n ≡ 2 ^ n = omega arith in
    let more : mask_of (suc n) test ≡ mask_of n test + 2 ^ n = mask_more n test ∙ ap (λ b. mask_of n test + (if b then 2 ^ n else 0)) on in
    rw (add-one, more, is, place, mod-eq_of_lt one) refl

pub mask_off : (n mask : ℕ) (test : ℕ → Bool) → mask ≡ mask_of n test → test n ≡ false → mask ≡ mask_of (n + 1) test
mask_off n mask test is off =
    let more : mask_of (suc n) test ≡ mask_of n test + 0 = mask_more n test ∙ ap (λ b. mask_of n test + (if b then 2 ^ n else 0)) off in
    rw (add-one, more, is) (sym (add-zero (mask_of n test)))

or_bit : (a b : ℕ) → a < 2 → b < 2 → (max a b == 1) ≡ ((a == 1) || (b == 1))
or_bit zero zero la lb = refl
or_bit zero (suc zero) la lb = refl
or_bit zero (suc (suc n)) la lb = absurd (omega (arith, lb))
or_bit (suc zero) zero la lb = refl
or_bit (suc zero) (suc zero) la lb = refl
or_bit (suc zero) (suc (suc n)) la lb = absurd (omega (arith, lb))
or_bit (suc (suc n)) b la lb = absurd (omega (arith, la))

and_bit : (a b : ℕ) → a < 2 → b < 2 → (min a b == 1) ≡ ((a == 1) && (b == 1))
and_bit zero zero la lb = refl
and_bit zero (suc zero) la lb = refl
and_bit zero (suc (suc n)) la lb = absurd (omega (arith, lb))
and_bit (suc zero) zero la lb = refl
and_bit (suc zero) (suc zero) la lb = refl
and_bit (suc zero) (suc (suc n)) la lb = absurd (omega (arith, lb))
and_bit (suc (suc n)) b la lb = absurd (omega (arith, la))

not_bit : (a : ℕ) → a < 2 → (1 - a == 1) ≡ not (a == 1)
not_bit zero la = refl
not_bit (suc zero) la = refl
not_bit (suc (suc n)) la = absurd (omega (arith, la))

-- the bits of what `|`, `&` and `& !` make of two masks
pub has_bit-or : (a b k : ℕ) → has_bit (bit_or a b) k ≡ (has_bit a k || has_bit b k)
has_bit-or a b k = ap (λ x. x == 1) (bit_at_or a b k) ∙ or_bit (bit_at a k) (bit_at b k) (bit_at-lt a k) (bit_at-lt b k)

pub has_bit-and : (a b k : ℕ) → has_bit (bit_and a b) k ≡ (has_bit a k && has_bit b k)
has_bit-and a b k = ap (λ x. x == 1) (bit_at_and a b k) ∙ and_bit (bit_at a k) (bit_at b k) (bit_at-lt a k) (bit_at-lt b k)

pub has_bit-not : (w : Width) (mask k : ℕ) → mask < 2 ^ bits w → k < bits w → has_bit (bit_not w mask) k ≡ not (has_bit mask k)
has_bit-not w mask k below small = ap (λ x. x == 1) (bit_at_not w mask k below small) ∙ not_bit (bit_at mask k) (bit_at-lt mask k)

pub mask_or : (n a b : ℕ) → bit_or a b < 2 ^ n → bit_or a b ≡ mask_of n (λ k. has_bit a k || has_bit b k)
mask_or n a b below = mask_from_bits n (bit_or a b) (λ k. has_bit a k || has_bit b k) below (λ k small. has_bit-or a b k)

pub mask_and : (n a b : ℕ) → bit_and a b < 2 ^ n → bit_and a b ≡ mask_of n (λ k. has_bit a k && has_bit b k)
mask_and n a b below = mask_from_bits n (bit_and a b) (λ k. has_bit a k && has_bit b k) below (λ k small. has_bit-and a b k)

pub mask_without : (w : Width) (a b : ℕ) → b < 2 ^ bits w → bit_and a (bit_not w b) < 2 ^ bits w →
    bit_and a (bit_not w b) ≡ mask_of (bits w) (λ k. has_bit a k && not (has_bit b k))
mask_without w a b bound below =
    mask_from_bits (bits w) (bit_and a (bit_not w b)) (λ k. has_bit a k && not (has_bit b k)) below
    (λ k small. has_bit-and a (bit_not w b) k ∙ ap (λ x. has_bit a k && x) (has_bit-not w b k bound small))

-- the mask of a width with one bit set or cleared fits it, and is that of a wider one
with_bit-fits : (w : Width) (n mask k : ℕ) (on : Bool) → n ≤ bits w → mask < 2 ^ n → k < n → with_bit w mask k on < 2 ^ n
with_bit-fits w n mask k true le below small =
    let one : 2 ^ k < 2 ^ bits w = pow_below k (bits w) (omega (arith, le, small)) in
    let place : 1 * 2 ^ k ≡ 2 ^ k = omega arith in
    rw (place, mod-eq_of_lt one) (or_lt n mask (2 ^ k) below (pow_below k n small))
with_bit-fits w n mask k false le below small =
    let le' = and_le_l mask (bit_not w (1 * 2 ^ k % 2 ^ bits w)) in omega (arith, le', below)

pub with_bit-wider : (v w : Width) (mask k : ℕ) (on : Bool) → bits v ≤ bits w → mask < 2 ^ bits v → k < bits v
    → (with_bit w mask k on < 2 ^ bits v) × (with_bit w mask k on ≡ with_bit v mask k on)
with_bit-wider v w mask k on le below small =
    let fits = with_bit-fits w (bits v) mask k on le below small in
    let wide : k < bits w = omega (arith, small, le) in (
      fits,
      same_mask (bits v) (with_bit w mask k on) (with_bit v mask k on) fits
          (with_bit-fits v (bits v) mask k on (omega arith) below small)
          (λ i near. elim (eqb_tells i k) [
            | inl same ↦
                ap (has_bit (with_bit w mask k on)) same.1 ∙ with_bit-same w mask k on wide
                ∙ sym (ap (has_bit (with_bit v mask k on)) same.1 ∙ with_bit-same v mask k on small)
            | inr other ↦
                with_bit-other w mask k on wide i (omega (arith, near, le)) other.1 ∙ sym (with_bit-other v mask k on small i near other.1)
          ]),
    )
