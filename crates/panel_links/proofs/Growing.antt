-- A mask that grows at its lowest bit, from the flag of the last number down: each new bit moves the others up.
use Rattle.std.proofs.Common.{◌≡◌, ◌∙◌, ◌+◌, ◌*◌, ◌-◌, ◌/◌, ◌^◌, ◌<◌, ◌≤◌, ◌==◌, ℕ, zero, suc, Bool, true, false}
use Rattle.std.proofs.Common.{refl, ap, subst, arith, pow-suc}
use Rattle.std.specs.Int.{bit_at}
use Rattle.std.proofs.Math.Pow.{pow_mono}
use Rattle.std.proofs.lemmas.Nat.Bits.{bit_at_lowest, bit_at-suc}
use mir.Val.{bool_byte}
use Rattle.site_types.specs.Bits.{has_bit}
use Rattle.site_types.proofs.Masks.{has_bit-above}

-- a mask with a bit put in below
abbrev pub grown : ℕ → Bool → ℕ
grown mask on = 2 * mask + bool_byte on

lowest : (mask : ℕ) (on : Bool) → has_bit (grown mask on) 0 ≡ on
lowest mask true = let low : bit_at (2 * mask + 1) 0 ≡ 1 = bit_at_lowest (2 * mask + 1) ∙ omega arith in rw low refl
lowest mask false = let low : bit_at (2 * mask + 0) 0 ≡ 0 = bit_at_lowest (2 * mask + 0) ∙ omega arith in rw low refl

half : (mask : ℕ) (on : Bool) → grown mask on / 2 ≡ mask
half mask true = omega arith
half mask false = omega arith

moved_up : (mask k : ℕ) (on : Bool) → has_bit (grown mask on) (suc k) ≡ has_bit mask k
moved_up mask k on = ap (λ b. b == 1) (bit_at-suc (grown mask on) k ∙ ap (λ m. bit_at m k) (half mask on))

wider : (n mask : ℕ) (on : Bool) → mask < 2 ^ n → grown mask on < 2 ^ suc n
wider n mask true below = omega (arith, below, pow-suc 2 n)
wider n mask false below = omega (arith, below, pow-suc 2 n)

-- a mask has the flags from a number to the last one, and no bit besides
pub record HasFlags (flag : ℕ → Bool) (last from mask : ℕ) : Type 0 where
  pub first : 1 ≤ from
  pub within : from ≤ last + 1
  pub fits : mask < 2 ^ (last + 1 - from)
  pub known : (k : ℕ) → k + from ≤ last → has_bit mask k ≡ flag (k + from)

pub begun : (flag : ℕ → Bool) (last : ℕ) → HasFlags flag last (last + 1) 0
begun flag last = record {
  first = omega arith;
  within = omega arith;
  fits = (let none : 0 ≡ last + 1 - (last + 1) = omega arith in subst (λ n. 0 < 2 ^ n) none (omega arith));
  known = λ k within. absurd (omega (arith, within));
}

pub one_more_flag : (flag : ℕ → Bool) (last from mask : ℕ) (on : Bool) → 1 < from → HasFlags flag last from mask → on ≡ flag (from - 1)
    → HasFlags flag last (from - 1) (grown mask on)
one_more_flag flag last from mask on more has is = record {
  first = omega (arith, more);
  within = omega (arith, high);
  fits =
      (let size : suc (last + 1 - from) ≡ last + 1 - (from - 1) = omega (arith, more, high) in
      subst (λ n. grown mask on < 2 ^ n) size (wider (last + 1 - from) mask on has.fits));
  known = each;
}
  where
    high : from ≤ last + 1
    high = has.within

    each : (k : ℕ) → k + (from - 1) ≤ last → has_bit (grown mask on) k ≡ flag (k + (from - 1))
    each zero within =
        let there : from - 1 ≡ 0 + (from - 1) = omega arith in
        lowest mask on ∙ is ∙ ap flag there
    each (suc k) within =
        let there : k + from ≡ suc k + (from - 1) = omega (arith, more) in
        moved_up mask k on ∙ has.known k (omega (arith, within, more)) ∙ ap flag there

-- with one more of eight flags the mask is one of eight bits
pub has_room : (flag : ℕ → Bool) (last from mask : ℕ) → last ≤ 8 → 1 < from → HasFlags flag last from mask → mask < 128
has_room flag last from mask few more has =
    let fits = has.fits in
    let seven : 2 ^ (last + 1 - from) ≤ 2 ^ 7 = pow_mono {i = last + 1 - from} {j = 7} (omega (arith, few, more)) in
    omega (arith, fits, seven)

-- once the first flag is in, there is no bit after the last one
pub has_no_other : (flag : ℕ → Bool) (last mask k : ℕ) → HasFlags flag last 1 mask → last ≤ k → has_bit mask k ≡ false
has_no_other flag last mask k has beyond = has_bit-above (last + 1 - 1) mask k has.fits (omega (arith, beyond))

pub has_eight : (flag : ℕ → Bool) (last mask : ℕ) → last ≤ 8 → HasFlags flag last 1 mask → mask < 2 ^ 8
has_eight flag last mask few has =
    let fits = has.fits in
    let eight : 2 ^ (last + 1 - 1) ≤ 2 ^ 8 = pow_mono {i = last + 1 - 1} {j = 8} (omega (arith, few)) in
    omega (arith, fits, eight)
