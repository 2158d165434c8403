-- No bit of a mask is set at or above its width.
use Rattle.std.proofs.Common.{◌≡◌, ℕ, ◌-◌, ◌<◌, ◌≤◌, ◌^◌, false, nat_lt, sym, ◌∙◌, arith}
use Rattle.std.proofs.lemmas.Bool.Decides.{nat_tests}
use Rattle.site_types.specs.Bits.{has_bit}
use Rattle.site_types.proofs.Masks.{has_bit-above}

not_below : (bit width : ℕ) → width ≤ bit → nat_lt bit width ≡ false
not_below bit width at = grind (arith, nat_tests)

pub unset : (width mask number bit : ℕ) → mask < 2 ^ width → bit ≡ number - 1 → width ≤ bit → nat_lt bit width ≡ has_bit mask (number - 1)
unset width mask number bit fits is above =
    not_below bit width above ∙ sym (has_bit-above width mask (number - 1) fits (omega arith))
