use Rattle.std.proofs.Common.{◌≡◌, ◌⊎◌, ◌<◌, ◌≤◌, ◌&&◌, inl, inr, true, false, nat_lt, not, sym, ◌∙◌, ap}
use Rattle.std.specs.Int.{w8, bit_not}
use Rattle.site_types.specs.Bits.{has_bit}
use Rattle.site_types.proofs.Done.{lt_tells}
use Rattle.site_types.proofs.Masks.{has_bit-above, has_bit-and, has_bit-not}
use Rattle.answer_lanes.proofs.mask_bits.without.Goals as goal

pub returns : goal.returns
returns c k = has_bit-and c.args.mask (bit_not w8 c.args.other) k ∙ by (lt_tells k 8)
  where
    by : ((nat_lt k 8 ≡ true) × (k < 8)) ⊎ ((nat_lt k 8 ≡ false) × (8 ≤ k))
        → (has_bit c.args.mask k && has_bit (bit_not w8 c.args.other) k) ≡ (has_bit c.args.mask k && not (has_bit c.args.other k))
    by (inl less) = ap (λ b. has_bit c.args.mask k && b) (has_bit-not w8 c.args.other k c.ranges.other.fits less.1)
    by (inr past) =
        let none = has_bit-above 8 c.args.mask k c.ranges.mask.fits past.1 in
        ap (λ b. b && has_bit (bit_not w8 c.args.other) k) none ∙ sym (ap (λ b. b && not (has_bit c.args.other k)) none)
