use Rattle.std.proofs.Common.{◌≡◌, ◌⊎◌, ◌<◌, ◌≤◌, ◌≢◌, inl, inr, true, false, if◌then◌else◌, nat_lt, sym, ◌∙◌, ap}
use Rattle.std.proofs.lemmas.Bool.Decides.{eqb_tells}
use Rattle.site_types.specs.Bits.{has_bit}
use Rattle.site_types.proofs.Done.{lt_tells}
use Rattle.site_types.proofs.Masks.{has_bit-above}
use Rattle.answer_lanes.proofs.mask_bits.with_place.Goals as goal

pub returns : goal.returns
returns c k = elim (eqb_tells k c.args.place) [
  | inl here ↦ ap (has_bit c.with_bit_8.result) here.1 ∙ c.with_bit_8.ensures.this
      ∙ sym (ap (λ b. if b then c.args.on else has_bit c.args.mask k) here.0)
  | inr other ↦ apart other.1 (lt_tells k 8) ∙ sym (ap (λ b. if b then c.args.on else has_bit c.args.mask k) other.0)
]
  where
    apart : k ≢ c.args.place → ((nat_lt k 8 ≡ true) × (k < 8)) ⊎ ((nat_lt k 8 ≡ false) × (8 ≤ k)) → has_bit c.with_bit_8.result k ≡ has_bit c.args.mask k
    apart differ (inl less) = c.with_bit_8.ensures.others k less.1 differ
    apart differ (inr past) = has_bit-above 8 c.with_bit_8.result k c.with_bit_8.type_inv past.1 ∙ sym (has_bit-above 8 c.args.mask k c.ranges.mask.fits past.1)
