use Rattle.std.proofs.Common.{◌≡◌, ◌-◌, ◌*◌, ◌%◌, ◌/◌, ◌^◌, ◌∙◌, bit_and, min, ap, arith}
use Rattle.std.proofs.lemmas.Nat.{one_shl}
use Rattle.site_types.specs.Bits.{has_bit}
use Rattle.answer_lanes.proofs.MaskBits.{asked, within_bit}
use Rattle.answer_lanes.proofs.mask_bits.bits_within.Goals as goal

pub returns : goal.returns
returns c k =
    let mask = c.args.mask in
    let from = c.min.result in
    let count = c.min-2.result in
    let at = c.min.ensures in
    let size = c.min-2.ensures in
    let ones : 1 * 2 ^ count % 2 ^ 16 ≡ 2 ^ count = one_shl count 16 (omega (arith, size)) in
    let is : bit_and (mask / 2 ^ from) (1 * 2 ^ count % 2 ^ 16 - 1) ≡ asked mask c.args.from c.args.count c.ranges.mask.fits =
    ap (λ n. bit_and (mask / 2 ^ from) (n - 1)) ones ∙ ap (λ n. bit_and (mask / 2 ^ n) (2 ^ count - 1)) at
    ∙ ap (λ n. bit_and (mask / 2 ^ min c.args.from 8) (2 ^ n - 1)) size in
    ap (λ m. has_bit m k) is ∙ within_bit mask c.args.from c.args.count c.ranges.mask.fits k
