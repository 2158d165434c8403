use Rattle.std.proofs.Common.{◌&&◌, ap, ◌∙◌, arith}
use Rattle.std.proofs.lemmas.Nat.{and_le_l}
use Rattle.std.specs.Int.{w8, bit_not}
use Rattle.site_types.specs.Bits.{has_bit}
use Rattle.site_types.proofs.Masks.{has_bit-and, has_bit-not}
use Rattle.coincidence.proofs.Resting.{changing_in_run}
use Rattle.coincidence.proofs.decide.Decide.changing_bits.Goals as goal

pub returns : goal.returns
returns c =
    let front = c.first_bits.result in
    let behind = c.bits_from.result in
    changing_in_run c.args.self.now c.args.run.now c.still_bits-still.result behind front _ c.requires c.still_bits-still.ensures c.bits_from.ensures
    c.first_bits.ensures
    (λ k eight. has_bit-and front (bit_not w8 behind) k ∙ ap (λ b. has_bit front k && b) (has_bit-not w8 behind k c.bits_from.type_inv eight))
    (let less = and_le_l front (bit_not w8 behind) in omega (arith, less, c.first_bits.type_inv))
