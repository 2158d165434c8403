use Rattle.std.proofs.Common.{arith, sym, ◌∙◌}
use Rattle.marker_table.proofs.Counts.{mask_with}
use Rattle.marker_table.proofs.mask.Mask.with.Goals as goal

pub returns : goal.returns
returns c =
    let word = c.word.ensures.value in
    let small = c.word.ensures.small in
    mask_with c.args.self c.args.input c.bit-bit.result c.with_bit_32.result c.bit-bit.ensures (c.if-self-word.false ∙ word) (omega (arith, word, small))
    (sym c.has_bit_32.ensures ∙ c.if-has_bit_32.false) c.with_bit_32.ensures.value
