use Rattle.std.proofs.Common.{◌∙◌, sym, true, false}
use Rattle.std.specs.Int.{w8}
use Rattle.site_types.proofs.Masks.{with_bit-same, with_bit-other}
use Rattle.site_types.proofs.bits.with_bit_8.Goals as goal

pub returns-then-on-clause-this : goal.returns-then-on-clause-this
returns-then-on-clause-this c = with_bit-same w8 c.args.mask c.args.bit true c.requires ∙ sym c.if-on.true

pub returns-then-on-clause-others : goal.returns-then-on-clause-others
returns-then-on-clause-others c k small apart = with_bit-other w8 c.args.mask c.args.bit true c.requires k small apart

pub returns-else-on-clause-this : goal.returns-else-on-clause-this
returns-else-on-clause-this c = with_bit-same w8 c.args.mask c.args.bit false c.requires ∙ sym c.if-on.false

pub returns-else-on-clause-others : goal.returns-else-on-clause-others
returns-else-on-clause-others c k small apart = with_bit-other w8 c.args.mask c.args.bit false c.requires k small apart
