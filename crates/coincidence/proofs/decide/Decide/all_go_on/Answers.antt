use Rattle.std.proofs.Common.{arith}
use Rattle.std.proofs.lemmas.Bool.{eqb-true}
use Rattle.std.specs.Int.{w8}
use Rattle.coincidence.proofs.GoingOn.{bits_among}
use Rattle.coincidence.proofs.decide.Decide.all_go_on.Goals as goal

pub returns : goal.returns
returns c is = record {
  within = c.requires.tells.within;
  marked = λ k small set_bit.
      let places = c.requires.within.places in
      c.marked_bits.ensures k small
      (bits_among w8 c.args.changing c.marked_bits.result k c.marked_bits.type_inv (eqb-true _ 0 is) (omega (arith, places, small)) set_bit);
  since = c.if-run-self.false;
}
