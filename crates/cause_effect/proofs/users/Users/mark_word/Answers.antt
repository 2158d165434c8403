use Rattle.std.proofs.Common.{◌||◌, ◌∙◌, ap, arith}
use Rattle.std.specs.Int.{trailing_zeros, w32}
use Rattle.std.proofs.lemmas.Nat.{xor_lt}
use Rattle.marker_table.specs.Equations.{values_of}
use Rattle.cause_effect.proofs.Marking.{all_left, bit_less, left_uses, lowest_cleared, lowest_less, none_left}
use Rattle.cause_effect.proofs.Using.{or_none}
use Rattle.site_types.specs.Bits.{any_below}
use Rattle.cause_effect.proofs.users.Users.mark_word.Goals as goal

pub loop-left-init : goal.loop-left-init
loop-left-init c = record {
  fits = xor_lt 32 c.args.before c.args.after c.ranges.before.fits c.ranges.after.fits;
  marked = λ m. ap (λ b. values_of c.args.marks.now m || b) (all_left c.args.self.now.sets c.args.first c.args.before c.args.after m);
}

pub loop-left-smaller : goal.loop-left-smaller
loop-left-smaller c =
    let cleared = c.with_bit_32-left.ensures in
    lowest_less c.loop-left.left c.with_bit_32-left.result c.loop-left-test.true c.loop-left.invariant.fits cleared.this cleared.others cleared.value

pub loop-left-preserved : goal.loop-left-preserved
loop-left-preserved c =
    let left = c.loop-left.left in
    let less = c.with_bit_32-left.result in
    let fits = c.loop-left.invariant.fits in
    let cleared = c.with_bit_32-left.ensures in
    record {
      fits = omega (arith, fits, lowest_less left less c.loop-left-test.true fits cleared.this cleared.others cleared.value);
      marked = λ m. bit_less c.args.self.now.sets c.args.first left less m (trailing_zeros w32 left) _ _ _
          (lowest_cleared left less c.loop-left-test.true fits cleared.this cleared.others) (c.loop-left.invariant.marked m) (c.mark.ensures m);
    }

pub returns : goal.returns
returns c m =
    or_none (values_of c.loop-left.marks m) (any_below 32 (left_uses c.args.self.now.sets c.args.first c.loop-left.left m))
    (none_left c.args.self.now.sets c.args.first c.loop-left.left m c.loop-left-test.false)
    ∙ c.loop-left.invariant.marked m
