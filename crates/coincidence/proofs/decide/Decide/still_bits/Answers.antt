use Rattle.std.proofs.Common.{◌&&◌, ap, ◌∙◌}
use Rattle.std.specs.Int.{w8, bit_not}
use Rattle.site_types.specs.Bits.{has_bit}
use Rattle.site_types.proofs.Masks.{has_bit-and, has_bit-not}
use Rattle.coincidence.proofs.Resting.{still_matching, still_quiet}
use Rattle.coincidence.proofs.decide.Decide.still_bits.Goals as goal

pub returns-then-answers-eq0 : goal.returns-then-answers-eq0
returns-then-answers-eq0 c =
    let resting = c.resting_from-resting.result in
    let alarms = c.alarms_from.result in
    still_quiet c.args.self.now c.args.answers.now c.requires resting alarms _ c.resting_from-resting.ensures c.if-answers-eq0.true
    c.alarms_from.ensures
    (λ k eight. has_bit-and resting (bit_not w8 alarms) k ∙ ap (λ b. has_bit resting k && b) (has_bit-not w8 alarms k c.alarms_from.type_inv eight))

pub returns : goal.returns
returns c =
    still_matching c.args.self.now c.args.answers.now c.requires c.resting_from-resting.result c.missing_from.result c.matching_bits.result
    c.resting_from-resting.ensures c.missing_from.ensures c.matching_bits.ensures
