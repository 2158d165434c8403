use Rattle.std.proofs.Common.{◌≡◌, ◌≤◌, arith, false, ◌-◌}
use Rattle.std.proofs.lemmas.Grind.{common_steps}
use Rattle.site_types.specs.Bits.{has_bit}
use Rattle.site_types.proofs.Masks.{has_bit-above}
use Rattle.plain_outputs.proofs.solved.has_fault.Goals as goal

pub returns-else-bit-lt8 : goal.returns-else-bit-lt8
returns-else-bit-lt8 c =
    let far : 8 ≤ c.args.panel - 1 = omega arith in
    let none : has_bit c.args.faults (c.args.panel - 1) ≡ false = has_bit-above 8 c.args.faults (c.args.panel - 1) c.ranges.faults.fits far in
    grind (arith, common_steps, none)
