use Rattle.std.proofs.Common.{◌<◌, ◌^◌, inl, inr, refl, ap, sym, arith, bit_or}
use Rattle.panel_conditions.proofs.Plain.{plain_by, plain_shown}
use Rattle.panel_conditions.proofs.zones.Zones.mark_plain.Goals as goal

pub returns-then-shown-zones-clause-marks : goal.returns-then-shown-zones-clause-marks
returns-then-shown-zones-clause-marks c stamp = inl (ap (bit_or c.args.self.now.changed) (sym (plain_by stamp c.args.zones)))

pub returns-else-shown-zones-clause-marks : goal.returns-else-shown-zones-clause-marks
returns-else-shown-zones-clause-marks c stamp =
    let signs = c.args.self.now.signs in
    let zones : c.args.zones < 2 ^ 32 = omega arith in
    let alarm : signs.alarm < 2 ^ 32 = omega arith in
    let released : signs.released < 2 ^ 32 = omega arith in
    inr (refl, plain_shown stamp c.args.zones signs zones alarm released c.if-shown-zones.false)
