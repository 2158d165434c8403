use Rattle.std.proofs.Common.{◌∙◌, refl, get_or, ◌-◌, ◌+◌, ◌*◌}
use Rattle.site_types.proofs.Digits.{all_read, great_read, none_is_great}
use Rattle.site_types.proofs.numbers.read_digits.Goals as goal

pub returns : goal.returns
returns c = all_read c.args.text.now c.loop-byte.number c.loop-byte.byte-index c.loop-byte-test.false c.loop-byte.invariant

pub returns-in_err-number : goal.returns-in_err-number
returns-in_err-number c =
    let digit = get_or c.args.text.now c.loop-byte.byte-index 0 - 48 in
    let great = none_is_great (10 * c.loop-byte.number + digit) c.in_err-number.ensures in
    c.from_residual.ensures ∙ great_read c.args.text.now c.loop-byte.number c.loop-byte.byte-index digit c.loop-byte-test.true refl great
    c.loop-byte.invariant
