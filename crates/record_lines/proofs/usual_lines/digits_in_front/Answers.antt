use Rattle.std.proofs.Common.{◌≡◌, ◌∙◌, ◌<◌, ◌≤◌, ◌+◌, ◌*◌, ◌-◌, get_or, length, sym, true, arith}
use Rattle.site_types.specs.Numbers.{is_digit}
use Rattle.record_lines.proofs.UsualLines.{digit_fits, digit_range, digits_more, nines, number_here, one_digit_more, value_more}
use Rattle.record_lines.proofs.usual_lines.digits_in_front.Goals as goal

pub returns-then-value-number : goal.returns-then-value-number
returns-then-value-number c =
    let text = c.args.text.now in
    let within : c.loop-place.place < length text = omega (arith, c.loop-place-test.true, c.min-room.ensures) in
    let first : 48 < get_or text 0 0 = omega arith in
    let end : get_or text c.loop-place.place 0 ≡ 10 = omega arith in
    let value = c.loop-place.invariant.spells in
    number_here text c.loop-place.place c.args.number first within end c.loop-place.invariant.digits
    (value ∙ c.if-value-number.true) (omega arith)

pub overflow_mul-value : goal.overflow_mul-value
overflow_mul-value c =
    let place = c.loop-place.place in
    let few : place ≤ 10 = omega (arith, c.loop-place-test.true, c.min-room.ensures) in
    let fits = digit_fits place c.loop-place.value few c.loop-place.invariant.small in
    omega (arith, fits)

pub overflow_add-value : goal.overflow_add-value
overflow_add-value c =
    let text = c.args.text.now in
    let place = c.loop-place.place in
    let few : place ≤ 10 = omega (arith, c.loop-place-test.true, c.min-room.ensures) in
    let fits = digit_fits place c.loop-place.value few c.loop-place.invariant.small in
    let digit : is_digit (get_or text place 0) ≡ true = sym c.is_ascii_digit.ensures.value ∙ c.if-not-is_ascii_digit.false in
    let range = (digit_range (get_or text place 0) digit).1 in
    omega (arith, fits, range)

pub loop-place-preserved : goal.loop-place-preserved
loop-place-preserved c =
    let text = c.args.text.now in
    let within : c.loop-place.place < length text = omega (arith, c.loop-place-test.true, c.min-room.ensures) in
    let digit : is_digit (get_or text c.loop-place.place 0) ≡ true = sym c.is_ascii_digit.ensures.value ∙ c.if-not-is_ascii_digit.false in
    let range = (digit_range (get_or text c.loop-place.place 0) digit).1 in
    let small : 10 * c.loop-place.value + (get_or text c.loop-place.place 0 - 48) ≤ 10 * nines c.loop-place.place + 9 =
    omega (arith, range, c.loop-place.invariant.small) in
    record {
      digits = digits_more text c.loop-place.place within c.loop-place.invariant.digits digit;
      spells = value_more text c.loop-place.place c.loop-place.value within c.loop-place.invariant.spells;
      small = one_digit_more c.loop-place.place (10 * c.loop-place.value + (get_or text c.loop-place.place 0 - 48)) small;
    }
