use Rattle.std.proofs.Common.{◌≡◌, ◌∙◌, ◌+◌, ◌-◌, ◌<◌, ◌++◌, [], get_or, length, map, take, ap, sym, true, arith}
use Rattle.site_types.specs.Numbers.{is_digit}
use Rattle.record_lines.specs.Printed.{joined, seat_text}
use Rattle.record_lines.proofs.UsualLines.{panel_added}
use Rattle.record_lines.proofs.usual_lines.panels_seats.Goals as goal

pub loop-place-preserved : goal.loop-place-preserved
loop-place-preserved c =
    let text = c.args.text.now in
    let place = c.loop-place.place in
    let used = place - 2 in
    let low = c.loop-place.invariant.low in
    let room = c.loop-place.invariant.room in
    let within : place < length text = omega (arith, c.loop-place-test.true, c.min-room.ensures) in
    let space : get_or text used 0 ≡ 32 = omega arith in
    let digit : is_digit (get_or text place 0) ≡ true = sym c.is_ascii_digit.ensures.value ∙ c.if-not-is_ascii_digit.false in
    let letter_at : get_or text (used + 1) 0 ≡ get_or text (place - 1) 0 = ap (λ p. get_or text p 0) (omega (arith, low)) in
    let digit_at : get_or text (used + 2) 0 ≡ get_or text place 0 = ap (λ p. get_or text p 0) (omega (arith, low)) in
    let added = panel_added c.args.seats.now.items c.loop-place.seats.items text used (get_or text (place - 1) 0) (get_or text place 0) c.in_ok-task.field-0
    c.loop-place.invariant.front (omega (arith, low, within)) space letter_at digit_at (sym c.in_ok-task.ensures) digit in
    record {
      low = omega (arith, low);
      front =
          ap (λ s. joined [] (map seat_text s)) c.push.ensures.items ∙ added
          ∙ ap (λ n. joined [] (map seat_text c.args.seats.now.items) ++ take n text) (omega (arith, low));
      within = omega (arith, within);
      room = omega (arith, room, ap length c.push.ensures.items, c.push.ensures.len);
    }
