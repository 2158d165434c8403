use Rattle.std.proofs.Common.{◌++◌, ◌∷◌, ◌∙◌, ◌<◌, length, sym, ap, arith}
use Rattle.std.proofs.lemmas.Option.{get_or_from_slice_get}
use Rattle.record_lines.specs.Printed.{seat_text}
use Rattle.record_lines.proofs.Printing.{joined_more}
use Rattle.record_lines.proofs.print.push_seats.Goals as goal

pub loop-place-preserved : goal.loop-place-preserved
loop-place-preserved c =
    let seats = c.args.order.now in
    let place = c.loop-place.place in
    let before = c.loop-place.out.items in
    let seat = c.seat.result in
    let within : place < length seats = omega (arith, c.loop-place-test.true, c.len-place-end.ensures.count) in
    let is = get_or_from_slice_get seats place seat seat c.seat.ensures in
    record {
      text =
          joined_more c.args.out.now.items before c.push_seat.new.out.items seats place seat within c.loop-place.invariant.text
          (c.push_seat.ensures.text ∙ ap (λ s. before ++ 32 ∷ seat_text s) (sym is));
      room = omega (arith, c.push_seat.ensures.room, c.loop-place.invariant.room);
    }
