use Rattle.std.proofs.Common.{◌∙◌, arith, refl, sym}
use Rattle.site_types.specs.Fields.{before_space}
use Rattle.record_lines.specs.Forms.{is_seat}
use Rattle.line_fields.proofs.Spaces.{each_on}
use Rattle.record_lines.proofs.SeatFields.{both_numbered, not_both, numbers_on, seats_on}
use Rattle.record_lines.proofs.order_lines.read_seats.Goals as goal
use Rattle.record_lines.proofs.order_lines.read_seats.Goals.{then-numbered, else-numbered}

pub loop-seat-preserved : goal.loop-seat-preserved
loop-seat-preserved c =
    let count = c.args.count in
    let k = c.loop-seat._seat in
    let rest = c.loop-seat.rest.now in
    let front = before_space rest in
    let next = c.in_ok-seat.behind.now in
    let below = c.loop-seat-test.true in
    let read = c.in_ok-seat.ensures in
    let numbered = c.loop-seat.numbered in
    let has = c.in_ok-seat.has_number in
    record {
      formed = each_on is_seat count k rest front next _ below read.behind refl (sym read.formed) c.loop-seat.invariant.formed;
      numbers =
          numbers_on count k rest front next numbered has c.if-numbered.numbered _ below read.behind refl read.numbered
          (elim c.if-numbered.branch [
            | then-numbered w ↦ both_numbered numbered has c.if-numbered.numbered w.if-numbered.true w.numbered-is
            | else-numbered w ↦ not_both numbered has c.if-numbered.numbered w.if-numbered.false (w.numbered-is ∙ w.if-numbered.false)
          ]) c.loop-seat.invariant.numbers;
      seats =
          seats_on count k rest front next c.in_ok-seat.seat c.loop-seat.seats.items c.push.new.self.items _ below read.behind refl read.seat
          c.push.ensures.items c.loop-seat.invariant.seats;
      many = omega (arith, c.push.ensures.len, c.loop-seat.invariant.many);
    }
