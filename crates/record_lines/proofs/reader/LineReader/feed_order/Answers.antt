use Rattle.std.proofs.Common.{refl}
use Rattle.record_lines.proofs.UsualLines.{fed_usual, order_brought}
use Rattle.record_lines.proofs.reader.LineReader.feed_order.Goals as goal

pub returns-in-Some-of-clause-feeds : goal.returns-in-Some-of-clause-feeds
returns-in-Some-of-clause-feeds c before stands =
    let site = c.args.site.now in
    let piece = c.args.piece.now in
    let used = c.in-Some.used in
    let seats = c.next_seats.new.seats.items in
    let brings =
    order_brought site c.args.self.now seats c.in-Some-of.order piece used c.in-Some.ensures (c.in-Some-of.ensures.same) (c.in-Some-of.ensures.order.0 refl) in
    fed_usual site c.requires.valid before piece used _ c.args.self.now c.accept_order.new.self c.requires.open brings (c.accept_order.ensures c.in-Some-of.order)
    stands
