use Rattle.record_lines.proofs.Pieces.{fed_again}
use Rattle.record_lines.proofs.UsualLines.{fed_usual}
use Rattle.record_lines.proofs.reader.LineReader.feed.Goals as goal

pub returns-in-Some-clause-feeds : goal.returns-in-Some-clause-feeds
returns-in-Some-clause-feeds c before stands =
    fed_again c.args.site.now before c.args.piece.now c.args.self.now _ _ c.in-Some.is c.again.ensures.step stands

pub returns-in-Some-next_tick-clause-feeds : goal.returns-in-Some-next_tick-clause-feeds
returns-in-Some-next_tick-clause-feeds c before stands =
    fed_usual c.args.site.now c.requires before c.args.piece.now c.in-Some-next_tick.used _ c.args.self.now c.accept_tick.new.self c.in_default.is
    (c.in-Some-next_tick.ensures.brings c.args.site.now) c.accept_tick.ensures stands
