use Rattle.record_lines.proofs.Pieces.{fed_front, fed_whole}
use Rattle.record_lines.proofs.reader.LineReader.feed_any.Goals as goal

pub returns-in-None-clause-feeds : goal.returns-in-None-clause-feeds
returns-in-None-clause-feeds c before stands =
    fed_whole c.args.site.now before c.args.piece.now _ c.args.self.now _ c.requires.open c.keep-kept.ensures.keeps c.in-None.ensures.lookup.3 stands

pub returns-in-Some-clause-feeds : goal.returns-in-Some-clause-feeds
returns-in-Some-clause-feeds c before stands =
    let lookup = c.in-Some.ensures.lookup in
    fed_front c.args.site.now before c.args.piece.now _ _ c.args.self.now _ _ _ c.requires.open c.keep-kept.ensures.keeps lookup.3.0 lookup.1
    c.take_last.ensures.ends c.take_last.ensures.takes stands
