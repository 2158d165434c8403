use Rattle.std.proofs.Common.{◌∙◌}
use Rattle.site_types.specs.declared.event.Event.TheVariants.{Point as PointEvent}
use Rattle.record_lines.specs.Stands.{Accepts}
use Rattle.record_lines.specs.declared.line.Line.TheVariants.{Event as EventLine}
use Rattle.record_lines.proofs.UsualLines.{fed_usual}
use Rattle.record_lines.proofs.reader.LineReader.feed_event.Goals as goal

pub returns-in-Some-clause-feeds : goal.returns-in-Some-clause-feeds
returns-in-Some-clause-feeds c before stands =
    let begins = c.begin_line.ensures in
    let old = c.args.self.now in
    let event = PointEvent c.in-Some.point c.in-Some.state in
    let accepts : Accepts old (EventLine event) c.begin_line.new.self =
    record { counts = begins.counts; stands = begins.stands; keeps = begins.keeps; ends = λ was. begins.ends ∙ was } in
    fed_usual c.args.site.now c.requires.valid before c.args.piece.now c.in-Some.used _ old c.begin_line.new.self c.requires.open
    c.in-Some.ensures accepts stands
