use Rattle.std.proofs.Common.{◌∙◌, ap, sym, subst}
use Rattle.whole_records.specs.Ends.{is_end}
use Rattle.whole_records.specs.Whole.{IsWholeRecord}
use Rattle.whole_records.proofs.SoFar.{IsReadTo, ends, goes_on, is_refused, nothing_read}
use Rattle.whole_records.proofs.reading.read_record.Goals as goal

pub loop-left-init : goal.loop-left-init
loop-left-init c =
    subst (λ ls. IsReadTo c.args.site.now c.args.bytes.now c.args.bytes.now c.new-reader.result ls) (sym c.new-lines.ensures.items)
    (nothing_read c.args.site.now c.args.bytes.now c.new-reader.result (c.new-reader.ensures c.args.site.now))

pub returns-in-Refused-clause-refused : goal.returns-in-Refused-clause-refused
returns-in-Refused-clause-refused c =
    let h = c.loop-left.invariant in
    let feeds = c.feed-fed.ensures.feeds h.front h.stands in
    is_refused c.args.site.now c.args.bytes.now c.loop-left.left.now c.loop-left.reader c.feed-fed.new.self c.feed-fed.result
    c.loop-left.lines.items h feeds c.in-Refused.refusal c.in-Refused.is

pub returns-then-ends-clause-whole : goal.returns-then-ends-clause-whole
returns-then-ends-clause-whole c =
    let h = c.loop-left.invariant in
    let feeds = c.feed-fed.ensures.feeds h.front h.stands in
    subst (λ ls. IsWholeRecord c.args.site.now c.args.bytes.now ls) (sym (c.from_vec.ensures ∙ c.in_ok-keep-in-Line.ensures))
    (rw c.in-Line.is (ends c.args.site.now c.args.bytes.now c.loop-left.left.now c.loop-left.reader c.feed-fed.new.self c.feed-fed.result
    c.loop-left.lines.items h feeds c.in-Line.line c.in-Line.is (sym (ap is_end c.in-Line.is) ∙ sym c.is_end-ends.ensures ∙ c.if-ends.true)))

pub loop-left-preserved : goal.loop-left-preserved
loop-left-preserved c =
    let h = c.loop-left.invariant in
    let feeds = c.feed-fed.ensures.feeds h.front h.stands in
    let read =
    goes_on c.args.site.now c.args.bytes.now c.loop-left.left.now c.loop-left.reader c.feed-fed.new.self c.feed-fed.result
    c.loop-left.lines.items h feeds c.in-Line.line c.in-Line.is (sym (ap is_end c.in-Line.is) ∙ sym c.is_end-ends.ensures ∙ c.if-ends.false) in
    rw (c.split_at.ensures.back, c.in_ok-keep-in-Line.ensures, c.in-Line.is) read
