use Rattle.std.proofs.Common.{◌≡◌, sym, length, arith}
use Rattle.std.proofs.lemmas.Bool.{eq-eqb, eqb-true, ne_eqb}
use Rattle.record_lines.proofs.Openings.{bad_byte, few_from, line_ends, line_taken, not_ascii, too_long}
use Rattle.record_lines.proofs.reader.LineReader.take_last.Goals as goal

pub returns-then-byte-eq10-clause-ends : goal.returns-then-byte-eq10-clause-ends
returns-then-byte-eq10-clause-ends c = line_ends c.args.site.now c.args.self.now c.take_line.new.self c.take_line.result c.take_line.ensures.takes

pub returns-then-byte-eq10-clause-takes : goal.returns-then-byte-eq10-clause-takes
returns-then-byte-eq10-clause-takes c before waiting =
    line_taken c.args.site.now before c.args.byte c.args.self.now c.take_line.new.self c.take_line.result (eq-eqb c.args.byte 10 c.if-byte-eq10.true)
    c.requires.open c.take_line.ensures.takes waiting

pub returns-then-is_full-clause-takes : goal.returns-then-is_full-clause-takes
returns-then-is_full-clause-takes c before waiting =
    let full : length c.args.self.now.text.items ≡ 512 = eqb-true (length c.args.self.now.text.items) 512 (sym c.if-is_full.ensures.value) in
    too_long c.args.site.now before c.args.byte c.args.self.now c.refuse.new.self c.refuse.result (ne_eqb c.args.byte 10 c.if-byte-eq10.false)
    (omega (arith, full)) c.refuse.ensures.refuses waiting

pub returns-else-is_full-clause-takes : goal.returns-else-is_full-clause-takes
returns-else-is_full-clause-takes c before waiting =
    let few = few_from (length c.args.self.now.text.items) (sym c.if-is_full.ensures.value) c.if-is_full.ensures.fits in
    not_ascii c.args.site.now before c.args.byte c.args.self.now c.refuse-else-is_full.new.self c.refuse-else-is_full.result
    (ne_eqb c.args.byte 10 c.if-byte-eq10.false) few
    (bad_byte c.args.self.now c.args.byte c.requires.stops few) c.refuse-else-is_full.ensures.refuses waiting
