use Rattle.std.proofs.Common.{◌∙◌, sym}
use Rattle.record_lines.proofs.Judging.{tick_here, tick_told, tick_unnumbered}
use Rattle.record_lines.proofs.judge.judge_tick.Goals as goal

pub returns-in-Some-clause-answer : goal.returns-in-Some-clause-answer
returns-in-Some-clause-answer c site =
    tick_told site c.args.so_far.now c.args.text.now c.in-Some.found c.tick.result
    (tick_here c.args.text.now c.args.fields.now c.in-Some.found c.requires.word c.requires.fields c.in-Some.ensures) c.tick.ensures.answer

pub returns-then-space_count-eq1-clause-answer : goal.returns-then-space_count-eq1-clause-answer
returns-then-space_count-eq1-clause-answer c site =
    tick_unnumbered site c.args.so_far.now c.args.text.now c.args.fields.now c.requires.word c.requires.fields (sym c.in-None.is ∙ c.read_number.ensures)
    (sym c.space_count.ensures.count ∙ c.if-space_count-eq1.true)
