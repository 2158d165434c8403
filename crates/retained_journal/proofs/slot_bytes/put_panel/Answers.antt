use Rattle.std.proofs.Common.{◌+◌, ◌*◌, arith}
use Rattle.retained_journal.proofs.WrittenSlots.{line_more, loops_written, same_more}
use Rattle.retained_journal.proofs.slot_bytes.put_panel.Goals as goal

pub loop-line-preserved : goal.loop-line-preserved
loop-line-preserved c =
    let line = c.loop-line.line in
    let before = c.loop-line.invariant in
    record {
      written =
          λ wide narrow. line_more wide c.args.panel line c.args.loops.now c.loop-line.slot c.put_loop.new.slot c.requires.panel c.loop-line-test.true
          c.put_loop.ensures.others (before.written wide narrow)
          (c.put_loop.ensures.points wide (narrow line c.loop-line-test.true));
      others = same_more (4 * c.args.panel) 4 (4 * c.args.panel + line) 1 c.args.slot.now c.loop-line.slot c.put_loop.new.slot (omega arith) (let h =
          c.loop-line-test.true in omega (arith, h)) before.others c.put_loop.ensures.others;
    }

pub returns-clause-points : goal.returns-clause-points
returns-clause-points c wide narrow =
    loops_written wide c.args.panel c.args.loops.now c.loop-line.slot c.told-loops
    (λ k less. c.loop-line.invariant.written wide narrow k (omega arith))
