use Rattle.keep_batch.proofs.Putting.{count_fits, count_put}
use Rattle.keep_batch.proofs.make.put_counts.Goals as goal

pub put_count-requires-clause-room : goal.put_count-requires-clause-room
put_count-requires-clause-room c =
    count_fits c.args.entries.now c.args.batch.now.items c.loop-before.batch.items c.args.panels c.loop-before.before 72 c.loop-before-test.true
    c.loop-before.invariant c.requires.room

pub loop-before-preserved : goal.loop-before-preserved
loop-before-preserved c =
    count_put c.args.entries.now c.args.batch.now.items c.loop-before.batch.items c.put_count.new.batch.items c.loop-before.before
    c.loop-before.invariant c.put_count.ensures
