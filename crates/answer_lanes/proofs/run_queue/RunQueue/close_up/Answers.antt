use Rattle.answer_lanes.proofs.Queues.{closed_up}
use Rattle.answer_lanes.proofs.run_queue.RunQueue.close_up.Goals as goal

pub returns-clause-runs : goal.returns-clause-runs
returns-clause-runs g c =
    let queue = c.args.self.now in
    closed_up queue.begin queue.end queue.room.items queue.in_order queue.within c.copy_within.new.self.items c.copy_within.ensures.items
