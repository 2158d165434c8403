use Rattle.answer_lanes.proofs.Queues.{first_set, some_wait}
use Rattle.answer_lanes.proofs.run_queue.RunQueue.set_first.Goals as goal

pub returns-clause-runs : goal.returns-clause-runs
returns-clause-runs g c =
    let queue = c.args.self.now in
    first_set queue.begin queue.end queue.room.items (some_wait queue.begin queue.end queue.room.items c.requires) queue.within c.args.run
