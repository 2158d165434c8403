use Rattle.std.proofs.Common.{◌-◌, drop, take, ap, ◌∙◌}
use Rattle.answer_lanes.proofs.Queues.{cut_either_way}
use Rattle.answer_lanes.proofs.run_queue.RunQueue.as_slice.Goals as goal

pub returns : goal.returns
returns g c =
    let queue = c.args.self.now in
    ap (λ xs. take (queue.end - queue.begin) (drop queue.begin xs)) c.as_slice.ensures.value
    ∙ cut_either_way queue.begin queue.end queue.room.items queue.in_order
