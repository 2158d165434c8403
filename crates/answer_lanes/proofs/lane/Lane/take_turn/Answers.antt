use Rattle.std.proofs.Common.{rules, ◌≤◌, length, ap, arith}
use Rattle.tick_units.specs.Lane.{LaneState}
use Rattle.answer_lanes.specs.Queues.{queued}
use Rattle.answer_lanes.specs.Runs.{all_items}
use Rattle.answer_lanes.proofs.Moving.{may_move}
use Rattle.answer_lanes.proofs.lane.Lane.take_turn.Goals as goal

pub move_runs-requires : goal.move_runs-requires
move_runs-requires g c =
    let l = c.self.inside in
    let items = ap (λ (l : LaneState _). length l.items) c.self.view_is in
    let quota = ap (λ (l : LaneState _). l.quota) c.self.view_is in
    let least = c.min-count.ensures in
    let size = c.len.ensures.length in
    let few = c.requires.few in
    let enough : c.min-count.result ≤ length (all_items g.S.Several.item_at (queued l.runs)) = omega (arith, least, size, items) in
    let at_most : c.min-count.result ≤ 32 = omega (arith, least, quota, few) in (
      (search rules),
      (
        c.requires.empty,
        (
          at_most,
          may_move g.S.Several.item_at (queued l.runs) l.put l.taken l.capacity (length l.runs.room.items) c.min-count.result
              c.self.invariant enough,
        ),
      ),
    )
