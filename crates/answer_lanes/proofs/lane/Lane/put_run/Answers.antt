use Rattle.std.proofs.Common.{◌+◌, length, subst, sym, ap, ◌∙◌, arith}
use Rattle.tick_units.specs.Lane.{with_put}
use Rattle.answer_lanes.specs.Queues.{queued}
use Rattle.answer_lanes.specs.Runs.{AreInLane, all_items, items_of}
use Rattle.answer_lanes.proofs.Moving.{fits_in, has_room, none_put, put_more, run_put}
use Rattle.answer_lanes.proofs.lane.Lane.put_run.Goals as goal

pub put-requires : goal.put-requires
put-requires g c =
    let old = c.self.inside in
    has_room g.S.Several.item_at (queued old.runs) old.put old.taken old.capacity (length old.runs.room.items) c.args.run.count c.self.invariant
    c.if-run-gt0.true (fits_in (all_items g.S.Several.item_at (queued old.runs)) old.put old.taken old.quota old.capacity c.args.run.count c.args.self.now c.self.view_is
    c.requires.room)

pub invariant_of-self : goal.invariant_of-self
invariant_of-self g c =
    let old = c.self.inside in
    let new = c.put.new.self in
    subst (λ runs. AreInLane g.S.Several.item_at runs (old.put + c.args.run.count) old.taken old.capacity (length new.room.items)) (sym c.put.ensures.runs)
    (put_more g.S.Several.item_at (queued old.runs) c.args.run old.put old.taken old.capacity (length old.runs.room.items) (length new.room.items)
    c.self.invariant c.if-run-gt0.true c.requires.run
    (fits_in (all_items g.S.Several.item_at (queued old.runs)) old.put old.taken old.quota old.capacity c.args.run.count c.args.self.now c.self.view_is
    c.requires.room) (let same = c.put.ensures.room in omega (arith, same)))

pub returns-then-run-gt0 : goal.returns-then-run-gt0
returns-then-run-gt0 g c =
    let item_at = g.S.Several.item_at in
    let old = c.self.inside in
    run_put item_at (queued old.runs) (queued c.put.new.self) c.args.run old.put old.taken old.quota old.capacity c.put.ensures.runs
    ∙ ap (λ l. with_put l (items_of item_at c.args.run)) c.self.view_is

pub returns-else-run-gt0 : goal.returns-else-run-gt0
returns-else-run-gt0 g c = none_put g.S.Several.item_at c.args.self.now c.args.run c.if-run-gt0.false
