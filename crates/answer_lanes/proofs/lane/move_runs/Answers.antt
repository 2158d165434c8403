use Rattle.std.proofs.Common.{refl, ◌∙◌, sym, arith}
use Rattle.answer_lanes.specs.Queues.{queued}
use Rattle.answer_lanes.proofs.Moving.{ends, fits, goes_on, has_first, moved_whole, short, smaller, with_value}
use Rattle.answer_lanes.proofs.lane.move_runs.Goals as goal

pub loop-left-init : goal.loop-left-init
loop-left-init g c =
    let first = c.move_whole-whole in
    record {
      moving = moved_whole g.S.Several.item_at c.args.count (queued c.args.runs.now) first.result.runs first.result.items c.args.into.now.items
          first.new.into.items (queued first.new.runs) c.requires.may c.requires.few c.requires.empty first.ensures.whole first.ensures.moved
          first.ensures.rest;
      same = first.ensures.room;
    }

pub cut_first-requires : goal.cut_first-requires
cut_first-requires g c =
    let l = c.loop-left in
    let run = c.in-Some.run' in
    let at = sym c.first.ensures ∙ c.in-Some.is in
    let short_run = short g.S.Several.item_at c.args.count (queued c.args.runs.now) l.left l.into.items (queued l.runs) l.invariant.moving
    c.loop-left-test.true run c.front-front.result at c.front-front.ensures _ refl in
    record { run = short_run; first = at }

pub loop-left-smaller : goal.loop-left-smaller
loop-left-smaller g c =
    let l = c.loop-left in
    smaller g.S.Several.item_at c.args.count (queued c.args.runs.now) l.left l.into.items (queued l.runs) l.invariant.moving c.loop-left-test.true
    c.in-Some.run' c.front-front.result (sym c.first.ensures ∙ c.in-Some.is) c.front-front.ensures _ refl

pub loop-left-preserved : goal.loop-left-preserved
loop-left-preserved g c =
    let item_at = g.S.Several.item_at in
    let l = c.loop-left in
    let front = c.front-front.result in
    let at = sym c.first.ensures ∙ c.in-Some.is in
    let start = queued c.args.runs.now in
    let h = l.invariant.moving in
    let some = c.loop-left-test.true in
    let is_front = c.front-front.ensures in
    let into = c.try_push-room.new.self.items in
    let cut = c.cut_first in
    let pushed = with_value c.try_push-room.result
    (c.try_push-room.ensures.variant.1 (fits item_at c.args.count start l.left l.into.items (queued l.runs) h some c.in-Some.run' front at is_front _ refl))
    c.try_push-room.ensures.ok in
    record {
      moving = goes_on item_at c.args.count start l.left l.into.items (queued l.runs) h some c.in-Some.run' front at is_front into pushed
          (queued cut.new.runs) cut.ensures.whole cut.ensures.parted;
      same = cut.ensures.room ∙ l.invariant.same;
    }

pub returns-clause-moves : goal.returns-clause-moves
returns-clause-moves g c = ends g.S.Several.item_at c.args.count (queued c.args.runs.now) c.loop-left.left c.loop-left.into.items
    (queued c.loop-left.runs) c.loop-left.invariant.moving (let none = c.loop-left-test.false in omega (arith, none))

pub returns-in_default-clause-moves : goal.returns-in_default-clause-moves
returns-in_default-clause-moves g c =
    let l = c.loop-left in
    absurd (has_first g.S.Several.item_at c.args.count (queued c.args.runs.now) l.left l.into.items (queued l.runs) l.invariant.moving
    c.loop-left-test.true (sym c.first.ensures ∙ c.in_default.is))
