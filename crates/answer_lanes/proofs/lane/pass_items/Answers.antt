use Rattle.std.proofs.Common.{refl, ◌∙◌, subst, sym}
use Rattle.answer_lanes.specs.Moves.{AreWhole}
use Rattle.answer_lanes.specs.Queues.{queued}
use Rattle.answer_lanes.specs.Runs.{front_of}
use Rattle.answer_lanes.proofs.Moving.{has_first, short}
use Rattle.answer_lanes.proofs.Passing.{passed_whole, passes_on, takes_some}
use Rattle.answer_lanes.proofs.lane.pass_items.Goals as goal

pub loop-left-init : goal.loop-left-init
loop-left-init g c =
    let whole = c.whole_runs-whole in
    record {
      passing = passed_whole g.S.Several.item_at c.args.count (queued c.args.runs.now) whole.result.runs whole.result.items (queued c.take.new.self)
          c.requires.may c.requires.few
          (subst (λ xs. AreWhole g.S.Several.item_at c.args.count xs whole.result.runs whole.result.items) c.as_slice.ensures whole.ensures)
          c.take.ensures.runs;
      same = c.take.ensures.room;
    }

pub returns-in_default-clause-passed : goal.returns-in_default-clause-passed
returns-in_default-clause-passed g c =
    let l = c.loop-left in
    let passing = l.invariant.passing in
    absurd (has_first g.S.Several.item_at c.args.count (queued c.args.runs.now) l.left passing.moved (queued l.runs) passing.moving
    c.loop-left-test.true (sym c.first.ensures ∙ c.in_default.is))

pub cut_first-requires-clause-run : goal.cut_first-requires-clause-run
cut_first-requires-clause-run g c =
    let l = c.loop-left in
    let run = c.in-Some.run' in
    let passing = l.invariant.passing in
    short g.S.Several.item_at c.args.count (queued c.args.runs.now) l.left passing.moved (queued l.runs) passing.moving c.loop-left-test.true run
    (front_of l.left run) (sym c.first.ensures ∙ c.in-Some.is) refl _ refl

pub loop-left-smaller : goal.loop-left-smaller
loop-left-smaller g c =
    let l = c.loop-left in
    takes_some g.S.Several.item_at c.args.count (queued c.args.runs.now) l.left (queued l.runs) l.invariant.passing c.loop-left-test.true c.in-Some.run'
    (sym c.first.ensures ∙ c.in-Some.is) c.min-taken.result c.min-taken.ensures

pub loop-left-preserved : goal.loop-left-preserved
loop-left-preserved g c =
    let l = c.loop-left in
    let cut = c.cut_first in
    record {
      passing = passes_on g.S.Several.item_at c.args.count (queued c.args.runs.now) l.left (queued l.runs) l.invariant.passing c.loop-left-test.true
          c.in-Some.run' (sym c.first.ensures ∙ c.in-Some.is) c.min-taken.result c.min-taken.ensures (queued cut.new.runs) cut.ensures.whole
          cut.ensures.parted;
      same = cut.ensures.room ∙ l.invariant.same;
    }
