use Rattle.std.proofs.Common.{◌≡◌, ◌∙◌, ◌-◌, ◌++◌, map, subst, arith}
use Rattle.std.specs.List.{range_with_len}
use Rattle.answer_lanes.specs.Points.{finding_at}
use Rattle.panel_conditions.specs.Stands.{WatchesPoints}
use Rattle.panel_conditions.proofs.Runs.{item_more, run_again}
use Rattle.panel_conditions.proofs.points.Points.take_run.Goals as goal

pub returns-then-has_run-clause-watches : goal.returns-then-has_run-clause-watches
returns-then-has_run-clause-watches c site kept panel done taken h =
    run_again site kept panel done taken c.args.run.now c.args.self.now (c.has_run.ensures c.if-has_run.true) h

pub loop-place-preserved : goal.loop-place-preserved
loop-place-preserved c =
    let l = c.loop-place in
    let run = c.args.run.now in
    let before = map (finding_at run.first) (range_with_len run.taken (l.place - run.taken)) in
    record {
      from = let from = l.invariant.from in omega (arith, from);
      watches = λ site kept panel done taken h.
          item_more finding_at (λ found. WatchesPoints site kept panel done found c.take.new.self) taken run l.place c.item.result l.invariant.from
          c.item.ensures
          (c.take.ensures.watches site kept panel done (taken ++ before) (l.invariant.watches site kept panel done taken h));
      missing = λ same.
          let now = c.take.ensures.missing same in
          let before = l.invariant.missing now.0 in
          (before.0, now.1 ∙ before.1);
      off = (c.take.ensures.off.0 ∙ l.invariant.off.0, c.take.ensures.off.1 ∙ l.invariant.off.1);
    }

pub returns-clause-watches : goal.returns-clause-watches
returns-clause-watches c site kept panel done taken h =
    let l = c.loop-place in
    let run = c.args.run.now in
    let whole : l.place - run.taken ≡ run.count = omega arith in
    subst (λ n. WatchesPoints site kept panel done (taken ++ map (finding_at run.first) (range_with_len run.taken n)) l.self) whole
    (l.invariant.watches site kept panel done taken h)
