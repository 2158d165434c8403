use Rattle.std.proofs.Common.{◌≡◌, ◌∙◌, ◌-◌, ◌++◌, ◌∷◌, [], map, ap, sym, subst, arith}
use Rattle.std.specs.List.{range_with_len}
use Rattle.answer_lanes.specs.Blocks.{block_finding_at}
use Rattle.panel_conditions.specs.Changes.{BothTake}
use Rattle.panel_conditions.proofs.BlockRuns.{points_none, points_then, zones_none, zones_then}
use Rattle.panel_conditions.proofs.Runs.{items_then}
use Rattle.panel_conditions.proofs.block_runs.take_singly.Goals as goal

pub loop-place-init : goal.loop-place-init
loop-place-init c =
    let run = c.args.run.now in
    let none : run.taken - run.taken ≡ 0 = omega arith in
    record {
      from = omega arith;
      both = subst (λ n. BothTake (map (block_finding_at run.first) (range_with_len run.taken n)) c.args.points.now c.args.points.now
          c.args.zones.now c.args.zones.now) (sym none) (record { points = points_none c.args.points.now; zones = zones_none c.args.zones.now });
    }

pub loop-place-preserved : goal.loop-place-preserved
loop-place-preserved c =
    let l = c.loop-place in
    let run = c.args.run.now in
    let before = map (block_finding_at run.first) (range_with_len run.taken (l.place - run.taken)) in
    let from = l.invariant.from in
    record {
      from = omega (arith, from);
      both = subst (λ found. BothTake found c.args.points.now c.take_narrow.new.points c.args.zones.now c.take_narrow.new.zones)
          (ap (λ found. before ++ found) (c.one.ensures.items ∙ ap (λ f. f ∷ []) c.item.ensures)
          ∙ sym (items_then block_finding_at run.first run.taken l.place 1 from)) (record {
            points = points_then before _ _ l.points _ l.invariant.both.points c.take_narrow.ensures.points;
            zones = zones_then before _ _ l.zones _ l.invariant.both.zones c.take_narrow.ensures.zones;
          });
    }

pub returns : goal.returns
returns c =
    let l = c.loop-place in
    let run = c.args.run.now in
    let whole : l.place - run.taken ≡ run.count = omega arith in
    subst (λ n. BothTake (map (block_finding_at run.first) (range_with_len run.taken n)) c.args.points.now l.points c.args.zones.now l.zones) whole
    l.invariant.both
