use Rattle.std.proofs.Common.{◌≡◌, sym, subst, arith, length}
use Rattle.panel_audit.specs.Lowest.{LowestBefore}
use Rattle.panel_audit.proofs.FirstThings.{comes_now, not_first, not_marked}
use Rattle.panel_audit.proofs.lowest.lowest_marked.Goals as goal
use Rattle.panel_audit.proofs.lowest.lowest_marked.Goals.{then-is_marked+then-comes_first, else-is_marked, else-is_marked-via-then-is_marked+else-comes_first, else-is_marked-via-else-is_marked}

pub loop-place-preserved : goal.loop-place-preserved
loop-place-preserved c =
    let things = c.args.things.now in
    let marks = c.args.marks.now in
    let place = c.loop-place.place in
    let lowest = c.loop-place.lowest in
    let in_it = c.loop-place-test.true in
    let before = c.loop-place.invariant in
    elim c.if-is_marked.branch [
      | then-is_marked+then-comes_first w ↦
          rw w.lowest-is (comes_now things marks place lowest in_it (sym (w.if-is_marked.ensures)) (w.if-comes_first.ensures) before)
      | else-is_marked w ↦ rw w.lowest-is (
          elim w.else-is_marked.branch [
            | else-is_marked-via-then-is_marked+else-comes_first v ↦ not_first things marks place lowest in_it (v.if-comes_first.ensures) before
            | else-is_marked-via-else-is_marked v ↦ not_marked things marks place lowest (sym (v.if-is_marked.ensures)) before
          ])
    ]

pub returns : goal.returns
returns c =
    let high = c.loop-place.auto.place-end in
    let low = c.loop-place-test.false in
    let end : c.loop-place.place ≡ length c.args.things.now = omega (arith, high, low) in
    subst (λ n. LowestBefore c.args.things.now c.args.marks.now n c.loop-place.lowest) end c.loop-place.invariant
