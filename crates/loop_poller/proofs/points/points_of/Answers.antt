use Rattle.std.proofs.Common.{◌≡◌, sym, ap, ◌∙◌, arith, length, Some, refl, slice_get}
use Rattle.std.proofs.lemmas.Grind.{common_steps}
use Rattle.std.proofs.lemmas.Option.{slice_get_read}
use Rattle.site_types.proofs.ValidSites.{few_points}
use Rattle.loop_poller.proofs.Filling.{found_here, found_past, line_is_not_at, panel_is_not_at}
use Rattle.loop_poller.proofs.points.points_of.Goals as goal
use Rattle.loop_poller.proofs.points.points_of.Goals.{then-point-panel+then-point-line, else-point-panel, else-point-panel-via-then-point-panel+else-point-line, else-point-panel-via-else-point-panel}

pub loop-place-preserved : goal.loop-place-preserved
loop-place-preserved c =
    let site = c.args.site.now in
    let n = c.loop-place.place in
    let point = c.point-item.result in
    let size = c.loop-place.invariant.size in
    let is : slice_get site.points n ≡ Some point =
    sym (ap (λ xs. slice_get xs n) c.as_slice-point-items.ensures) ∙ slice_get_read c.as_slice-point-items.result.now
    (length c.as_slice-point-items.result.now) n point refl c.loop-place-test.true c.point-item.is in
    record {
      size = elim c.if-point-panel.branch [
        | then-point-panel+then-point-line w ↦ rw w.points-is (grind (arith, common_steps))
        | else-point-panel w ↦ rw w.points-is size
      ];
      each = elim c.if-point-panel.branch [
        | then-point-panel+then-point-line w ↦
            rw w.points-is (found_here site c.args.panel c.args.line n point is c.requires c.loop-place.points.items size w.if-point-panel.true
            w.if-point-line.true c.loop-place.invariant.each)
        | else-point-panel w ↦ rw w.points-is (found_past site c.args.panel c.args.line n point is c.loop-place.points.items
            (λ address. elim w.else-point-panel.branch [
              | else-point-panel-via-then-point-panel+else-point-line v ↦ line_is_not_at c.args.panel c.args.line address point v.if-point-line.false
              | else-point-panel-via-else-point-panel v ↦ panel_is_not_at c.args.panel c.args.line address point v.if-point-panel.false
            ])
            c.loop-place.invariant.each)
      ];
    }

pub overflow_cast-place : goal.overflow_cast-place
overflow_cast-place c =
    let few = few_points c.args.site.now c.requires in
    let items = ap length c.as_slice-point-items.ensures in
    omega arith
