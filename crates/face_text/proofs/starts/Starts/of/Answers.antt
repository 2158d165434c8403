use Rattle.std.proofs.Common.{◌==◌, ◌<◌, sym, arith}
use Rattle.site_types.specs.declared.output.Output.{Output}
use Rattle.site_types.specs.declared.zone.Zone.{Zone}
use Rattle.face_text.proofs.Begun.{one_panel_more, one_start_more}
use Rattle.face_text.proofs.NextNames.{is_on}
use Rattle.face_text.proofs.starts.Starts.of.Goals as goal

pub loop-before-preserved : goal.loop-before-preserved
loop-before-preserved c =
    let site = c.args.site.now in
    let old = c.loop-before.invariant in
    let place = c.loop-before.before in
    let starts = c.loop-before.starts in
    let few : place < 8 = omega (arith, c.loop-before-test.true) in
    record {
      zones =
          one_start_more site.zones (λ panel (zone : Zone). zone.panel == panel) starts.zones place c.zones_before.result old.zones
          (rw (sym c.as_slice.ensures) c.zones_before.ensures);
      points =
          one_panel_more site.points is_on starts.points place c.before_loops.result few old.points
          (λ line. rw (sym c.as_slice-in-loop-before.ensures) (c.before_loops.ensures line));
      outputs =
          one_start_more site.outputs (λ panel (output : Output). output.panel == panel) starts.outputs place c.outputs_before.result old.outputs
          (rw (sym c.as_slice-in-loop-before-2.ensures) c.outputs_before.ensures);
    }
