use Rattle.std.proofs.Common.{ap, arith}
use Rattle.site_types.specs.Changes.{nothing_retained}
use Rattle.face_text.specs.declared.face.Face.{Face}
use Rattle.panel_drill.specs.Counting.{counter_of}
use Rattle.panel_drill.proofs.Counts.{sum_more}
use Rattle.panel_drill.proofs.counting.counters.Goals as goal

pub loop-before-preserved : goal.loop-before-preserved
loop-before-preserved c =
    let k = c.loop-before.before in
    let counter = c.face.result.counter in
    let few = c.loop-before.invariant.few in
    record {
      few = omega (arith, few);
      added = λ site before stands run.
          let shown = ap (λ (face : Face). face.counter) (c.face.ensures.shown site nothing_retained before stands run) in
          sum_more (counter_of site before) k c.loop-before.sum counter (c.loop-before.invariant.added site before stands run) shown;
    }
