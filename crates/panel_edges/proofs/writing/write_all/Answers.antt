use Rattle.std.proofs.Common.{arith, ◌++◌, ◌∙◌, take}
use Rattle.panel_edges.proofs.Growing.{grows_more, split_more}
use Rattle.panel_edges.proofs.writing.write_all.Goals as goal

pub loop-rest-preserved : goal.loop-rest-preserved
loop-rest-preserved g c =
    let before = c.loop-rest.invariant in
    let call = c.write.ensures in
    let n = c.in_ok-count.count in
    let rest = c.loop-rest.rest.now in
    record {
      written = (
        before.written.0 ++ take n rest,
        split_more _ before.written.0 rest _ n before.written.1 c.split_at.ensures.back,
        grows_more _ _ _ before.written.0 (take n rest) before.written.2 c.in_ok-count.ensures.bytes,
      );
      counted = omega (arith, before.counted, call.cause.later);
      left = call.left ∙ before.left;
      reads = call.reads ∙ before.reads;
    }
