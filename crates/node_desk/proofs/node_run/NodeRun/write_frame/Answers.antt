use Rattle.std.proofs.Common.{◌∙◌}
use Rattle.panel_edges.specs.Contents.{Grows, GrowsByFront}
use Rattle.site_run.proofs.Results.{on_err, on_ok}
use Rattle.node_desk.proofs.Written.{tells_frame}
use Rattle.node_desk.proofs.node_run.NodeRun.write_frame.Goals as goal

pub returns-clause-ok : goal.returns-clause-ok
returns-clause-ok g c =
    on_ok c.write_all.result
    (tells_frame (Grows (g.K.Stream.written c.args.out.now) (g.K.Stream.written c.write_all.new.out)) c.args.self.now c.digest.result.now
    c.as_slice.result.now c.frame.result c.frame.ensures.sent c.digest.ensures (c.as_slice.ensures.value ∙ c.print_frame.ensures))
    c.write_all.ensures.ok

pub returns-clause-err : goal.returns-clause-err
returns-clause-err g c =
    on_err c.write_all.result
    (tells_frame (GrowsByFront (g.K.Stream.written c.args.out.now) (g.K.Stream.written c.write_all.new.out)) c.args.self.now c.digest.result.now
    c.as_slice.result.now c.frame.result c.frame.ensures.sent c.digest.ensures (c.as_slice.ensures.value ∙ c.print_frame.ensures))
    c.write_all.ensures.err
