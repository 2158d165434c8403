use Rattle.std.proofs.Common.{◌∙◌, List, length, ap, subst, sym}
use Rattle.face_text.specs.Starts.{ArePassed}
use Rattle.face_text.specs.declared.face.Face.{Face}
use Rattle.panel_edges.specs.Contents.{Grows, GrowsByFront}
use Rattle.site_run.proofs.AlikeFaces.{none_alike}
use Rattle.site_run.proofs.Results.{on_err, on_ok}
use Rattle.node_desk.proofs.Written.{tells_tick}
use Rattle.node_desk.proofs.node_run.NodeRun.write_tick.Goals as goal

pub write-requires : goal.write-requires
write-requires g c =
    let r = c.requires in
    record {
      room =
          ap (λ (fs : List Face). length fs) c.from_ref.ensures.value
          ∙ sym (ap (λ (fs : List Face). length fs) c.from_ref-2.ensures.value);
      alike = none_alike c.from_ref.result.now c.from_ref-2.result.now;
      passed =
          subst (λ s. ArePassed s c.args.self.now.starts) (sym (c.site.ensures r.site r.panel r.kept r.history r.runs.node))
          r.runs.starts;
    }

pub returns-clause-ok : goal.returns-clause-ok
returns-clause-ok g c =
    on_ok c.write.result
    (tells_tick (Grows (g.K.Stream.written c.args.out.now) (g.K.Stream.written c.write.new.out)) c.args.self.now c.site.result.now c.now.result.0
    c.from_ref.result.now c.from_ref-2.result.now c.answers.result.now c.site.ensures c.now.ensures c.from_ref.ensures.value c.from_ref-2.ensures.value
    c.answers.ensures)
    c.write.ensures.ok

pub returns-clause-err : goal.returns-clause-err
returns-clause-err g c =
    on_err c.write.result
    (tells_tick (GrowsByFront (g.K.Stream.written c.args.out.now) (g.K.Stream.written c.write.new.out)) c.args.self.now c.site.result.now c.now.result.0
    c.from_ref.result.now c.from_ref-2.result.now c.answers.result.now c.site.ensures c.now.ensures c.from_ref.ensures.value c.from_ref-2.ensures.value
    c.answers.ensures)
    c.write.ensures.err
