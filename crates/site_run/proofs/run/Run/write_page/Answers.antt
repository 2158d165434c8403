use Rattle.std.proofs.Common.{◌∙◌, List, length, ap, subst, sym}
use Rattle.face_text.specs.Starts.{ArePassed}
use Rattle.face_text.specs.declared.face.Face.{Face}
use Rattle.site_run.specs.AlikeFaces.{ShowAlike}
use Rattle.panel_edges.specs.Contents.{Grows, GrowsByFront}
use Rattle.site_run.proofs.Closing.{tells_tick}
use Rattle.site_run.proofs.Results.{on_ok, on_err}
use Rattle.site_run.proofs.run.Run.write_page.Goals as goal

pub write-requires : goal.write-requires
write-requires g c =
    let h = c.requires in
    let run = c.args.self.now in
    record {
      room =
          ap (λ (fs : List Face). length fs) c.as_slice.ensures.value ∙ sym h.room
          ∙ sym (ap (λ (fs : List Face). length fs) c.as_slice-2.ensures.value);
      alike =
          subst (λ fs. ShowAlike run.alike fs c.as_slice-2.result.now) (sym c.as_slice.ensures.value)
          (subst (ShowAlike run.alike run.next.items) (sym c.as_slice-2.ensures.value) h.alike);
      passed = subst (λ s. ArePassed s run.starts) (sym (c.site.ensures h.shows.site h.shows.kept h.shows.before h.shows.stands)) h.passed;
    }

pub returns-clause-ok : goal.returns-clause-ok
returns-clause-ok g c =
    on_ok c.write.result
    (tells_tick (Grows (g.K.Stream.written c.args.out.now) (g.K.Stream.written c.write.new.out)) c.args.self.now c.site.result.now c.as_slice.result.now
    c.as_slice-2.result.now c.answers.result.now c.answers.ensures c.site.ensures c.as_slice.ensures.value c.as_slice-2.ensures.value)
    c.write.ensures.ok

pub returns-clause-err : goal.returns-clause-err
returns-clause-err g c =
    on_err c.write.result
    (tells_tick (GrowsByFront (g.K.Stream.written c.args.out.now) (g.K.Stream.written c.write.new.out)) c.args.self.now c.site.result.now
    c.as_slice.result.now c.as_slice-2.result.now c.answers.result.now c.answers.ensures c.site.ensures c.as_slice.ensures.value
    c.as_slice-2.ensures.value)
    c.write.ensures.err
