use Rattle.std.proofs.Common.{◌∙◌, List, length, ap, subst, sym}
use Rattle.face_text.specs.declared.face.Face.{Face}
use Rattle.site_run.specs.AlikeFaces.{AllAlike}
use Rattle.site_run.proofs.Untold.{tells_nothing}
use Rattle.site_run.proofs.run.Run.write_tick.Goals as goal

pub returns-then-not-has_answers-clause-ok : goal.returns-then-not-has_answers-clause-ok
returns-then-not-has_answers-clause-ok g c =
    let run = c.args.self.now in
    tells_nothing run c.answers.result.now (g.K.Stream.written c.args.out.now) c.requires
    (subst (AllAlike run.alike) (ap (λ (fs : List Face). length fs) c.as_slice.ensures.value) (c.are_alike.ensures c.if-are_alike.true))
    c.answers.ensures (sym c.has_answers.ensures ∙ c.if-not-has_answers.true)
