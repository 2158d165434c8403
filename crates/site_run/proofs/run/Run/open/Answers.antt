use Rattle.std.proofs.Common.{◌∙◌, List, [], length, ap, refl}
use Rattle.site_run.proofs.AlikeFaces.{none_alike}
use Rattle.std.proofs.lemmas.List.FromFn.{length-map-range_with_len}
use Rattle.face_text.specs.declared.face.Face.{Face}
use Rattle.face_text.specs.Faces.{empty_face}
use Rattle.site_run.proofs.Stood.{opened}
use Rattle.site_run.proofs.run.Run.open.Goals as goal

pub show-requires : goal.show-requires
show-requires c =
    record {
      site = c.args.site;
      kept = c.kept-2.result.now;
      before = [];
      stands = c.in-Ok.ensures;
      room = ap (λ (fs : List Face). length fs) c.in-Ok-empty_faces_of.ensures ∙ length-map-range_with_len empty_face 1 c.args.site.panels;
    }

pub returns-clause-stands : goal.returns-clause-stands
returns-clause-stands c =
    let stands = rw c.kept-2.ensures at c.in-Ok.ensures in
    let long = length-map-range_with_len empty_face 1 c.args.site.panels in
    opened c.args.site c.args.journal.kept _ c.requires.valid c.requires.journal.sound.keeps.small c.requires.journal stands refl
    c.canonical-canonical.ensures.seats refl refl
    (c.show.ensures.shows c.args.site c.args.journal.kept [] stands tt (ap (λ (fs : List Face). length fs) c.in-Ok-empty_faces_of.ensures ∙ long))
    (ap (λ (fs : List Face). length fs) c.in-Ok-empty_faces_of-2.ensures ∙ long)
    (none_alike _ _) c.of-starts.ensures
