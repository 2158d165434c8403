use Rattle.std.proofs.Common.{◌≡◌, ◌∙◌, ◌++◌, List, [], ap, subst}
use Rattle.panel_edges.specs.Contents.{Grows, GrowsByFront}
use Rattle.face_text.specs.declared.face.Face.{Face}
use Rattle.face_text.specs.Timelines.{empty_faces, faces_text, opening_line}
use Rattle.site_types.specs.declared.retained.Retained.{Retained}
use Rattle.site_types.specs.declared.site.Site.{Site}
use Rattle.panel_rules.specs.Timeline.{faces_of}
use Rattle.run_text.specs.SoFar.{opening_text}
use Rattle.site_run.specs.Records.{at_beginning, moments_in}
use Rattle.site_run.proofs.Results.{on_ok, on_err}
use Rattle.site_run.proofs.run.Run.write_opening.Goals as goal

opening_is : (site there : Site) (kept : Retained) (before after : List Face) → there ≡ site → before ≡ empty_faces site → after ≡ faces_of site kept []
    → opening_line there ++ faces_text there before after ≡ opening_text site kept
opening_is site there kept before after same b a =
    ap (λ s. opening_line s ++ faces_text s before after) same
    ∙ ap (λ fs. opening_line site ++ faces_text site fs after) b
    ∙ ap (λ fs. opening_line site ++ faces_text site (empty_faces site) fs) a

pub returns-clause-ok : goal.returns-clause-ok
returns-clause-ok g c =
    let old = g.K.Stream.written c.args.out.now in
    let new = g.K.Stream.written c.write_opening.new.out in
    on_ok c.write_opening.result
    (λ wrote site kept h empty. subst (Grows old new)
    (opening_is site c.site.result.now kept c.as_slice.result.now c.as_slice-2.result.now (c.site.ensures site kept (moments_in at_beginning) h.system)
    (c.as_slice.ensures.value ∙ empty) (c.as_slice-2.ensures.value ∙ h.shown)) wrote)
    c.write_opening.ensures.ok

pub returns-clause-err : goal.returns-clause-err
returns-clause-err g c =
    let old = g.K.Stream.written c.args.out.now in
    let new = g.K.Stream.written c.write_opening.new.out in
    on_err c.write_opening.result
    (λ wrote site kept h empty. subst (GrowsByFront old new)
    (opening_is site c.site.result.now kept c.as_slice.result.now c.as_slice-2.result.now (c.site.ensures site kept (moments_in at_beginning) h.system)
    (c.as_slice.ensures.value ∙ empty) (c.as_slice-2.ensures.value ∙ h.shown)) wrote)
    c.write_opening.ensures.err
