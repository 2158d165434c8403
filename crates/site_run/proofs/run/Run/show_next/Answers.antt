use Rattle.std.proofs.Common.{◌∙◌, List, length, ap, refl, subst, sym}
use Rattle.std.specs.Global.{Vec}
use Rattle.face_text.specs.declared.face.Face.{Face}
use Rattle.site_run.specs.Acting.{ShowAllNow}
use Rattle.site_run.specs.AlikeFaces.{ShowAlike}
use Rattle.site_run.proofs.AlikeFaces.{backwards}
use Rattle.site_run.proofs.run.Run.show_next.Goals as goal

pub returns : goal.returns
returns c =
    let old = c.args.self.now in
    let alike = c.show_now.new.alike in
    let was = ap (λ (faces : Vec Face). faces.items) c.swap.ensures.y_after in
    let is = ap (λ (faces : Vec Face). faces.items) c.swap.ensures.x_after in
    record {
      rest = refl;
      before = was;
      shows =
          subst (ShowAllNow old.system old.shown.items old.next.items) (sym is)
          (subst (λ faces. ShowAllNow old.system faces old.next.items c.show_now.new.faces.items) c.as_slice.ensures.value c.show_now.ensures.shows);
      room =
          ap (λ (faces : List Face). length faces) was ∙ c.requires.room ∙ sym c.show_now.ensures.room
          ∙ sym (ap (λ (faces : List Face). length faces) is);
      alike =
          subst (λ faces. ShowAlike alike faces c.swap.new.x.items) (sym was)
          (subst (ShowAlike alike old.shown.items) (sym is)
          (subst (λ faces. ShowAlike alike faces c.show_now.new.faces.items) c.as_slice.ensures.value
          (backwards alike c.show_now.new.faces.items c.as_slice.result.now c.show_now.ensures.alike)));
    }
