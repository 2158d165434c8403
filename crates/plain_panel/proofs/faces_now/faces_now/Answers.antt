use Rattle.panel_rules.specs.Timeline.{face_of}
use Rattle.plain_history.specs.Histories.{history}
use Rattle.plain_panel.proofs.FacesMore.{more_faces}
use Rattle.plain_panel.proofs.faces_now.faces_now.Goals as goal

pub loop-place-preserved : goal.loop-place-preserved
loop-place-preserved c =
    more_faces (λ panel. face_of c.args.site.now c.args.kept.now panel (history c.args.before.now)) c.loop-place.place c.loop-place.faces.items
    c.push.new.self.items c.face_now.result c.loop-place.invariant c.face_now.ensures c.in_ok-push.ensures.items
