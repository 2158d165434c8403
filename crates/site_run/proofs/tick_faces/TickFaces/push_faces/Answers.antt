use Rattle.std.proofs.Common.{◌∙◌, ◌+◌, ◌++◌, take, drop, ap, arith}
use Rattle.face_text.specs.Timelines.{faces_text}
use Rattle.face_text.proofs.Holding.{moves_next, puts_broken}
use Rattle.site_run.proofs.Faces.{faces_on, faces_split}
use Rattle.site_run.proofs.tick_faces.TickFaces.push_faces.Goals as goal

pub returns-in_err-push_panel-clause-text : goal.returns-in_err-push_panel-clause-text
returns-in_err-push_panel-clause-text g c =
    let k = c.loop-place.place in
    let site = c.args.self.now.site.now in
    let before = c.args.self.now.before.now in
    let after = c.args.self.now.after.now in
    let next = faces_on site before after k _ c.requires.room c.loop-place-test.true in
    puts_broken c.args.held.now c.loop-place.held c.push_panel.new.held _ _ _ (faces_text site (take k before) (take k after)) _
    (faces_text site (drop (k + 1) before) (drop (k + 1) after)) _ c.from_residual.result c.from_residual.ensures.0
    (faces_split site before after (k + 1) ∙ ap (λ xs. xs ++ faces_text site (drop (k + 1) before) (drop (k + 1) after)) next) c.loop-place.invariant.text
    c.in_err-push_panel.ensures.text.err

pub loop-place-preserved : goal.loop-place-preserved
loop-place-preserved g c =
    let k = c.loop-place.place in
    let site = c.args.self.now.site.now in
    let before = c.args.self.now.before.now in
    let after = c.args.self.now.after.now in
    let inv = c.loop-place.invariant in
    let call = c.push_panel.ensures in
    record {
      text =
          moves_next c.args.held.now c.loop-place.held c.push_panel.new.held _ _ _ (faces_text site (take k before) (take k after)) _ _
          (faces_on site before after k _ c.requires.room c.loop-place-test.true)
          inv.text c.in_ok-push_panel.ensures.text.ok;
      left = call.left ∙ inv.left;
      reads = call.reads ∙ inv.reads;
      counted = omega (arith, inv.counted, call.cause.later);
    }
