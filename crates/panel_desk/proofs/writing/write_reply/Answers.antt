use Rattle.std.proofs.Common.{◌∙◌, subst, sym}
use Rattle.std.specs.Prelude.{OnErr, OnOk}
use Rattle.panel_desk.proofs.Sending.{face_there, face_told, head_broken, of_err, table_told, tick_broken, tick_written}
use Rattle.panel_desk.specs.Acting.{TellsReply}
use Rattle.panel_edges.specs.Contents.{Grows, GrowsByFront}
use Rattle.site_run.proofs.Results.{on_err, on_ok}
use Rattle.site_run.proofs.Stood.{has_faces}
use Rattle.panel_desk.proofs.writing.write_reply.Goals as goal

pub bounds-shown-panel : goal.bounds-shown-panel
bounds-shown-panel g c =
    let r = c.requires.may in
    face_there r.site r.kept r.ticks c.args.run.now c.args.reply.now c.in-Face.panel c.shown.result.now r.stands r.at_hand c.in-Face.is c.shown.ensures

pub returns-in-Face-clause-ok : goal.returns-in-Face-clause-ok
returns-in-Face-clause-ok g c =
    subst (λ r. OnOk c.answer_face.result (TellsReply (Grows (g.K.Stream.written c.args.out.now) (g.K.Stream.written c.answer_face.new.out)) r c.args.run.now)) (sym c.in-Face.is)
    (on_ok c.answer_face.result
    (face_told (Grows (g.K.Stream.written c.args.out.now) (g.K.Stream.written c.answer_face.new.out)) c.args.run.now c.in-Face.panel c.shown.result.now _
    c.site.result.now c.ticks.result c.site.ensures c.shown.ensures c.ticks.ensures) c.answer_face.ensures.text.ok)

pub returns-in-Face-clause-err : goal.returns-in-Face-clause-err
returns-in-Face-clause-err g c =
    subst (λ r. OnErr c.answer_face.result (TellsReply (GrowsByFront (g.K.Stream.written c.args.out.now) (g.K.Stream.written c.answer_face.new.out)) r c.args.run.now)) (sym c.in-Face.is)
    (on_err c.answer_face.result
    (face_told (GrowsByFront (g.K.Stream.written c.args.out.now) (g.K.Stream.written c.answer_face.new.out)) c.args.run.now c.in-Face.panel c.shown.result.now _
    c.site.result.now c.ticks.result c.site.ensures c.shown.ensures c.ticks.ensures) c.answer_face.ensures.text.err)

pub returns-in-Profile-clause-ok : goal.returns-in-Profile-clause-ok
returns-in-Profile-clause-ok g c =
    subst (λ r. OnOk c.answer_table.result (TellsReply (Grows (g.K.Stream.written c.args.out.now) (g.K.Stream.written c.answer_table.new.out)) r c.args.run.now)) (sym c.in-Profile.is)
    (on_ok c.answer_table.result
    (table_told (Grows (g.K.Stream.written c.args.out.now) (g.K.Stream.written c.answer_table.new.out)) c.args.run.now c.site-in-Profile.result.now
    c.of.result.format c.site-in-Profile.ensures c.of.ensures) c.answer_table.ensures.ok)

pub returns-in-Profile-clause-err : goal.returns-in-Profile-clause-err
returns-in-Profile-clause-err g c =
    subst (λ r. OnErr c.answer_table.result (TellsReply (GrowsByFront (g.K.Stream.written c.args.out.now) (g.K.Stream.written c.answer_table.new.out)) r c.args.run.now)) (sym c.in-Profile.is)
    (on_err c.answer_table.result
    (table_told (GrowsByFront (g.K.Stream.written c.args.out.now) (g.K.Stream.written c.answer_table.new.out)) c.args.run.now c.site-in-Profile.result.now
    c.of.result.format c.site-in-Profile.ensures c.of.ensures) c.answer_table.ensures.err)

pub returns-in_err-write_all-in-Tick-clause-err : goal.returns-in_err-write_all-in-Tick-clause-err
returns-in_err-write_all-in-Tick-clause-err g c =
    of_err c.from_residual.result c.from_residual.ensures.0
    (subst (λ r. TellsReply (GrowsByFront (g.K.Stream.written c.args.out.now) (g.K.Stream.written c.write_all.new.out)) r c.args.run.now) (sym c.in-Tick.is)
    (head_broken (g.K.Stream.written c.args.out.now) (g.K.Stream.written c.write_all.new.out) (g.K.Stream.written c.write_all.new.out) c.args.run.now
    c.as_bytes.result.now (c.as_bytes.ensures.value ∙ c.as_str.ensures.value ∙ c.head-text.ensures.text) c.in_err-write_all-in-Tick.ensures.err))

pub write_tick-requires : goal.write_tick-requires
write_tick-requires g c = let r = c.requires.may in has_faces r.site r.kept _ c.args.run.now r.stands

pub returns-in_ok-write_all-in-Tick-clause-ok : goal.returns-in_ok-write_all-in-Tick-clause-ok
returns-in_ok-write_all-in-Tick-clause-ok g c =
    subst (λ r. OnOk c.write_tick.result (TellsReply (Grows (g.K.Stream.written c.args.out.now) (g.K.Stream.written c.write_tick.new.out)) r c.args.run.now)) (sym c.in-Tick.is)
    (on_ok c.write_tick.result
    (tick_written (g.K.Stream.written c.args.out.now) (g.K.Stream.written c.write_all.new.out) (g.K.Stream.written c.write_tick.new.out) c.args.run.now
    c.as_bytes.result.now (c.as_bytes.ensures.value ∙ c.as_str.ensures.value ∙ c.head-text.ensures.text) c.in_ok-write_all-in-Tick.ensures.ok)
    c.write_tick.ensures.ok)

pub returns-in_ok-write_all-in-Tick-clause-err : goal.returns-in_ok-write_all-in-Tick-clause-err
returns-in_ok-write_all-in-Tick-clause-err g c =
    subst (λ r. OnErr c.write_tick.result (TellsReply (GrowsByFront (g.K.Stream.written c.args.out.now) (g.K.Stream.written c.write_tick.new.out)) r c.args.run.now)) (sym c.in-Tick.is)
    (on_err c.write_tick.result
    (tick_broken (g.K.Stream.written c.args.out.now) (g.K.Stream.written c.write_all.new.out) (g.K.Stream.written c.write_tick.new.out) c.args.run.now
    c.as_bytes.result.now (c.as_bytes.ensures.value ∙ c.as_str.ensures.value ∙ c.head-text.ensures.text) c.in_ok-write_all-in-Tick.ensures.ok)
    c.write_tick.ensures.err)
