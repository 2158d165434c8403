use Rattle.std.proofs.Common.{◌++◌, ap, subst, sym}
use Rattle.std.specs.Prelude.{OnErr}
use Rattle.desk_answers.specs.AnswerHeads.{answer_head}
use Rattle.desk_answers.specs.declared.content.Content.TheVariants.{Table as CsvTable}
use Rattle.desk_requests.specs.declared.status.Status.TheVariants.{Done}
use Rattle.panel_desk.specs.Replies.{register_bytes}
use Rattle.panel_edges.specs.Contents.{GrowsByFront}
use Rattle.panel_desk.proofs.writing.write_register_reply.Goals as goal

pub returns-in-Object-clause-err : goal.returns-in-Object-clause-err
returns-in-Object-clause-err g c =
    subst (λ r. OnErr c.answer_object.result (GrowsByFront (g.K.Stream.written c.args.out.now) (g.K.Stream.written c.answer_object.new.out) (register_bytes r)))
    (sym c.in-Object.is) c.answer_object.ensures.err

pub returns-in-Table-clause-err : goal.returns-in-Table-clause-err
returns-in-Table-clause-err g c =
    subst (λ r. OnErr c.answer_bytes.result (GrowsByFront (g.K.Stream.written c.args.out.now) (g.K.Stream.written c.answer_bytes.new.out) (register_bytes r)))
    (sym c.in-Table.is)
    (subst
    (λ xs. OnErr c.answer_bytes.result (GrowsByFront (g.K.Stream.written c.args.out.now) (g.K.Stream.written c.answer_bytes.new.out) (answer_head Done CsvTable ++ xs)))
    c.as_slice.ensures.value c.answer_bytes.ensures.err)
