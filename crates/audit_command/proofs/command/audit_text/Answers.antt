use Rattle.panel_edges.specs.Faults.{Rose}
use Rattle.audit_command.proofs.Answering.{text_judged}
use Rattle.audit_command.proofs.command.audit_text.Goals as goal

pub returns-in-Ok-clause-audits : goal.returns-in-Ok-clause-audits
returns-in-Ok-clause-audits g c =
    text_judged (g.F.Shelf.files c.args.shelf.now) c.args.text_name.now (Rose (g.F.Shelf.faults c.args.shelf.now) (g.F.Shelf.faults c.fetch_named.new.shelf))
    c.args.site.now c.args.lines.now c.in-Ok.text.items c.as_slice.result.now c.judge.result c.in-Ok.ensures.ok c.as_slice.ensures.value c.judge.ensures
