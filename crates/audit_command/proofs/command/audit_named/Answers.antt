use Rattle.std.proofs.Common.{subst}
use Rattle.std.specs.Prelude.{IfSome}
use Rattle.panel_edges.specs.Faults.{Rose}
use Rattle.panel_edges.specs.Shelves.{file_of}
use Rattle.audit_command.specs.Audits.{AuditsText}
use Rattle.audit_command.proofs.Answering.{lines_judged}
use Rattle.audit_command.proofs.command.audit_named.Goals as goal

pub returns-in-Ok-clause-audits : goal.returns-in-Ok-clause-audits
returns-in-Ok-clause-audits g c =
    let middle = g.F.Shelf.faults c.fetch_named.new.shelf in
    let after = g.F.Shelf.faults c.audit_text.new.shelf in
    let audits = subst (λ told. IfSome told (λ files. AuditsText (Rose middle after) c.args.site.now c.as_slice.result.now
    (file_of c.args.text_name.now files) c.audit_text.result)) c.fetch_named.ensures.files c.audit_text.ensures.audits in
    lines_judged (g.F.Shelf.files c.args.shelf.now) c.args.record_name.now c.args.text_name.now (g.F.Shelf.faults c.args.shelf.now) middle after
    c.fetch_named.ensures.later c.args.site.now c.in-Ok.lines.items c.as_slice.result.now c.audit_text.result c.in-Ok.ensures.ok c.as_slice.ensures.value
    audits
