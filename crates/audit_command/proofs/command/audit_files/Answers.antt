use Rattle.std.proofs.Common.{subst}
use Rattle.std.specs.Prelude.{IfSome}
use Rattle.panel_edges.specs.Faults.{Rose}
use Rattle.panel_edges.specs.Shelves.{file_of}
use Rattle.audit_command.specs.Audits.{AuditsFiles}
use Rattle.audit_command.proofs.Answering.{audits_told}
use Rattle.audit_command.proofs.command.audit_files.Goals as goal

pub returns-in-Ok-clause-answers : goal.returns-in-Ok-clause-answers
returns-in-Ok-clause-answers g c =
    let middle = g.F.Shelf.faults c.load.new.shelf in
    let after = g.F.Shelf.faults c.audit_named-audited.new.shelf in
    let audits = subst (λ told. IfSome told (λ files. AuditsFiles (Rose middle after) c.in-Ok.loaded.site (file_of c.args.record_name.now files)
    (file_of c.args.text_name.now files) c.audit_named-audited.result)) c.load.ensures.files c.audit_named-audited.ensures.audits in
    audits_told (g.F.Shelf.files c.args.shelf.now) c.args.site_name.now c.args.record_name.now c.args.text_name.now
    (g.F.Shelf.faults c.args.shelf.now) middle after c.load.ensures.later c.in-Ok.loaded.site (g.K.Stream.written c.args.out.now)
    (g.K.Stream.written c.tell.new.out) c.tell.result c.audit_named-audited.result c.in-Ok.ensures.told audits c.tell.ensures.tells
