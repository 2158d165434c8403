use Rattle.std.proofs.Common.{sym}
use Rattle.panel_core.proofs.DeskTurns.{can_keep}
use Rattle.panel_core.proofs.KeepTurns.{noted}
use Rattle.panel_core.proofs.system.System.note_kept.Goals as goal

pub keep-requires : goal.keep-requires
keep-requires c =
    let r = c.requires in
    rw c.has_failed-failed.ensures (can_keep r.site r.kept r.before c.args.self.now r.stands _ r.run)

pub returns-clause-notes : goal.returns-clause-notes
returns-clause-notes c site kept before h told =
    rw (sym c.has_failed-failed.ensures, c.note.ensures, c.kept.ensures) (λ run keeps. noted site kept before c.args.self.now h run.0 c.has_failed-failed.result
    c.keep.new.self c.args.entries.now c.args.journal.now told run keeps (c.keep.ensures site kept before))
