use Rattle.std.proofs.Common.{sym}
use Rattle.node_rules.specs.Histories.{befallen}
use Rattle.panel_node.proofs.KeepTurns.{can_keep, noted}
use Rattle.panel_node.proofs.node.Node.note_kept.Goals as goal

pub keep-requires : goal.keep-requires
keep-requires c =
    let r = c.requires in
    rw c.has_failed-failed.ensures (can_keep r.site r.panel r.kept r.history c.args.self.now r.stands r.run.0 _ r.run)

pub returns-clause-notes : goal.returns-clause-notes
returns-clause-notes c site panel kept history h told =
    rw (sym c.has_failed-failed.ensures, c.note.ensures, c.kept.ensures) (λ run keeps. noted site panel kept history c.args.self.now h run.0
    c.has_failed-failed.result c.keep.new.self c.args.entries.now c.args.journal.now told run keeps (c.keep.ensures site kept (befallen history)))
