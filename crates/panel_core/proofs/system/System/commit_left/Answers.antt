use Rattle.std.proofs.Common.{subst, ◌∙◌}
use Rattle.keep_turn.specs.Turns.{MakesTurn}
use Rattle.panel_core.proofs.KeepTurns.{can_commit, left_batch, may_make}
use Rattle.panel_core.proofs.system.System.commit_left.Goals as goal

pub make_batch-batch-requires : goal.make_batch-batch-requires
make_batch-batch-requires g c =
    let r = c.requires.may in
    may_make r.site r.kept r.before c.args.self.now r.stands r.run.0 r.few c.args.entries.now c.left_of-left.result c.requires.told
    c.left_of-left.ensures c.waiting.result.now c.waiting.ensures

pub keep_turn-requires-clause-batch : goal.keep_turn-requires-clause-batch
keep_turn-requires-clause-batch g c =
    let r = c.requires.may in
    can_commit r.site r.kept r.before c.args.self.now c.args.journal.now c.make_batch-batch.result.items r.stands r.keeps r.run.0
    (c.make_batch-batch.ensures
    ∙ left_batch r.site r.kept r.before c.args.self.now r.stands r.run.0 r.few c.args.entries.now c.left_of-left.result c.requires.told
    c.left_of-left.ensures c.waiting.result.now c.waiting.ensures)

pub returns : goal.returns
returns g c site kept before h run few =
    let d = g.D.Disk in
    subst (λ changes. MakesTurn d.honest d.images d.moment d.left_since d.faults c.args.disk.now c.keep_turn.new.disk changes c.args.journal.now
    c.keep_turn.result c.keep_turn.new.journal)
    (c.make_batch-batch.ensures
    ∙ left_batch site kept before c.args.self.now h run few c.args.entries.now c.left_of-left.result c.requires.told c.left_of-left.ensures
    c.waiting.result.now c.waiting.ensures)
    c.keep_turn.ensures
