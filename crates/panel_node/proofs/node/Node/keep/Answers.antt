use Rattle.std.proofs.Common.{◌∙◌, subst}
use Rattle.keep_turn.specs.Turns.{AnswersTurn}
use Rattle.node_rules.specs.Histories.{befallen}
use Rattle.panel_core.proofs.KeepTurns.{answers_by, keeps_by, torn_by}
use Rattle.panel_edges.specs.Crashes.{LeavesOnly}
use Rattle.retained_journal.specs.Images.{MayLeaveOr}
use Rattle.panel_node.proofs.KeepTurns.{can_commit}
use Rattle.panel_node.proofs.node.Node.keep.Goals as goal

pub keep_turn-store-requires-clause-batch : goal.keep_turn-store-requires-clause-batch
keep_turn-store-requires-clause-batch g c =
    let m = c.requires.may in
    can_commit m.site m.panel m.kept m.history c.args.self.now m.stands m.run.0 c.args.journal.now c.left_batch-batch.result.items m.keeps
    (c.left_batch-batch.ensures m.site m.panel m.kept m.history m.stands m.run.0 m.few)

pub returns-clause-kept : goal.returns-clause-kept
returns-clause-kept g c site panel kept history h keeps run few =
    let before = befallen history in
    let store = c.keep_turn-store.result in
    let old = c.args.journal.now in
    let new = c.keep_turn-store.new.journal in
    let is = c.left_batch-batch.ensures site panel kept history h run.0 few in
    let turned = subst (λ changes. AnswersTurn changes old store new) is c.keep_turn-store.ensures.answers in
    let now = keeps_by site kept before old new store keeps.keeps turned in
    record {
      stands = c.note_kept.ensures.notes site panel kept history h c.entries-entries.ensures run now;
      keeps = record {
        keeps = now;
        wide = c.keep_turn-store.ensures.leaves.same.wide ∙ keeps.wide;
        torn = torn_by site kept before old new store keeps.torn turned;
      };
      answers = answers_by site kept before old new store turned;
    }

pub returns-clause-moments : goal.returns-clause-moments
returns-clause-moments g c honest site panel kept history h keeps run few room =
    subst (λ changes. LeavesOnly g.D.Disk.moment g.D.Disk.left_since c.args.disk.now c.keep_turn-store.new.disk (MayLeaveOr c.args.journal.now changes))
    (c.left_batch-batch.ensures site panel kept history h run few) (c.keep_turn-store.ensures.moments honest room)
