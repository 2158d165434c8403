use Rattle.std.proofs.Common.{◌∙◌, ap, refl, subst, sym}
use Rattle.desk_runs.specs.Ticks.{is_next, tick_expected}
use Rattle.node_desk.specs.Replies.{HasReplied}
use Rattle.node_desk.specs.declared.reply.Reply.TheVariants.{OtherTick}
use Rattle.node_inputs.specs.declared.input.NodeInput.TheVariants.{Block}
use Rattle.site_run.specs.Outside.{disks_of}
use Rattle.node_desk.proofs.Replying.{replied_other, replied_tick}
use Rattle.node_desk.proofs.node_run.NodeRun.reply_to_block.Goals as goal

pub returns-then-is_next-clause-replies : goal.returns-then-is_next-clause-replies
returns-then-is_next-clause-replies g c site panel kept history ticks h room accepted =
    let block = c.args.block.now in
    let disks = disks_of g.D.Disk.honest g.D.Disk.images g.D.Disk.moment g.D.Disk.left_since c.args.disk.now c.run_block.new.disk in
    let next = ap (is_next c.args.found) (sym (c.ticks-ticks.ensures site panel kept history ticks h)) ∙ sym c.is_next.ensures ∙ c.if-is_next.true in
    let ran = c.run_block.ensures.runs site panel kept history ticks (record { runs = h; room = room; accepted = accepted; short = c.requires.may.short; next = next }) in
    replied_tick site panel kept c.args.self.now.node.digest history ticks block disks c.args.self.now h c.args.found c.run_block.new.self next ran

pub returns-else-is_next-clause-replies : goal.returns-else-is_next-clause-replies
returns-else-is_next-clause-replies g c site panel kept history ticks h room accepted =
    let block = c.args.block.now in
    let old = c.args.self.now in
    let disks = disks_of g.D.Disk.honest g.D.Disk.images g.D.Disk.moment g.D.Disk.left_since c.args.disk.now c.args.disk.now in
    let count = c.ticks-ticks.ensures site panel kept history ticks h in
    let other = ap (is_next c.args.found) (sym count) ∙ sym c.is_next.ensures ∙ c.if-is_next.false in
    let expected = ap tick_expected (sym count) ∙ sym c.expected.ensures in
    subst (λ n. HasReplied site panel kept old.node.digest history ticks block (Block c.args.found) disks old (OtherTick n c.args.found) old) expected
    (replied_other site panel kept old.node.digest history ticks block disks old h c.args.found refl other)

pub run_block-requires-clause-may : goal.run_block-requires-clause-may
run_block-requires-clause-may g c =
    let asks = c.requires.may in
    let may = asks.may in
    let next = ap (is_next c.args.found) (sym (c.ticks-ticks.ensures may.site may.panel may.kept may.history may.ticks may.runs)) ∙ sym c.is_next.ensures ∙ c.if-is_next.true in
    record {
      site = may.site;
      panel = may.panel;
      kept = may.kept;
      history = may.history;
      ticks = may.ticks;
      with = record { runs = may.runs; room = may.room; accepted = asks.accepted; short = asks.short; next = next };
    }
