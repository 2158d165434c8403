use Rattle.std.proofs.Common.{sym, subst}
use Rattle.answer_lanes.specs.Blocks.{block_answer_at}
use Rattle.answer_lanes.specs.Runs.{items_of}
use Rattle.coincidence.specs.Changes.{PutsFindings}
use Rattle.coincidence.specs.Steady.{all_of_block}
use Rattle.coincidence.proofs.BlockWords.{all_left_in}
use Rattle.coincidence.proofs.Steady.{left_block}
use Rattle.coincidence.proofs.ZoneMasks.{going_block, known_plain}
use Rattle.coincidence.proofs.decide.Decide.passes_heard.Goals as goal

pub returns-then-changing-eq0-clause-passed : goal.returns-then-changing-eq0-clause-passed
returns-then-changing-eq0-clause-passed c is =
    let self = c.args.self.now in
    let block = c.args.block.now in
    let steady = left_block self block c.plain_block.result c.plain_block.ensures
    (all_left_in self block c.still_in-changing.result c.still_in-changing.type_inv c.still_in-changing.ensures c.if-changing-eq0.true) in
    record {
      taken = steady.taken;
      put = subst (PutsFindings self (items_of block_answer_at (all_of_block block)) c.args.findings.now) (sym c.put_run.ensures)
          (steady.put c.args.findings.now);
    }

pub telling_block-requires : goal.telling_block-requires
telling_block-requires c =
    let can = c.requires.can.may in
    known_plain c.args.self.now c.args.block.now.firsts c.in-Some.zones.now c.in-Some.ensures can.site can.kept can.panel can.done can.taken can.stands

pub returns-clause-passed : goal.returns-clause-passed
returns-clause-passed c is =
    let self = c.args.self.now in
    let block = c.args.block.now in
    let steady = going_block self block c.requires.numbers c.in-Some.zones.now c.in-Some.ensures c.still_in-changing.result c.still_in-changing.type_inv c.still_in-changing.ensures
    (c.all_go_on_in.ensures c.if-not-all_go_on_in.false) c.telling_block.result c.telling_block.ensures in
    record {
      taken = steady.taken;
      put = subst (PutsFindings self (items_of block_answer_at (all_of_block block)) c.args.findings.now) (sym c.put_run-2.ensures)
          (steady.put c.args.findings.now);
    }
