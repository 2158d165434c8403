use Rattle.std.proofs.Common.{refl, sym, subst}
use Rattle.answer_lanes.specs.Blocks.{block_answer_at}
use Rattle.answer_lanes.specs.Runs.{items_of}
use Rattle.coincidence.specs.Changes.{PutsFindings}
use Rattle.coincidence.specs.Steady.{all_of_block}
use Rattle.coincidence.proofs.Steady.{left_block}
use Rattle.coincidence.proofs.decide.Decide.passes_block.Goals as goal

pub returns-then-all_rest-clause-passed : goal.returns-then-all_rest-clause-passed
returns-then-all_rest-clause-passed c is =
    let self = c.args.self.now in
    let block = c.args.block.now in
    let steady = left_block self block c.quiet_block.result c.quiet_block.ensures (c.if-all_rest.ensures refl) in
    record {
      taken = steady.taken;
      put = subst (PutsFindings self (items_of block_answer_at (all_of_block block)) c.args.findings.now) (sym c.put_run.ensures)
          (steady.put c.args.findings.now);
    }
