use Rattle.std.proofs.Common.{[], ◌∷◌, arith, subst, sym}
use Rattle.answer_lanes.specs.Blocks.{block_finding_at}
use Rattle.answer_lanes.specs.Runs.{items_of}
use Rattle.panel_conditions.specs.Changes.{TellSame}
use Rattle.panel_conditions.specs.Parts.{told_finding, plain_told}
use Rattle.panel_conditions.specs.Told.{block_run}
use Rattle.panel_conditions.proofs.PlainBlocks.{block_of_none, block_same}
use Rattle.panel_conditions.proofs.zones.Zones.take_block.Goals as goal

pub returns-then-first-second-eq0 : goal.returns-then-first-second-eq0
returns-then-first-second-eq0 c = block_of_none c.args.block.now c.args.self.now c.if-first-second-eq0.true

pub returns-in-Some : goal.returns-in-Some
returns-in-Some c =
    let block = c.args.block.now in
    let items = items_of block_finding_at (block_run block) in
    c.take_plainly.ensures items
    (subst (λ zones. TellSame (told_finding block.stamp (plain_told zones) ∷ []) items) (sym c.in-Some.ensures.plain.1)
    (block_same block c.in-Some.ensures.plain.0 (omega arith) (omega arith) (omega arith) (omega arith)))
