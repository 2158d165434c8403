use Rattle.std.proofs.Common.{sym, subst}
use Rattle.answer_lanes.specs.Blocks.{block_finding_at}
use Rattle.answer_lanes.specs.Runs.{items_of}
use Rattle.panel_conditions.specs.Changes.{BothTake}
use Rattle.panel_conditions.proofs.block_runs.take_run.Goals as goal

pub returns-then-run-eq32 : goal.returns-then-run-eq32
returns-then-run-eq32 c =
    let run = c.args.run.now in
    let block = c.take_block-then-run-eq32 in
    subst (λ taken. BothTake (items_of block_finding_at (record { first = run.first; taken = taken; count = run.count })) c.args.points.now
    c.take_block.new.self c.args.zones.now block.new.self) (sym c.if-run-eq0.true)
    (subst (λ count. BothTake (items_of block_finding_at (record { first = run.first; taken = 0; count = count })) c.args.points.now
    c.take_block.new.self c.args.zones.now block.new.self) (sym c.if-run-eq32.true)
    (record { points = c.take_block.ensures; zones = block.ensures }))
