use Rattle.std.proofs.Common.{◌≡◌, ◌+◌, ◌≤◌, ◌%◌, min, sym, ◌∙◌, ap, arith}
use Rattle.answer_lanes.specs.Blocks.{block_answer_at}
use Rattle.answer_lanes.specs.Points.{answer_at}
use Rattle.answer_lanes.specs.Runs.{items_of}
use Rattle.coincidence.proofs.Eights.{answers_at_eight}
use Rattle.coincidence.proofs.blocks.first_eight.Goals as goal

pub returns-clause-items : goal.returns-clause-items
returns-clause-items c =
    let run = c.args.run.now in
    let count = c.min.result in
    let least = c.min.ensures in
    let few : run.taken % 8 + count ≤ 8 = omega (arith, least) in
    let same : min run.count count ≡ count = omega (arith, least) in
    ap (λ first. items_of answer_at (record { first = first; taken = run.taken % 8; count = count })) c.eight.ensures
    ∙ sym (answers_at_eight run.first run.taken count few)
    ∙ ap (λ n. items_of block_answer_at (record { first = run.first; taken = run.taken; count = n })) (sym same)
