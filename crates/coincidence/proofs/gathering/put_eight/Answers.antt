use Rattle.std.proofs.Common.{refl, ◌∙◌, ap}
use Rattle.answer_lanes.specs.Blocks.{eight_finding_at, eight_of_group}
use Rattle.answer_lanes.specs.Runs.{items_of}
use Rattle.answer_lanes.proofs.Blocks.{findings_of_first, findings_of_group}
use Rattle.tick_units.specs.Lane.{with_put}
use Rattle.coincidence.proofs.gathering.put_eight.Goals as goal

pub returns : goal.returns
returns c =
    let run = c.args.run in
    c.put_run.ensures
    ∙ ap (with_put c.args.findings.now) (findings_of_first (record { first = c.from.result; taken = run.taken; count = run.count }) c.requires.eight
    ∙ ap (λ first. items_of eight_finding_at (record { first = first; taken = run.taken; count = run.count })) c.from.ensures.first
    ∙ findings_of_group (eight_of_group run.first) run.taken run.count refl)
