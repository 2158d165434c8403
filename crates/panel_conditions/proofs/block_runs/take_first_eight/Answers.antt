use Rattle.std.proofs.Common.{◌∙◌, ap, sym, subst}
use Rattle.answer_lanes.specs.Blocks.{eight_found}
use Rattle.answer_lanes.specs.Points.{finding_at}
use Rattle.answer_lanes.specs.Runs.{items_of}
use Rattle.answer_lanes.proofs.Blocks.{findings_of_first, findings_of_group}
use Rattle.panel_conditions.specs.Changes.{BothTake}
use Rattle.panel_conditions.proofs.block_runs.take_first_eight.Goals as goal

pub returns : goal.returns
returns c =
    let run = c.args.run.now in
    subst (λ found. BothTake found c.args.points.now c.take_narrow.new.points c.args.zones.now c.take_narrow.new.zones)
    (ap (λ eight. items_of finding_at (record { first = eight.group; taken = run.taken; count = run.count })) c.eight.ensures
    ∙ sym (findings_of_group (eight_found run.first 0) run.taken run.count c.requires.own)
    ∙ sym (findings_of_first run c.requires.within)) c.take_narrow.ensures
