use Rattle.std.proofs.Common.{◌∙◌, ap}
use Rattle.coincidence_rules.specs.Kept.{after as after_tick}
use Rattle.coincidence.proofs.Judged.{second_is}
use Rattle.coincidence.proofs.decide.Decide.second.Goals as goal

pub returns : goal.returns
returns c site kept panel done taken stands by' plan is at floor =
    c.after.ensures ∙ ap (after_tick c.bar.result.0) c.besides.ensures
    ∙ second_is stands c.args.zone plan c.args.answer.now by' is at c.index-watch.result.now c.index-watch.ensures c.args.floor.0 c.bar.result.0 floor
    c.bar.ensures
