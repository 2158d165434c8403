use Rattle.std.proofs.Common.{◌∙◌, ap, max}
use Rattle.tick_units.specs.LastTicks.{last_at}
use Rattle.coincidence.proofs.Judged.{floor_is}
use Rattle.coincidence.proofs.decide.Decide.floor_of.Goals as goal

pub returns : goal.returns
returns c zone read site kept panel done taken stands by' plan is at =
    let x = c.args.x.0 in
    c.max.ensures
    ∙ ap (λ n. max n c.before-3.result.0) c.before-2.ensures
    ∙ ap (λ n. max (last_at x c.args.self.now.reset) n) c.before-3.ensures
    ∙ floor_is stands x zone plan by' is at c.args.zone.now read
