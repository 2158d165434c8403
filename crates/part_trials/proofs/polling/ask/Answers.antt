use Rattle.std.proofs.Common.{◌≤◌, subst, sym}
use Rattle.part_trials.proofs.polling.ask.Goals as goal

pub turn-requires-clause-stands : goal.turn-requires-clause-stands
turn-requires-clause-stands c =
    let r = c.requires.stands in
    record { site = c.args._site.now; panel = 1; calls = r.0; asks = r.1.asks }

pub returns : goal.returns
returns c =
    let r = c.requires.stands in
    subst (λ lane. lane.quota ≤ 32) (sym (c.turn.ensures.asked c.args._site.now 1 r.0 r.1)) c.requires.few
