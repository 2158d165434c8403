use Rattle.std.proofs.Common.{◌≡◌, ◌∙◌, Some, slice_get, ap, arith}
use Rattle.site_types.specs.Profile.{round_of}
use Rattle.zone_signals.proofs.HeldRounds.{last_run, run_at}
use Rattle.zone_signals.proofs.rounds.last_held.Goals as goal

pub returns-in-Some : goal.returns-in-Some
returns-in-Some c kept done moments runs within =
    let at : slice_get c.args.runs.now c.args.place ≡ Some c.in-Some.run'.now =
    run_at c.args.runs.now c.args.place c.in-Some.run'.now (let whole = runs.whole in omega (arith, whole, within)) c.in-Some.ensures.lookup.1 in
    last_run c.args.site.now kept done moments c.args.now c.round.result c.saturating_sub.result c.held_at.result c.args.runs.now c.args.place
    c.in-Some.run'.now runs at (c.round.ensures ∙ ap round_of c.profile.ensures) c.saturating_sub.ensures c.held_at.ensures.last
