use Rattle.std.proofs.Common.{◌≡◌, ◌∙◌, ◌≤◌, true, Some, slice_get, sym, arith}
use Rattle.panel_rules.proofs.Floors.{le_from, le_to}
use Rattle.coincidence_rules.specs.Places.{is_detector}
use Rattle.zone_signals.proofs.HeldRounds.{none_positive, of_through, run_at, through_of}
use Rattle.zone_signals.proofs.rounds.signals_since.Goals as goal

pub returns-then-run-gt0 : goal.returns-then-run-gt0
returns-then-run-gt0 c within one past kept done moments runs =
    let detects : is_detector c.args.site.now c.args.place ≡ true = sym (c.fits.ensures within) ∙ c.if-not-fits.false in
    let run = c.in-Some.run'.now in
    let at : slice_get c.args.runs.now c.args.place ≡ Some run =
    run_at c.args.runs.now c.args.place run (let whole = runs.whole in omega (arith, whole, within)) c.in-Some.ensures.lookup.1 in
    let stands = runs.each c.args.place run at in
    let some : 1 ≤ run.since = omega arith in (
      λ by. record {
        detects = detects;
        through = through_of c.args.site.now kept done moments runs.signals runs.tells c.args.place c.args.now c.args.first run runs.begun stands some
            (le_from run.since c.args.first by);
      },
      λ is. le_to run.since c.args.first
          (of_through c.args.site.now kept done moments runs.signals runs.tells c.args.place c.args.now c.args.first run one past stands is.through).1,
    )

pub returns-else-run-gt0 : goal.returns-else-run-gt0
returns-else-run-gt0 c within one past kept done moments runs =
    let run = c.in-Some.run'.now in
    let at : slice_get c.args.runs.now c.args.place ≡ Some run =
    run_at c.args.runs.now c.args.place run (let whole = runs.whole in omega (arith, whole, within)) c.in-Some.ensures.lookup.1 in
    let stands = runs.each c.args.place run at in
    let none : run.since ≤ 0 = omega arith in (
      λ some. absurd (none_positive run.since none some),
      λ is. absurd
          (let since = (of_through c.args.site.now kept done moments runs.signals runs.tells c.args.place c.args.now c.args.first run one past stands is.through).0 in
          omega (arith, since, none)),
    )
