-- The laws on lanes, over every order of turns.
use Rattle.std.proofs.Common.{◌∷◌, arith}
use Rattle.tick_units.specs.declared.task.Task.TheVariants.{Poll, Decide, Hold}
use Rattle.panel_rules.specs.Moments.{moments}
use Rattle.panel_rules.specs.Lanes.{LanesHoldFew, LanesKeepTheirTick, TakenByTheNextTick}
use Rattle.panel_rules.proofs.Counts.{answers_lie, findings_lie, lies_few}
use Rattle.panel_rules.proofs.Ticks.{tick_begins, answers_since, findings_since}

pub hold_few : LanesHoldFew
hold_few site panels panel before p run =
    let a = lies_few _ _ _ _ _ (answers_lie site panels panel before p run) in
    let f = lies_few _ _ _ _ _ (findings_lie site panels panel before p run) in
    (omega (arith, a), omega (arith, f))

pub keep_their_tick : LanesKeepTheirTick
keep_their_tick site panels panel before p run all =
    let a = answers_lie site panels panel before p run in
    let f = findings_lie site panels panel before p run in
    let al = rw (all.each panel Decide p tt) at a.lies in
    let af = rw (all.each panel Poll p tt) at a.few in
    let fl = rw (all.each panel Hold p tt) at f.lies in
    let ff = rw (all.each panel Decide p tt) at f.few in
    (omega (arith, al), omega (arith, af), omega (arith, fl), omega (arith, ff))

pub by_the_next_tick : TakenByTheNextTick
by_the_next_tick site panels panel tick ticks p run all =
    let m = moments (tick ∷ ticks) in
    let a = answers_lie site panels panel m p run in
    let f = findings_lie site panels panel m p run in
    let al = rw (all.each panel Decide p tt) at a.lies in
    let fl = rw (all.each panel Hold p tt) at f.lies in
    let since = rw (tick_begins tick ticks) at (answers_since site panel m) in
    let found = rw (tick_begins tick ticks) at (findings_since site panel m) in
    (omega (arith, al, since), omega (arith, fl, found))
