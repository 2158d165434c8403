use Rattle.std.proofs.Common.{◌≤◌, arith, subst}
use Rattle.std.proofs.lemmas.Option.{slice_get-get_or}
use Rattle.panel_rules.specs.Moments.{moments}
use Rattle.due_zones.proofs.ZonesDue.{all_told, nothing_below}
use Rattle.due_zones.proofs.due_zones.due_at.Goals as goal

pub loop-place-init : goal.loop-place-init
loop-place-init c kept done ticks stands now are = nothing_below c.args.site.now kept done (moments ticks) c.args.panel

pub loop-place-preserved : goal.loop-place-preserved
loop-place-preserved c kept done ticks stands now are =
    let place = c.loop-place.place in
    let test = c.loop-place-test.true in
    let size = c.len-place-end.ensures in
    let each = c.requires.each in
    let row = slice_get-get_or c.args.signals.now place _ (omega (arith, test, size, each)) in
    c.with_due-due.ensures kept done ticks stands now (are place _ row) (c.loop-place.invariant kept done ticks stands now are)

pub returns : goal.returns
returns c kept done ticks stands now are =
    all_told c.args.site.now kept done (moments ticks) c.args.panel c.loop-place.place c.loop-place.due
    (subst (λ n. n ≤ c.loop-place.place) c.len-place-end.ensures c.loop-place-test.false) (c.loop-place.invariant kept done ticks stands now are)
