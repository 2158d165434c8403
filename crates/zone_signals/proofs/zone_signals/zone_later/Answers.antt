use Rattle.std.proofs.Common.{◌+◌, ◌<◌, ap, arith, subst, sym}
use Rattle.site_types.specs.Done.{floor_before}
use Rattle.coincidence_rules.specs.Places.{partner_of}
use Rattle.zone_signals.specs.Marks.{HasNoMark}
use Rattle.zone_signals.proofs.Marking.{stays_calm}
use Rattle.zone_signals.proofs.TicksOn.{none_ended}
use Rattle.zone_signals.proofs.zone_signals.zone_later.Goals as goal

pub returns-then-floor-saturating_sub : goal.returns-then-floor-saturating_sub
returns-then-floor-saturating_sub c within kept done moments known rows marked stands =
    let is = c.floor_of-floor.ensures c.args.known.now.site.now done c.args.known.now.tick rows within in
    let before = c.saturating_sub.ensures in
    let late = c.if-floor-saturating_sub.true in
    none_ended c.args.known.now.site.now kept done moments c.args.zone c.args.known.now.tick known.told.some (omega (arith, is, before, late))

pub returns-then-not-has_mark : goal.returns-then-not-has_mark
returns-then-not-has_mark c within kept done moments known rows marked stands =
    let is = c.floor_of-floor.ensures c.args.known.now.site.now done c.args.known.now.tick rows within in
    let before = c.saturating_sub.ensures in
    let early = c.if-floor-saturating_sub.false in
    let calm : floor_before c.args.known.now.site.now c.args.zone c.args.known.now.tick done + 1 < c.args.known.now.tick = omega (arith, is, before, early) in
    stays_calm c.args.known.now.site.now kept done moments c.args.known.now.tick c.args.known.now.runs.now c.args.marks.now c.args.zone known.told marked
    (subst (HasNoMark c.args.marks.now c.args.zone) (ap partner_of c.in-Some.ensures) (c.has_mark.ensures c.if-not-has_mark.true)) known.told.begun calm
    c.args.settled stands

pub returns-else-not-has_mark : goal.returns-else-not-has_mark
returns-else-not-has_mark c within kept done moments known rows marked stands =
    let is = c.floor_of-floor.ensures c.args.known.now.site.now done c.args.known.now.tick rows within in
    let before = c.saturating_sub.ensures in
    let early = c.if-floor-saturating_sub.false in
    let calm : floor_before c.args.known.now.site.now c.args.zone c.args.known.now.tick done + 1 < c.args.known.now.tick = omega (arith, is, before, early) in
    c.after_tick.ensures (sym c.in-Some.ensures) kept done moments known rows calm stands
