use Rattle.std.proofs.Common.{◌≤◌, sym, subst, arith}
use Rattle.panel_rules.specs.Moments.{moments}
use Rattle.joined_panels.specs.Latest.{IsLatestTick}
use Rattle.joined_panels.specs.Stands.{was_way_up}
use Rattle.joined_panels.specs.Windows.{IsWindow}
use Rattle.joined_panels.proofs.JoinedSince.{latest_of_both}
use Rattle.joined_panels.proofs.joined_panels.JoinedPanels.latest_window.Goals as goal

pub returns : goal.returns
returns c site ticks stands =
    let joined = c.args.self.now in
    let one = c.args.one in
    let other = c.args.other in
    let now = joined.latest.0 in
    let some = subst (λ n. 1 ≤ n) stands.panels joined.links.some in
    let up = was_way_up site ticks one other in
    let down = was_way_up site ticks other one in
    subst (IsLatestTick (IsWindow site (moments ticks) one other)) (sym c.later_of.ensures)
    (latest_of_both site ticks one other joined.spread now some stands.spread joined.some stands.now c.latest_window-upward.result
    c.latest_window-downward.result
    (c.latest_window-upward.ensures up now (c.way-up.ensures (was_way_up site ticks) joined.spread now stands.ways) (omega arith) (omega arith))
    (c.latest_window-downward.ensures down now (c.way-down.ensures (was_way_up site ticks) joined.spread now stands.ways) (omega arith) (omega arith)))
