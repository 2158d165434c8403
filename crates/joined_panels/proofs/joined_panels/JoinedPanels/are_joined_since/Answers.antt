use Rattle.joined_panels.specs.Stands.{was_way_up}
use Rattle.joined_panels.proofs.JoinedSince.{is_first, is_second, since_either}
use Rattle.joined_panels.proofs.joined_panels.JoinedPanels.are_joined_since.Goals as goal

pub returns-then-upward : goal.returns-then-upward
returns-then-upward c site ticks stands =
    let joined = c.args.self.now in
    let one = c.args.one in
    let other = c.args.other in
    let up = was_way_up site ticks one other in
    let down = was_way_up site ticks other one in
    since_either site ticks joined stands one other c.args.first c.is_up_since-upward.result c.is_up_since-downward.result c.is_up_since-upward.result
    (is_first c.is_up_since-upward.result c.is_up_since-downward.result c.if-upward.true)
    (c.is_up_since-upward.ensures up joined.spread (c.way-up.ensures (was_way_up site ticks) joined.spread joined.latest.0 stands.ways))
    (c.is_up_since-downward.ensures down joined.spread (c.way-down.ensures (was_way_up site ticks) joined.spread joined.latest.0 stands.ways))

pub returns-else-upward : goal.returns-else-upward
returns-else-upward c site ticks stands =
    let joined = c.args.self.now in
    let one = c.args.one in
    let other = c.args.other in
    let up = was_way_up site ticks one other in
    let down = was_way_up site ticks other one in
    since_either site ticks joined stands one other c.args.first c.is_up_since-upward.result c.is_up_since-downward.result c.is_up_since-downward.result
    (is_second c.is_up_since-upward.result c.is_up_since-downward.result c.if-upward.false)
    (c.is_up_since-upward.ensures up joined.spread (c.way-up.ensures (was_way_up site ticks) joined.spread joined.latest.0 stands.ways))
    (c.is_up_since-downward.ensures down joined.spread (c.way-down.ensures (was_way_up site ticks) joined.spread joined.latest.0 stands.ways))
