use Rattle.std.proofs.Common.{◌≡◌, rules, arith}
use Rattle.marker_table.proofs.Joining.{joined_all, joined_more, joined_none}
use Rattle.marker_table.proofs.values.Values.join.Goals as goal

pub loop-place-init : goal.loop-place-init
loop-place-init c = joined_none c.args.self.now.words c.args.other.now.words (search rules)

pub loop-place-preserved : goal.loop-place-preserved
loop-place-preserved c = joined_more c.loop-place.place c.args.self.now.words c.args.other.now.words c.loop-place.self.words c.loop-place-test.true c.loop-place.invariant

pub returns : goal.returns
returns c marker =
    let last = c.loop-place-test.false in
    let most = c.loop-place.auto.place-end in
    let whole : c.loop-place.place ≡ 8 = omega (arith, last, most) in
    joined_all c.loop-place.place c.args.self.now.words c.args.other.now.words c.loop-place.self.words (search rules) whole c.loop-place.invariant marker
