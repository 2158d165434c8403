use Rattle.std.proofs.Common.{◌≡◌, true, arith}
use Rattle.std.proofs.lemmas.Grind.{common_steps}
use Rattle.part_trials.proofs.Benches.{can_apply, may_apply, applied}
use Rattle.part_trials.proofs.decide_bench.DecideBench.apply.Goals as goal

pub apply-requires : goal.apply-requires
apply-requires c =
    let bench = c.args.self.now in
    let may : c.may_apply.result ≡ true = grind (arith, common_steps, c.if-not-may_apply.false) in
    can_apply bench.site bench.panel bench.decide bench.answers bench.findings bench.stamp.0 bench.point bench.at.0 c.args.operation.now c.args.at.0
    c.requires (c.may_apply.ensures may)

pub returns : goal.returns
returns c =
    let bench = c.args.self.now in
    let h = c.requires in
    let may : c.may_apply.result ≡ true = grind (arith, common_steps, c.if-not-may_apply.false) in
    let does = c.may_apply.ensures may in
    let can = may_apply bench.site bench.panel bench.decide bench.answers bench.findings bench.stamp.0 bench.point bench.at.0 c.args.operation.now
    c.args.at.0 h does in
    applied bench.site bench.panel bench.decide c.apply.new.self bench.answers bench.findings bench.stamp.0 bench.point bench.at.0
    c.args.operation.now c.args.at.0 h does (c.apply.ensures bench.site h.kept bench.panel h.done h.taken h.stands can)
