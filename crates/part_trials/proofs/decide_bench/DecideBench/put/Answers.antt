use Rattle.std.proofs.Common.{◌≡◌, true, subst, sym, arith}
use Rattle.std.proofs.lemmas.Grind.{common_steps}
use Rattle.tick_units.specs.Lane.{LaneState}
use Rattle.site_types.specs.declared.answer.Answer.{Answer}
use Rattle.part_trials.specs.Bench.{IsReady}
use Rattle.part_trials.proofs.Benches.{put_more}
use Rattle.part_trials.proofs.decide_bench.DecideBench.put.Goals as goal

pub returns : goal.returns
returns c =
    let bench = c.args.self.now in
    let answer = c.args.answer.now in
    let may : c.may_put.result ≡ true = grind (arith, common_steps, c.if-not-may_put.false) in
    subst (λ (l : LaneState Answer). IsReady bench.site bench.panel bench.decide l bench.findings answer.stamp.0 answer.point bench.at.0)
    (sym c.put.ensures)
    (put_more bench.site bench.panel bench.decide bench.answers bench.findings bench.stamp.0 bench.point bench.at.0 answer c.requires
    (c.may_put.ensures may))
