use Rattle.std.proofs.Common.{◌≡◌, arith, refl, subst}
use Rattle.panel_drill.specs.Running.{IsAfter}
use Rattle.panel_drill.proofs.drills.run.Goals as goal

pub run_tick-requires : goal.run_tick-requires
run_tick-requires c =
    let r = c.requires.may in
    let few = c.requires.few in
    let test = c.loop-before-test.true in
    record {
      site = r.site;
      seed = r.seed;
      ticks = c.loop-before.before;
      is_at = c.loop-before.invariant r.site r.seed r.is_at;
      few = omega (arith, few, test);
      next = refl;
    }

pub loop-before-preserved : goal.loop-before-preserved
loop-before-preserved c site seed at =
    let few = c.requires.few in
    let test = c.loop-before-test.true in
    c.run_tick.ensures site seed c.loop-before.before (c.loop-before.invariant site seed at) (omega (arith, few, test)) refl

pub returns : goal.returns
returns c site seed at =
    let end = c.loop-before.auto.before-end in
    let test = c.loop-before-test.false in
    let all : c.loop-before.before ≡ c.args.ticks = omega (arith, end, test) in
    subst (λ n. IsAfter site seed n c.loop-before.running) all (c.loop-before.invariant site seed at)
