use Rattle.std.proofs.Common.{◌∙◌, length, refl, ap, arith}
use Rattle.tick_units.specs.declared.tick.Tick.{Tick}
use Rattle.panel_parts.proofs.TickDone.{read_next}
use Rattle.panel_core.proofs.Begun.{all_applied, may_apply_next, more_applied, none_applied}
use Rattle.panel_core.proofs.system.System.apply_done.Goals as goal

pub loop-place-init : goal.loop-place-init
loop-place-init c = record {
  same = record { desk = refl; tick = refl; counts = refl; plan = refl; ring = refl };
  applied = λ site kept before h run. none_applied site kept before c.args.self.now h run;
}

pub apply-requires : goal.apply-requires
apply-requires c =
    let r = c.requires in
    let l = c.loop-place in
    let same = l.invariant.same in
    may_apply_next r.site r.kept r.before c.args.self.now r.stands r.run l.place l.self.tick.0 _ l.self (ap (λ (t : Tick). t.0) same.tick ∙ r.stands.tick)
    (read_next c.args.self.now.desk l.self.desk c.done.result.now _ l.place _ same.desk c.done.ensures c.done-place-end.ensures c.loop-place-test.true)
    (l.invariant.applied r.site r.kept r.before r.stands r.run)

pub loop-place-preserved : goal.loop-place-preserved
loop-place-preserved c =
    let l = c.loop-place in
    let same = l.invariant.same in
    let is =
    read_next c.args.self.now.desk l.self.desk c.done.result.now _ l.place _ same.desk c.done.ensures c.done-place-end.ensures c.loop-place-test.true in
    record {
      same = record {
        desk = c.apply.ensures.same.desk ∙ same.desk;
        tick = c.apply.ensures.same.tick ∙ same.tick;
        counts = c.apply.ensures.same.counts ∙ same.counts;
        plan = c.apply.ensures.same.plan ∙ same.plan;
        ring = c.apply.ensures.same.ring ∙ same.ring;
      };
      applied = λ site kept before h run.
          more_applied site kept before c.args.self.now h run l.place l.self.tick.0 _ l.self (ap (λ (t : Tick). t.0) same.tick ∙ h.tick) is
          (l.invariant.applied site kept before h run) c.apply.new.self c.apply.ensures.applied;
    }

pub returns-clause-applied : goal.returns-clause-applied
returns-clause-applied c site kept before h run =
    let test = c.loop-place-test.false in
    let count = ap length c.done-place-end.ensures in
    all_applied site kept before c.args.self.now h run c.loop-place.place c.loop-place.self (omega (arith, test, count))
    (c.loop-place.invariant.applied site kept before h run)
