use Rattle.std.proofs.Common.{◌∙◌, length, refl, ap, arith}
use Rattle.tick_units.specs.declared.tick.Tick.{Tick}
use Rattle.panel_parts.proofs.TickDone.{read_next}
use Rattle.panel_node.proofs.Begun.{all_applied, may_apply_next, more_applied, none_applied}
use Rattle.panel_node.proofs.node.Node.apply_done.Goals as goal

pub loop-place-init : goal.loop-place-init
loop-place-init c = record {
  same = record { site = refl; plan = refl; digest = refl; panel = refl; words = refl; tick = refl; desk = refl; counts = refl };
  applied = λ site panel kept history h run. none_applied site panel kept history c.args.self.now h run;
}

pub apply-requires : goal.apply-requires
apply-requires c =
    let r = c.requires in
    let l = c.loop-place in
    let inv = l.invariant in
    may_apply_next r.site r.panel r.kept r.history c.args.self.now r.stands r.run l.place l.self.tick.0 _ l.self
    (ap (λ (t : Tick). t.0) inv.same.tick ∙ r.stands.tick)
    (read_next c.args.self.now.desk l.self.desk c.done.result.now _ l.place _ inv.same.desk c.done.ensures c.done-place-end.ensures c.loop-place-test.true)
    (inv.applied r.site r.panel r.kept r.history r.stands r.run)

pub loop-place-preserved : goal.loop-place-preserved
loop-place-preserved c =
    let l = c.loop-place in
    let inv = l.invariant in
    let is =
    read_next c.args.self.now.desk l.self.desk c.done.result.now _ l.place _ inv.same.desk c.done.ensures c.done-place-end.ensures c.loop-place-test.true in
    let same = c.apply.ensures.same in
    record {
      same = record {
        site = same.site ∙ inv.same.site;
        plan = same.plan ∙ inv.same.plan;
        digest = same.digest ∙ inv.same.digest;
        panel = same.panel ∙ inv.same.panel;
        words = same.words ∙ inv.same.words;
        tick = same.tick ∙ inv.same.tick;
        desk = same.desk ∙ inv.same.desk;
        counts = same.counts ∙ inv.same.counts;
      };
      applied = λ site panel kept history h run.
          more_applied site panel kept history c.args.self.now h run l.place l.self.tick.0 _ l.self (ap (λ (t : Tick). t.0) inv.same.tick ∙ h.tick) is
          (inv.applied site panel kept history h run) c.apply.new.self c.apply.ensures.applied;
    }

pub returns-clause-applied : goal.returns-clause-applied
returns-clause-applied c site panel kept history h run =
    let test = c.loop-place-test.false in
    let count = ap length c.done-place-end.ensures in
    all_applied site panel kept history c.args.self.now h run c.loop-place.place c.loop-place.self (omega (arith, test, count))
    (c.loop-place.invariant.applied site panel kept history h run)
