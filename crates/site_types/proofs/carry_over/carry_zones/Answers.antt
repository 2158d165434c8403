use Rattle.std.proofs.Common.{true, sym, ◌∙◌}
use Rattle.site_types.specs.declared.zone.Zone.{Zone as ZonePlan}
use Rattle.site_types.specs.declared.change.Change.TheVariants.{Zone}
use Rattle.site_types.specs.Carry.{zone_was_off}
use Rattle.site_types.proofs.Carried.{carried_on, carried_off}
use Rattle.site_types.proofs.carry_over.carry_zones.Goals as goal
use Rattle.site_types.proofs.carry_over.carry_zones.Goals.{then-was_restricted, else-was_restricted}

pub loop-zone-preserved : goal.loop-zone-preserved
loop-zone-preserved c =
    elim c.if-was_restricted.branch [
      | then-was_restricted w ↦
          w.kept-is
          ∙ carried_on (λ (x : ZonePlan). Zone x.panel x.number true) (λ (x : ZonePlan). zone_was_off c.args.old.now c.args.state.now x.name.bytes)
          c.as_slice-zone-items.result.now c.args.new.now.zones c.loop-zone.zone-index c.zone-item.result c.args.kept.now c.loop-zone.kept
          w.apply.new.self
          c.as_slice-zone-items.ensures c.loop-zone-test.true c.zone-item.is (sym c.was_restricted.ensures ∙ w.if-was_restricted.true) c.loop-zone.invariant
          w.apply.ensures
      | else-was_restricted w ↦
          w.kept-is
          ∙ carried_off (λ (x : ZonePlan). Zone x.panel x.number true) (λ (x : ZonePlan). zone_was_off c.args.old.now c.args.state.now x.name.bytes)
          c.as_slice-zone-items.result.now c.args.new.now.zones c.loop-zone.zone-index c.zone-item.result c.args.kept.now c.loop-zone.kept
          c.as_slice-zone-items.ensures c.loop-zone-test.true c.zone-item.is (sym c.was_restricted.ensures ∙ w.if-was_restricted.false)
          c.loop-zone.invariant
    ]
