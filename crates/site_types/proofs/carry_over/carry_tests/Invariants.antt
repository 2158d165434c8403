use Rattle.std.proofs.Common.{◌≡◌, true, take, map}
use Rattle.std.specs.List.{filter}
use Rattle.site_types.specs.declared.zone.Zone.{Zone as ZonePlan}
use Rattle.site_types.specs.declared.change.Change.TheVariants.{Test}
use Rattle.site_types.specs.Carry.{zone_was_tested}
use Rattle.site_types.specs.Changes.{changed_by}
use Rattle.site_types.proofs.carry_over.carry_tests.Given as goal

abbrev pub invariant-loop-zone : goal.invariant-loop-zone
invariant-loop-zone l =
    l.kept
    ≡ changed_by
    (map (λ (x : ZonePlan). Test x.panel x.number true)
    (filter (λ (x : ZonePlan). zone_was_tested l.old l.state x.name.bytes) (take l.zone-index l.new.zones))) l.initial.kept
