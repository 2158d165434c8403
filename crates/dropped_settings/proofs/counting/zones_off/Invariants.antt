use Rattle.std.proofs.Common.{◌≡◌, ◌≤◌, Some, take}
use Rattle.std.specs.Prelude.{count_by}
use Rattle.site_types.specs.declared.zone.Zone.{Zone}
use Rattle.site_types.specs.Done.{kept_zone}
use Rattle.dropped_settings.proofs.counting.zones_off.Given as goal

abbrev pub invariant-loop-zone : goal.invariant-loop-zone
invariant-loop-zone l = record {
  counted : l.count ≡ count_by (λ (x : Zone). kept_zone l.kept (Some x)) (take l.zone-index l.site.zones);
  few : l.count ≤ l.zone-index;
}
