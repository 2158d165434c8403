-- Which operations change what is retained.
use Rattle.std.proofs.Common.{◌≡◌, ◌==◌, ℕ, Bool, true, false, Option, Some, None, slice_get, refl}
use Rattle.std.specs.Prelude.{is_some}
use Rattle.site_types.specs.declared.item.Item.{Item}
use Rattle.site_types.specs.declared.item.Item.TheVariants.{Point as PointItem, Zone as ZoneItem, Output as OutputItem}
use Rattle.site_types.specs.declared.operation.Operation.{Operation}
use Rattle.site_types.specs.declared.operation.Operation.TheVariants.{Mute, Override, Silence, Resound, Reset, Cancel, Disable, Enable, Test, Untest, Delays, Clear}
use Rattle.site_types.specs.declared.output.Output.{Output}
use Rattle.site_types.specs.declared.point.Point.{Point}
use Rattle.site_types.specs.declared.site.Site.{Site}
use Rattle.site_types.specs.declared.zone.Zone.{Zone}
use Rattle.site_types.specs.Changes.{KeptAreChanges, item_change, operation_change, output_change, point_change, test_change, zone_change}
use Rattle.site_types.specs.Done.{is_kept_operation, operation_setting}
use Rattle.site_types.specs.Events.{has_item, has_operands, is_some_with}

point_changes : (test : Point → Bool) (off : Bool) (o : Option Point) → is_some_with test o ≡ true → true ≡ is_some (point_change o off)
point_changes test off None h = cc
point_changes test off (Some p) h = refl

zone_changes : (test : Zone → Bool) (off : Bool) (o : Option Zone) → is_some_with test o ≡ true → true ≡ is_some (zone_change o off)
zone_changes test off None h = cc
zone_changes test off (Some z) h = refl

output_changes : (test : Output → Bool) (off : Bool) (o : Option Output) → is_some_with test o ≡ true → true ≡ is_some (output_change o off)
output_changes test off None h = cc
output_changes test off (Some o) h = refl

test_changes : (test : Zone → Bool) (on : Bool) (o : Option Zone) → is_some_with test o ≡ true → true ≡ is_some (test_change o on)
test_changes test on None h = cc
test_changes test on (Some z) h = refl

item_changes : (site : Site) (panel : ℕ) (item : Item) (off : Bool) → has_item site panel item ≡ true → true ≡ is_some (item_change site item off)
item_changes site panel (PointItem place) off h = point_changes (λ p. p.panel == panel) off (slice_get site.points place) h
item_changes site panel (ZoneItem place) off h = zone_changes (λ z. z.panel == panel) off (slice_get site.zones place) h
item_changes site panel (OutputItem place) off h = output_changes (λ o. o.panel == panel) off (slice_get site.outputs place) h

changes_kept : (site : Site) (panel : ℕ) (operation : Operation) → has_operands site panel operation ≡ true
    → is_kept_operation operation ≡ is_some (operation_change site panel operation)
changes_kept site panel Mute h = refl
changes_kept site panel Override h = refl
changes_kept site panel Silence h = refl
changes_kept site panel Resound h = refl
changes_kept site panel Reset h = refl
changes_kept site panel (Cancel zone) h = refl
changes_kept site panel (Disable item) h = item_changes site panel item true h
changes_kept site panel (Enable item) h = item_changes site panel item false h
changes_kept site panel (Test zone) h = test_changes (λ z. z.panel == panel) true (slice_get site.zones zone) h
changes_kept site panel (Untest zone) h = test_changes (λ z. z.panel == panel) false (slice_get site.zones zone) h
changes_kept site panel (Delays on) h = refl
changes_kept site panel Clear h = refl

settings_kept : (panel : ℕ) (operation : Operation) → is_kept_operation operation ≡ is_some (operation_setting panel operation)
settings_kept panel Mute = refl
settings_kept panel Override = refl
settings_kept panel Silence = refl
settings_kept panel Resound = refl
settings_kept panel Reset = refl
settings_kept panel (Cancel zone) = refl
settings_kept panel (Disable item) = refl
settings_kept panel (Enable item) = refl
settings_kept panel (Test zone) = refl
settings_kept panel (Untest zone) = refl
settings_kept panel (Delays on) = refl
settings_kept panel Clear = refl

pub kept_are_changes : KeptAreChanges
kept_are_changes = record { changes = changes_kept; settings = settings_kept }
