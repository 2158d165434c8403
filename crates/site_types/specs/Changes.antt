-- What a change makes of what is retained, and the change that an operation makes.
use Rattle.std.specs.Prelude.{◌≡◌, ◌<◌, length, replicate, ℕ, ◌+◌, ◌-◌, ◌≤◌, min, Bool, true, false, not, List, []}
use Rattle.std.specs.Prelude.{◌∷◌, Option, Some, None, is_some, slice_get, slice_index, slice_index_or, slice_set}
use Rattle.std.specs.Int.{w8, w32}
use Rattle.site_types.specs.declared.site.Site.{Site}
use Rattle.site_types.specs.declared.point.Point.{Point as PointPlan}
use Rattle.site_types.specs.declared.zone.Zone.{Zone as ZonePlan}
use Rattle.site_types.specs.declared.output.Output.{Output as OutputPlan}
use Rattle.site_types.specs.declared.retained.Retained.{Retained}
use Rattle.site_types.specs.declared.change.Change.{Change}
use Rattle.site_types.specs.declared.change.Change.TheVariants.{Point, Zone, Output, Delays, Count, Clear, Test}
use Rattle.site_types.specs.declared.item.Item.{Item}
use Rattle.site_types.specs.declared.item.Item.TheVariants.{Point as PointItem, Zone as ZoneItem, Output as OutputItem}
use Rattle.site_types.specs.declared.operation.Operation.{Operation}
use Rattle.site_types.specs.declared.operation.Operation.TheVariants.{Disable, Enable, Test as SetTest, Untest}
use Rattle.site_types.specs.declared.operation.Operation.TheVariants.{Delays as SetDelays, Clear as ClearCounter}
use Rattle.site_types.specs.Bits.{IsPlace, with_bit, with_point}
use Rattle.site_types.specs.Done.{is_kept_operation, no_points, operation_setting}
use Rattle.site_types.specs.Events.{has_operands}
use Rattle.site_types.specs.Limits.{greatest_count}

-- a panel that has a place in what is retained
abbrev pub IsPanelNumber : ℕ → Type 0
IsPanelNumber panel = (1 ≤ panel) × (panel ≤ 8)

-- the number of a zone or an output at its panel
abbrev pub IsNumber : ℕ → Type 0
IsNumber number = (1 ≤ number) × (number ≤ 32)

-- what a change names has a place in what is retained
abbrev pub CanApply : Change → Type 0
CanApply (Point panel line address off) = IsPanelNumber panel × IsPlace line address
CanApply (Zone panel number off) = IsPanelNumber panel × IsNumber number
CanApply (Output panel number off) = IsPanelNumber panel × IsNumber number
CanApply (Delays panel off) = IsPanelNumber panel
CanApply (Count panel entries) = IsPanelNumber panel
CanApply (Clear panel) = IsPanelNumber panel
CanApply (Test panel number on) = IsPanelNumber panel × IsNumber number

-- of masks by panel, the one of a panel with the bit of a number set or cleared
abbrev pub with_number : List ℕ → ℕ → ℕ → Bool → List ℕ
with_number masks panel number on =
    slice_set masks (panel - 1) (with_bit w32 (slice_index masks (panel - 1)) (number - 1) on)

-- what a change makes of what is retained
abbrev pub changed : Change → Retained → Retained
changed (Point panel line address off) kept =
    record kept {
      points =
          slice_set kept.points (panel - 1) (with_point (slice_index_or kept.points (panel - 1) no_points) line
          address off);
    }
changed (Zone panel number off) kept = record kept { zones = with_number kept.zones panel number off }
changed (Output panel number off) kept = record kept { outputs = with_number kept.outputs panel number off }
changed (Delays panel off) kept = record kept { delays_off = with_bit w8 kept.delays_off (panel - 1) off }
changed (Count panel entries) kept =
    record kept {
      counters =
          slice_set kept.counters (panel - 1)
          (min (slice_index kept.counters (panel - 1) + entries) greatest_count);
    }
changed (Clear panel) kept = record kept { counters = slice_set kept.counters (panel - 1) 0 }
changed (Test panel number on) kept = record kept { tests = with_number kept.tests panel number on }

-- nothing disabled or in test, delays on, counters 0
abbrev pub nothing_retained : Retained
nothing_retained = record {
  points = replicate 8 (record { loops = replicate 4 (replicate 2 0) });
  zones = replicate 8 0;
  outputs = replicate 8 0;
  delays_off = 0;
  counters = replicate 8 0;
  tests = replicate 8 0;
}

-- what a list of changes makes of it, the first change first
abbrev pub changed_by : List Change → Retained → Retained
changed_by [] kept = kept
changed_by (change ∷ rest) kept = changed_by rest (changed change kept)

abbrev pub point_change : Option PointPlan → Bool → Option Change
point_change None off = None
point_change (Some p) off = Some (Point p.panel p.line p.address off)

abbrev pub zone_change : Option ZonePlan → Bool → Option Change
zone_change None off = None
zone_change (Some z) off = Some (Zone z.panel z.number off)

abbrev pub output_change : Option OutputPlan → Bool → Option Change
output_change None off = None
output_change (Some o) off = Some (Output o.panel o.number off)

abbrev pub test_change : Option ZonePlan → Bool → Option Change
test_change None on = None
test_change (Some z) on = Some (Test z.panel z.number on)

abbrev pub item_change : Site → Item → Bool → Option Change
item_change site (PointItem point) off = point_change (slice_get site.points point) off
item_change site (ZoneItem zone) off = zone_change (slice_get site.zones zone) off
item_change site (OutputItem output) off = output_change (slice_get site.outputs output) off

-- the change that an operation at a panel makes: none where it is not kept, or the site has not what it names
abbrev pub operation_change : Site → ℕ → Operation → Option Change
operation_change site panel (Disable item) = item_change site item true
operation_change site panel (Enable item) = item_change site item false
operation_change site panel (SetTest zone) = test_change (slice_get site.zones zone) true
operation_change site panel (Untest zone) = test_change (slice_get site.zones zone) false
operation_change site panel (SetDelays on) = Some (Delays panel (not on))
operation_change site panel ClearCounter = Some (Clear panel)
operation_change site panel _ = None

-- what is kept over a power cut: an operation of a panel changes what is retained, and is on a setting,
-- exactly where it is one of those that are kept
pub record KeptAreChanges : Type 0 where
  pub changes : (site : Site) (panel : ℕ) (operation : Operation) → has_operands site panel operation ≡ true
      → is_kept_operation operation ≡ is_some (operation_change site panel operation)
  pub settings : (panel : ℕ) (operation : Operation)
      → is_kept_operation operation ≡ is_some (operation_setting panel operation)

-- each list of what is retained is as long as in the data
pub record IsSized (kept : Retained) : Type 0 where
  pub points : length kept.points ≡ 8
  pub loops : (k : ℕ) → k < 8 → length (slice_index_or kept.points k no_points).loops ≡ 4
  pub halves : (k l : ℕ) → k < 8 → l < 4
      → length (slice_index_or (slice_index_or kept.points k no_points).loops l []) ≡ 2
  pub zones : length kept.zones ≡ 8
  pub outputs : length kept.outputs ≡ 8
  pub counters : length kept.counters ≡ 8
  pub tests : length kept.tests ≡ 8

-- no counter is past its end
abbrev pub AreCounters : List ℕ → Type 0
AreCounters counters = (k : ℕ) → slice_index counters k ≤ greatest_count

-- each point, zone and output of a site has a place of its own in what is retained
pub record HasOwnPlaces (site : Site) : Type 0 where
  pub point : (i : ℕ) (p : PointPlan) → slice_get site.points i ≡ Some p
      → IsPanelNumber p.panel × IsPlace p.line p.address
  pub zone : (i : ℕ) (z : ZonePlan) → slice_get site.zones i ≡ Some z
      → IsPanelNumber z.panel × IsNumber z.number
  pub output : (i : ℕ) (o : OutputPlan) → slice_get site.outputs i ≡ Some o
      → IsPanelNumber o.panel × IsNumber o.number
  pub points_apart : (i j : ℕ) (p q : PointPlan) → slice_get site.points i ≡ Some p
      → slice_get site.points j ≡ Some q → p.panel ≡ q.panel → p.line ≡ q.line → p.address ≡ q.address → i ≡ j
  pub zones_apart : (i j : ℕ) (y z : ZonePlan) → slice_get site.zones i ≡ Some y
      → slice_get site.zones j ≡ Some z → y.panel ≡ z.panel → y.number ≡ z.number → i ≡ j
  pub outputs_apart : (i j : ℕ) (n o : OutputPlan) → slice_get site.outputs i ≡ Some n
      → slice_get site.outputs j ≡ Some o → n.panel ≡ o.panel → n.number ≡ o.number → i ≡ j
