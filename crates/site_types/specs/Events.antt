-- Whether a site has all that an event names, at the panel that it names.
use Rattle.std.specs.Prelude.{◌&&◌, ◌==◌, ℕ, Bool, true, false, nat_le, nat_lt, length, Option, Some, None, slice_get}
use Rattle.std.specs.List.{list_any}
use Rattle.site_types.specs.declared.site.Site.{Site}
use Rattle.site_types.specs.declared.loop_plan.LoopPlan.{LoopPlan}
use Rattle.site_types.specs.declared.zone.Zone.{Zone as ZonePlan}
use Rattle.site_types.specs.declared.point.Point.{Point as PointPlan}
use Rattle.site_types.specs.declared.output.Output.{Output as OutputPlan}
use Rattle.site_types.specs.declared.output_kind.OutputKind.{OutputKind}
use Rattle.site_types.specs.declared.output_kind.OutputKind.TheVariants.{Sounder, Routing, Protection, Relay}
use Rattle.site_types.specs.declared.item.Item.{Item}
use Rattle.site_types.specs.declared.item.Item.TheVariants.{Point as PointItem, Zone as ZoneItem, Output as OutputItem}
use Rattle.site_types.specs.declared.operation.Operation.{Operation}
use Rattle.site_types.specs.declared.operation.Operation.TheVariants.{Mute, Override, Silence, Resound, Reset, Cancel}
use Rattle.site_types.specs.declared.operation.Operation.TheVariants.{Disable, Enable, Test, Untest, Delays, Clear}
use Rattle.site_types.specs.declared.event.Event.{Event}
use Rattle.site_types.specs.declared.event.Event.TheVariants.{Point, Cable, Supply, Link, Confirmed, Op}

-- there is a value, and it passes the test
abbrev pub is_some_with : {X : Type 0} → (X → Bool) → Option X → Bool
is_some_with test None = false
is_some_with test (Some x) = test x

abbrev pub is_panel : Site → ℕ → Bool
is_panel site panel = nat_le 1 panel && nat_le panel site.panels

-- the panels stand in a ring: each link joins two neighbours, and one panel alone has none
abbrev pub is_link : Site → ℕ → Bool
is_link site link = nat_le 2 site.panels && nat_le 1 link && nat_le link site.panels

-- a listed loop of the panel has the piece of cable, 0 to its last address
abbrev pub has_piece : Site → ℕ → ℕ → ℕ → Bool
has_piece site panel line piece =
    list_any (λ (plan : LoopPlan). (plan.panel == panel) && (plan.line == line) && nat_le piece plan.last)
    site.loops

-- the outputs that a confirmation from outside is asked of
abbrev pub is_confirming : OutputKind → Bool
is_confirming Sounder = false
is_confirming Routing = true
is_confirming Protection = true
is_confirming Relay = false

-- the thing at this place is of the panel
abbrev pub has_zone : Site → ℕ → ℕ → Bool
has_zone site panel place = is_some_with (λ (zone : ZonePlan). zone.panel == panel) (slice_get site.zones place)

abbrev pub has_item : Site → ℕ → Item → Bool
has_item site panel (PointItem place) =
    is_some_with (λ (point : PointPlan). point.panel == panel) (slice_get site.points place)
has_item site panel (ZoneItem place) = has_zone site panel place
has_item site panel (OutputItem place) =
    is_some_with (λ (output : OutputPlan). output.panel == panel) (slice_get site.outputs place)

-- what an operation names is of the panel
abbrev pub has_operands : Site → ℕ → Operation → Bool
has_operands site panel Mute = true
has_operands site panel Override = true
has_operands site panel Silence = true
has_operands site panel Resound = true
has_operands site panel Reset = true
has_operands site panel (Cancel zone) = has_zone site panel zone
has_operands site panel (Disable item) = has_item site panel item
has_operands site panel (Enable item) = has_item site panel item
has_operands site panel (Test zone) = has_zone site panel zone
has_operands site panel (Untest zone) = has_zone site panel zone
has_operands site panel (Delays on) = true
has_operands site panel Clear = true

abbrev pub has_event : Site → Event → Bool
has_event site (Point point state) = nat_lt point (length site.points)
has_event site (Cable panel line piece state) = has_piece site panel line piece
has_event site (Supply panel kind bad) = is_panel site panel
has_event site (Link link up) = is_link site link
has_event site (Confirmed output) =
    is_some_with (λ (o : OutputPlan). is_confirming o.kind) (slice_get site.outputs output)
has_event site (Op panel code operation) = is_panel site panel && has_operands site panel operation
