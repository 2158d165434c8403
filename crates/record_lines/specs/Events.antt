-- What befalls a site by a line whose fixed words are of their form: its numbers, and what its names stand
-- for.
use Rattle.std.specs.Prelude.{◌&&◌, ℕ, Bool, true, List, [], Option, Some, None, option_map}
use Rattle.std.specs.Option.{option_and_then}
use Rattle.arrayvec.specs.ArrayString.{ArrayString}
use Rattle.site_types.specs.Names.{code_of}
use Rattle.line_fields.specs.Numbers.{is_number, number_below}
use Rattle.site_types.specs.Things.{thing_named}
use Rattle.site_types.specs.declared.site.Site.{Site}
use Rattle.site_types.specs.declared.named.Thing.{Thing}
use Rattle.site_types.specs.declared.named.Thing.TheVariants.{Point as PointThing, Zone as ZoneThing}
use Rattle.site_types.specs.declared.named.Thing.TheVariants.{Output as OutputThing}
use Rattle.site_types.specs.declared.item.Item.{Item}
use Rattle.site_types.specs.declared.item.Item.TheVariants.{Point as PointItem, Zone as ZoneItem, Output as OutputItem}
use Rattle.site_types.specs.declared.operation.Operation.{Operation}
use Rattle.site_types.specs.declared.operation.Operation.TheVariants.{Cancel as CancelZone, Disable as DisableItem}
use Rattle.site_types.specs.declared.operation.Operation.TheVariants.{Enable as EnableItem, Test as SetTest}
use Rattle.site_types.specs.declared.operation.Operation.TheVariants.{Untest as UntestZone}
use Rattle.site_types.specs.declared.piece_state.PieceState.{PieceState}
use Rattle.site_types.specs.declared.supply_kind.SupplyKind.{SupplyKind}
use Rattle.site_types.specs.declared.event.Event.{Event}
use Rattle.site_types.specs.declared.event.Event.TheVariants.{Point, Cable, Supply, Link, Confirmed, Op}
use Rattle.line_fields.specs.Fields.{space_count, each_field}
use Rattle.site_types.specs.Fields.{after_space, field}
use Rattle.record_lines.specs.Seats.{is_numbered}
use Rattle.record_lines.specs.Forms.{Form, TickForm, OfEvent, OrderForm, EndForm}
use Rattle.record_lines.specs.declared.form.EventForm.{EventForm}
use Rattle.record_lines.specs.declared.form.EventForm.TheVariants.{Point as PointForm, Cable as CableForm}
use Rattle.record_lines.specs.declared.form.EventForm.TheVariants.{Supply as SupplyForm, Link as LinkForm}
use Rattle.record_lines.specs.declared.form.EventForm.TheVariants.{Routing as RoutingForm, Op as OpForm}
use Rattle.record_lines.specs.declared.form.Action.{Action}
use Rattle.record_lines.specs.declared.form.Action.TheVariants.{Plain, Cancel, Test, Untest, Disable, Enable}
use Rattle.record_lines.specs.declared.form.Kind.{Kind}
use Rattle.record_lines.specs.declared.form.Kind.TheVariants.{Point as PointKind, Zone as ZoneKind}
use Rattle.record_lines.specs.declared.form.Kind.TheVariants.{Output as OutputKind}

-- ---- numbers

-- the numbers of an event's line are of the record's form
abbrev pub has_event_numbers : EventForm → List ℕ → Bool
has_event_numbers (PointForm state) text = true
has_event_numbers (CableForm state) text = is_number (field 1 text) && is_number (field 2 text)
    && is_number (field 3 text)
has_event_numbers (SupplyForm kind bad) text = is_number (field 1 text)
has_event_numbers (LinkForm up) text = is_number (field 1 text)
has_event_numbers RoutingForm text = true
has_event_numbers (OpForm action) text = is_number (field 1 text)

-- the numbers of a line are
abbrev pub has_numbers : Form → List ℕ → Bool
has_numbers TickForm text = is_number (field 1 text)
has_numbers (OfEvent form) text = has_event_numbers form text
has_numbers OrderForm text = each_field is_numbered (space_count text) (after_space text)
has_numbers EndForm text = true

-- ---- names

abbrev pub point_in : Option Thing → Option ℕ
point_in (Some (PointThing place)) = Some place
point_in _ = None

abbrev pub zone_in : Option Thing → Option ℕ
zone_in (Some (ZoneThing place)) = Some place
zone_in _ = None

abbrev pub output_in : Option Thing → Option ℕ
output_in (Some (OutputThing place)) = Some place
output_in _ = None

-- the point, the zone and the output with a name
abbrev pub point_of : Site → List ℕ → Option ℕ
point_of site name = point_in (thing_named site name)

abbrev pub zone_of : Site → List ℕ → Option ℕ
zone_of site name = zone_in (thing_named site name)

abbrev pub output_of : Site → List ℕ → Option ℕ
output_of site name = output_in (thing_named site name)

abbrev pub item_of : Site → Kind → List ℕ → Option Item
item_of site PointKind name = option_map (λ place. PointItem place) (point_of site name)
item_of site ZoneKind name = option_map (λ place. ZoneItem place) (zone_of site name)
item_of site OutputKind name = option_map (λ place. OutputItem place) (output_of site name)

-- ---- events: no panel, loop, piece or link has a number above 255

-- an event with the bytes of its code alone
abbrev pub label_view : ArrayString → ArrayString
label_view label = record { bytes = label.bytes; spare = [] }

abbrev pub event_view : Event → Event
event_view (Op panel code operation) = Op panel (option_map label_view code) operation
event_view (Point point state) = Point point state
event_view (Cable panel line piece state) = Cable panel line piece state
event_view (Supply panel kind bad) = Supply panel kind bad
event_view (Link link up) = Link link up
event_view (Confirmed output) = Confirmed output

abbrev pub operation_of : Site → Action → List ℕ → Option Operation
operation_of site (Plain operation) text = Some operation
operation_of site Cancel text = option_map (λ zone. CancelZone zone) (zone_of site (field 4 text))
operation_of site Test text = option_map (λ zone. SetTest zone) (zone_of site (field 4 text))
operation_of site Untest text = option_map (λ zone. UntestZone zone) (zone_of site (field 4 text))
operation_of site (Disable kind) text =
    option_map (λ item. DisableItem item) (item_of site kind (field 5 text))
operation_of site (Enable kind) text = option_map (λ item. EnableItem item) (item_of site kind (field 5 text))

-- the code of a field; none for `-`
abbrev pub code_in : List ℕ → Option (List ℕ)
code_in text = code_of text

abbrev pub labelled : List ℕ → ArrayString
labelled bytes = record { bytes = bytes; spare = [] }

abbrev pub cable_of : PieceState → List ℕ → Option Event
cable_of state text =
    option_and_then
    (λ panel.
    option_and_then (λ line. option_map (λ piece. Cable panel line piece state) (number_below 256 (field 3 text)))
    (number_below 256 (field 2 text))) (number_below 256 (field 1 text))

abbrev pub supply_of : SupplyKind → Bool → List ℕ → Option Event
supply_of kind bad text = option_map (λ panel. Supply panel kind bad) (number_below 256 (field 1 text))

abbrev pub link_of : Bool → List ℕ → Option Event
link_of up text = option_map (λ link. Link link up) (number_below 256 (field 1 text))

abbrev pub op_of : Site → Action → List ℕ → Option Event
op_of site action text =
    option_and_then
    (λ panel. option_map (λ operation. Op panel (option_map labelled (code_in (field 2 text))) operation)
    (operation_of site action text)) (number_below 256 (field 1 text))

-- the event of a line; none where a name names nothing of its kind
abbrev pub event_of : Site → EventForm → List ℕ → Option Event
event_of site (PointForm state) text = option_map (λ point. Point point state) (point_of site (field 1 text))
event_of site (CableForm state) text = cable_of state text
event_of site (SupplyForm kind bad) text = supply_of kind bad text
event_of site (LinkForm up) text = link_of up text
event_of site RoutingForm text = option_map (λ output. Confirmed output) (output_of site (field 1 text))
event_of site (OpForm action) text = op_of site action text
