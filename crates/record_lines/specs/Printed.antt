-- The text of a line.
use Rattle.std.specs.Prelude.{◌≡◌, ◌≤◌, ◌+◌, ◌++◌, ℕ, Bool, true, false, List, [], ◌∷◌, length, map, take, codes}
use Rattle.std.specs.Prelude.{decimal, Option, Some, None}
use Rattle.site_types.specs.Things.{name_at}
use Rattle.site_types.specs.declared.site.Site.{Site}
use Rattle.site_types.specs.declared.event.Event.{Event}
use Rattle.site_types.specs.declared.event.Event.TheVariants.{Point, Cable, Supply, Link, Confirmed, Op}
use Rattle.site_types.specs.declared.item.Item.{Item}
use Rattle.site_types.specs.declared.item.Item.TheVariants.{Point as PointItem, Zone as ZoneItem, Output as OutputItem}
use Rattle.site_types.specs.declared.operation.Operation.{Operation}
use Rattle.site_types.specs.declared.operation.Operation.TheVariants.{Mute, Override, Silence, Resound, Reset, Cancel}
use Rattle.site_types.specs.declared.operation.Operation.TheVariants.{Disable, Enable, Test, Untest, Delays, Clear}
use Rattle.site_types.specs.declared.named.Thing.{Thing}
use Rattle.site_types.specs.declared.named.Thing.TheVariants.{Point as PointThing, Zone as ZoneThing}
use Rattle.site_types.specs.declared.named.Thing.TheVariants.{Output as OutputThing}
use Rattle.site_types.specs.declared.point_state.PointState.{PointState}
use Rattle.site_types.specs.declared.point_state.PointState.TheVariants.{Quiet, Alarm, Gone}
use Rattle.site_types.specs.declared.piece_state.PieceState.{PieceState}
use Rattle.site_types.specs.declared.piece_state.PieceState.TheVariants.{Sound, Open, Short}
use Rattle.site_types.specs.declared.supply_kind.SupplyKind.{SupplyKind}
use Rattle.site_types.specs.declared.supply_kind.SupplyKind.TheVariants.{Mains, Standby, Voltage, Charger}
use Rattle.arrayvec.specs.ArrayString.{ArrayString}
use Rattle.tick_units.specs.declared.task.Task.{Task}
use Rattle.tick_units.specs.declared.task.Task.TheVariants.{Poll, Decide, Supply as SupplyTask, Desk, Hold}
use Rattle.tick_units.specs.declared.task.Task.TheVariants.{Link as LinkTask, Effect, Drive, Keep}
use Rattle.tick_units.specs.declared.seat.Seat.{Seat}
use Rattle.record_lines.specs.declared.line.Line.{Line}
use Rattle.record_lines.specs.declared.line.Line.TheVariants.{Tick, Event as EventLine, Order, End}

-- fields behind a text, a space in front of each
abbrev pub joined : List ℕ → List (List ℕ) → List ℕ
joined text [] = text
joined text (field ∷ fields) = joined (text ++ 32 ∷ field) fields

-- ---- words

abbrev pub point_state_word : PointState → List ℕ
point_state_word Quiet = codes "quiet"
point_state_word Alarm = codes "alarm"
point_state_word Gone = codes "gone"

abbrev pub piece_state_word : PieceState → List ℕ
piece_state_word Sound = codes "sound"
piece_state_word Open = codes "open"
piece_state_word Short = codes "short"

abbrev pub supply_word : SupplyKind → List ℕ
supply_word Mains = codes "mains"
supply_word Standby = codes "standby"
supply_word Voltage = codes "voltage"
supply_word Charger = codes "charger"

abbrev pub bad_word : Bool → List ℕ
bad_word true = codes "bad"
bad_word false = codes "ok"

abbrev pub up_word : Bool → List ℕ
up_word true = codes "up"
up_word false = codes "down"

abbrev pub on_word : Bool → List ℕ
on_word true = codes "on"
on_word false = codes "off"

abbrev pub code_text : Option ArrayString → List ℕ
code_text None = codes "-"
code_text (Some code) = code.bytes

abbrev pub known_name : Option (List ℕ) → List ℕ
known_name None = []
known_name (Some name) = name

-- the name of a thing; empty where there is none
abbrev pub name_text : Site → Thing → List ℕ
name_text site thing = known_name (name_at site thing)

abbrev pub letter_of : Task → ℕ
letter_of Poll = 112
letter_of Decide = 100
letter_of SupplyTask = 115
letter_of Desk = 111
letter_of Hold = 104
letter_of LinkTask = 108
letter_of Effect = 101
letter_of Drive = 114
letter_of Keep = 107

-- the number behind the letter; none behind that of Keep
abbrev pub seat_number : Task → ℕ → List ℕ
seat_number Keep panel = []
seat_number Poll panel = decimal panel
seat_number Decide panel = decimal panel
seat_number SupplyTask panel = decimal panel
seat_number Desk panel = decimal panel
seat_number Hold panel = decimal panel
seat_number LinkTask panel = decimal panel
seat_number Effect panel = decimal panel
seat_number Drive panel = decimal panel

abbrev pub seat_text : Seat → List ℕ
seat_text seat = letter_of seat.task ∷ seat_number seat.task seat.panel

-- ---- fields

abbrev pub item_fields : Site → Item → List (List ℕ)
item_fields site (PointItem place) = codes "point" ∷ name_text site (PointThing place) ∷ []
item_fields site (ZoneItem place) = codes "zone" ∷ name_text site (ZoneThing place) ∷ []
item_fields site (OutputItem place) = codes "output" ∷ name_text site (OutputThing place) ∷ []

abbrev pub action_fields : Site → Operation → List (List ℕ)
action_fields site Mute = codes "mute" ∷ []
action_fields site Override = codes "override" ∷ []
action_fields site Silence = codes "silence" ∷ []
action_fields site Resound = codes "resound" ∷ []
action_fields site Reset = codes "reset" ∷ []
action_fields site (Cancel zone) = codes "cancel" ∷ name_text site (ZoneThing zone) ∷ []
action_fields site (Disable item) = codes "disable" ∷ item_fields site item
action_fields site (Enable item) = codes "enable" ∷ item_fields site item
action_fields site (Test zone) = codes "test" ∷ name_text site (ZoneThing zone) ∷ []
action_fields site (Untest zone) = codes "untest" ∷ name_text site (ZoneThing zone) ∷ []
action_fields site (Delays on) = codes "delays" ∷ on_word on ∷ []
action_fields site Clear = codes "clear" ∷ []

-- ---- lines

abbrev pub event_text : Site → Event → List ℕ
event_text site (Point point state) =
    joined (codes "point") (name_text site (PointThing point) ∷ point_state_word state ∷ [])
event_text site (Cable panel line piece state) =
    joined (codes "cable") (decimal panel ∷ decimal line ∷ decimal piece ∷ piece_state_word state ∷ [])
event_text site (Supply panel kind bad) =
    joined (codes "supply") (decimal panel ∷ supply_word kind ∷ bad_word bad ∷ [])
event_text site (Link link up) = joined (codes "link") (decimal link ∷ up_word up ∷ [])
event_text site (Confirmed output) =
    joined (codes "routing") (name_text site (OutputThing output) ∷ codes "confirmed" ∷ [])
event_text site (Op panel code operation) =
    joined (codes "op") (decimal panel ∷ code_text code ∷ action_fields site operation)

-- without its line end
abbrev pub line_text : Site → Line → List ℕ
line_text site (Tick tick) = joined (codes "tick") (decimal tick.0 ∷ [])
line_text site (EventLine event) = event_text site event
line_text site (Order seats) = joined (codes "order") (map seat_text seats)
line_text site End = codes "end"

-- ---- texts in front of a piece

-- a piece begins with a text and a line end, which take so many bytes
pub record HasInFront (text piece : List ℕ) (used : ℕ) : Type 0 where
  pub all : used ≡ length text + 1
  pub front : take used piece ≡ text ++ 10 ∷ []

-- so many bytes at the front of a text are seats, which are added to those of before
pub record AddsSeats (before : List Seat) (text : List ℕ) (used : ℕ) (after : List Seat) : Type 0 where
  pub within : used ≤ length text
  pub front : joined [] (map seat_text after) ≡ joined [] (map seat_text before) ++ take used text
