-- What the fields of a line spell: the one entry that the line may be that of. Whether it is, its own line
-- tells.
use Rattle.std.specs.Prelude.{◌<◌, ◌^◌, ℕ, List, [], ◌∷◌, Option, Some, None, option_map, slice_get}
use Rattle.std.specs.Prelude.{codes, bytes_eq, if◌then◌else◌}
use Rattle.std.specs.Option.{option_and_then}
use Rattle.site_types.specs.declared.buzzer.Buzzer.{Buzzer}
use Rattle.site_types.specs.declared.buzzer.Buzzer.TheVariants.{Off, Fault, Fire}
use Rattle.site_types.specs.declared.named.Thing.{Thing}
use Rattle.site_types.specs.declared.named.Thing.TheVariants.{Point as PointThing, Zone as ZoneThing}
use Rattle.site_types.specs.declared.named.Thing.TheVariants.{Output as OutputThing}
use Rattle.site_types.specs.declared.output.Output.{Output}
use Rattle.site_types.specs.declared.point.Point.{Point}
use Rattle.site_types.specs.declared.site.Site.{Site}
use Rattle.site_types.specs.declared.zone.Zone.{Zone}
use Rattle.site_types.specs.Numbers.{number_of}
use Rattle.site_types.specs.Things.{thing_named}
use Rattle.line_fields.specs.Numbers.{number_below}
use Rattle.line_fields.specs.Words.{truth_of, value_beside}
use Rattle.face_text.specs.declared.group.Group.{Group}
use Rattle.face_text.specs.declared.group.Group.TheVariants.{Zones, Firsts, Missing, Broken, Shorted, Supplies}
use Rattle.face_text.specs.declared.group.Group.TheVariants.{Silent, Links, Unconfirmed, Outputs, Confirmed}
use Rattle.face_text.specs.declared.group.Group.TheVariants.{PointsOff, ZonesOff, OutputsOff, Tests}
use Rattle.face_text.specs.Slots.{kind_of}
use Rattle.face_text.specs.declared.reply.Reply.{Reply}
use Rattle.face_text.specs.declared.reply.Reply.TheVariants.{Done, Denied, Waiting, Already, Store}
use Rattle.face_reading.specs.declared.change.Change.{Change}
use Rattle.face_reading.specs.declared.change.Change.TheVariants.{Thing as ThingChange, Delays as DelaysChange}
use Rattle.face_reading.specs.declared.change.Change.TheVariants.{Buzzer as BuzzerChange, Counter as CounterChange}
use Rattle.face_reading.specs.declared.entry.Entry.{Entry}
use Rattle.face_reading.specs.declared.entry.Entry.TheVariants.{Change as ChangeEntry, Answer as AnswerEntry}
use Rattle.face_reading.specs.declared.entry.Entry.TheVariants.{Busy as BusyEntry, StoreFailed, Tick as TickEntry}
use Rattle.face_reading.specs.declared.entry.Entry.TheVariants.{End as EndEntry}
use Rattle.face_reading.specs.declared.numbered.Numbered.{Numbered}
use Rattle.site_types.specs.Fields.{field}

-- ---- words and numbers

abbrev pub buzzer_sounds : List (List ℕ × Buzzer)
buzzer_sounds = (codes "off", Off) ∷ (codes "fault", Fault) ∷ (codes "fire", Fire) ∷ []

abbrev pub sound_of : List ℕ → Option Buzzer
sound_of word = value_beside word buzzer_sounds

-- the supplies in the order of their bits
abbrev pub supply_numbers : List (List ℕ × ℕ)
supply_numbers = (codes "mains", 1) ∷ (codes "standby", 2) ∷ (codes "voltage", 3) ∷ (codes "charger", 4) ∷ []

-- the number of a supply
abbrev pub supply_of : List ℕ → Option ℕ
supply_of word = value_beside word supply_numbers

-- the numbers of an answer and of ticks are of 64 bits
abbrev pub IsOf64Bits : Entry → Type 0
IsOf64Bits (ChangeEntry panel change) = Unit {0}
IsOf64Bits (AnswerEntry answer) = answer.number < 2 ^ 64
IsOf64Bits (BusyEntry panel count) = Unit {0}
IsOf64Bits StoreFailed = Unit {0}
IsOf64Bits (TickEntry tick) = tick.0 < 2 ^ 64
IsOf64Bits (EndEntry tick) = tick.0 < 2 ^ 64

-- ---- names

abbrev pub zone_at : Site → Option Thing → Option Zone
zone_at site (Some (ZoneThing place)) = slice_get site.zones place
zone_at site _ = None

abbrev pub point_at : Site → Option Thing → Option Point
point_at site (Some (PointThing place)) = slice_get site.points place
point_at site _ = None

abbrev pub output_at : Site → Option Thing → Option Output
output_at site (Some (OutputThing place)) = slice_get site.outputs place
output_at site _ = None

-- the zone, the point and the output with a name
abbrev pub zone_named : Site → List ℕ → Option Zone
zone_named site name = zone_at site (thing_named site name)

abbrev pub point_named : Site → List ℕ → Option Point
point_named site name = point_at site (thing_named site name)

abbrev pub output_named : Site → List ℕ → Option Output
output_named site name = output_at site (thing_named site name)

-- ---- things

abbrev pub numbered : Group → ℕ → Numbered
numbered group number = record { group = group; number = number }

abbrev pub zone_spelled : (Zone → Group) → Site → List ℕ → Option Numbered
zone_spelled group site name = option_map (λ zone. numbered (group zone) zone.number) (zone_named site name)

abbrev pub point_spelled : (Point → Group) → Site → List ℕ → Option Numbered
point_spelled group site name =
    option_map (λ point. numbered (group point) point.address) (point_named site name)

abbrev pub output_spelled : Group → Site → List ℕ → Option Numbered
output_spelled group site name =
    option_map (λ (output : Output). numbered group output.number) (output_named site name)

abbrev pub number_spelled : Group → List ℕ → Option Numbered
number_spelled group text = option_map (λ number. numbered group number) (number_below 256 text)

-- the thing of a fault, by its kind and its name or number; a supply stands in the kind's place
abbrev pub fault_spelled : Site → List ℕ → List ℕ → Option Numbered
fault_spelled site kind name =
    if bytes_eq kind (codes "missing") then point_spelled (λ point. Missing point.line) site name
    else (if bytes_eq kind (codes "broken") then number_spelled Broken name
    else (if bytes_eq kind (codes "shorted") then number_spelled Shorted name
    else (if bytes_eq kind (codes "silent") then number_spelled Silent name
    else (if bytes_eq kind (codes "link") then number_spelled Links name
    else (if bytes_eq kind (codes "unconfirmed") then output_spelled Unconfirmed site name
    else option_map (λ number. numbered Supplies number) (supply_of kind))))))

-- what is disabled, by its kind and its name
abbrev pub disabled_spelled : Site → List ℕ → List ℕ → Option Numbered
disabled_spelled site kind name =
    if bytes_eq kind (codes "point") then point_spelled (λ point. PointsOff point.line) site name
    else (if bytes_eq kind (codes "zone") then zone_spelled (λ zone. ZonesOff) site name
    else (if bytes_eq kind (codes "output") then output_spelled OutputsOff site name else None))

-- the thing of a line, by the fields behind its panel's number
abbrev pub thing_spelled : Site → List ℕ → List ℕ → List ℕ → Option Numbered
thing_spelled site word first second =
    if bytes_eq word (codes "zone") then zone_spelled (λ zone. Zones zone.panel) site first
    else (if bytes_eq word (codes "first") then zone_spelled (λ zone. Firsts zone.panel) site first
    else (if bytes_eq word (codes "fault") then fault_spelled site first second
    else (if bytes_eq word (codes "output") then output_spelled Outputs site first
    else (if bytes_eq word (codes "confirmed") then output_spelled Confirmed site first
    else (if bytes_eq word (codes "disabled") then disabled_spelled site first second
    else (if bytes_eq word (codes "test") then zone_spelled (λ zone. Tests) site first else None))))))

-- the place of the field that tells whether a thing is on: the third behind the panel's number, and the
-- fourth where a kind stands in front of the name
abbrev pub place_behind : List ℕ → ℕ
place_behind [] = 3
place_behind (byte ∷ kind) = 4

abbrev pub truth_place : Group → ℕ
truth_place group = place_behind (kind_of group)

-- ---- changes

abbrev pub told_of : List ℕ → Numbered → Option Change
told_of text thing =
    option_map (λ on. ThingChange thing.group thing.number on)
    (truth_of (field (truth_place thing.group) text))

abbrev pub change_spelled : Site → List ℕ → Option Change
change_spelled site text =
    if bytes_eq (field 1 text) (codes "delays") then option_map (λ on. DelaysChange on)
    (truth_of (field 2 text))
    else (if bytes_eq (field 1 text) (codes "buzzer") then option_map (λ sound. BuzzerChange sound)
    (sound_of (field 2 text))
    else (if bytes_eq (field 1 text) (codes "counter") then option_map (λ count. CounterChange count)
    (number_below (2 ^ 32) (field 2 text))
    else option_and_then (told_of text) (thing_spelled site (field 1 text) (field 2 text) (field 3 text))))

-- ---- entries

abbrev pub denied_spelled : List ℕ → Option Reply
denied_spelled text =
    option_and_then (λ needs. option_map (λ has. Denied needs has) (number_below 256 (field 6 text)))
    (number_below 256 (field 4 text))

abbrev pub reply_spelled : List ℕ → Option Reply
reply_spelled text =
    if bytes_eq (field 2 text) (codes "done") then Some Done
    else (if bytes_eq (field 2 text) (codes "denied") then denied_spelled text
    else (if bytes_eq (field 2 text) (codes "waiting") then Some Waiting
    else (if bytes_eq (field 2 text) (codes "already") then Some Already else
    (if bytes_eq (field 2 text) (codes "store") then Some Store else None))))

abbrev pub answer_spelled : List ℕ → Option Entry
answer_spelled text =
    option_and_then (λ number. option_map (λ reply. AnswerEntry (record { number = number; reply = reply }))
    (reply_spelled text)) (number_of (field 1 text))

-- a line that doesn't begin with a panel's number
abbrev pub plain_spelled : List ℕ → Option Entry
plain_spelled text =
    if bytes_eq (field 0 text) (codes "op") then answer_spelled text
    else (if bytes_eq (field 0 text) (codes "store") then Some StoreFailed
    else (if bytes_eq (field 0 text) (codes "tick") then option_map (λ number. TickEntry (record { 0 = number })) (number_of (field 1 text))
    else (if bytes_eq (field 0 text) (codes "end") then option_map (λ number. EndEntry (record { 0 = number })) (number_of (field 1 text)) else None)))

-- a line of a panel
abbrev pub panel_spelled : Site → ℕ → List ℕ → Option Entry
panel_spelled site panel text =
    if bytes_eq (field 1 text) (codes "busy") then option_map (λ count. BusyEntry panel count)
    (number_of (field 2 text))
    else option_map (λ change. ChangeEntry panel change) (change_spelled site text)

abbrev pub by_panel : Site → List ℕ → Option ℕ → Option Entry
by_panel site text None = plain_spelled text
by_panel site text (Some panel) = panel_spelled site panel text

abbrev pub entry_spelled : Site → List ℕ → Option Entry
entry_spelled site text = by_panel site text (number_below 256 (field 0 text))
