-- The page of a panel as a table of slots: each has a value in every face, and a line that tells it.
use Rattle.std.specs.Prelude.{◌≤◌, ◌-◌, ◌==◌, ◌&&◌, ℕ, Bool, true, false, List, [], ◌∷◌, ◌++◌, Option, Some, None}
use Rattle.std.specs.Prelude.{option_map, map, filter, slice_index, codes, decimal, if◌then◌else◌}
use Rattle.std.specs.List.{find, flat_map, list_any, range_with_len}
use Rattle.site_types.specs.declared.buzzer.Buzzer.{Buzzer}
use Rattle.site_types.specs.declared.buzzer.Buzzer.TheVariants.{Off, Fault, Fire}
use Rattle.site_types.specs.declared.loop_plan.LoopPlan.{LoopPlan}
use Rattle.site_types.specs.declared.output.Output.{Output}
use Rattle.site_types.specs.declared.point.Point.{Point}
use Rattle.site_types.specs.declared.site.Site.{Site}
use Rattle.site_types.specs.declared.zone.Zone.{Zone}
use Rattle.site_types.specs.Bits.{has_bit, has_point}
use Rattle.site_types.specs.Events.{is_link, is_panel}
use Rattle.face_text.specs.declared.face.Face.{Face}
use Rattle.face_text.specs.declared.group.Group.{Group}
use Rattle.face_text.specs.declared.group.Group.TheVariants.{Zones, Firsts, Missing, Broken, Shorted, Supplies}
use Rattle.face_text.specs.declared.group.Group.TheVariants.{Silent, Links, Unconfirmed, Outputs, Confirmed}
use Rattle.face_text.specs.declared.group.Group.TheVariants.{PointsOff, ZonesOff, OutputsOff, Tests}

-- what one line tells: whether the thing of a group with a number is so, whether the delays are on, what the
-- buzzer sounds, the counter
pub data Slot : Type 0 where
  Thing : Group → ℕ → Slot
  Delays : Slot
  Sounding : Slot
  Count : Slot

-- ---- the value of a slot

-- the numbers of a group go up to this
abbrev pub last_of : Group → ℕ
last_of (Zones panel) = 32
last_of (Firsts panel) = 32
last_of (Missing line) = 192
last_of Broken = 4
last_of Shorted = 4
last_of Supplies = 4
last_of Silent = 8
last_of Links = 8
last_of Unconfirmed = 32
last_of Outputs = 32
last_of Confirmed = 32
last_of (PointsOff line) = 192
last_of ZonesOff = 32
last_of OutputsOff = 32
last_of Tests = 32

-- panels and loops of groups are those that a face has masks for
abbrev pub HasPlace : Group → Type 0
HasPlace (Zones panel) = (1 ≤ panel) × (panel ≤ 8)
HasPlace (Firsts panel) = (1 ≤ panel) × (panel ≤ 8)
HasPlace (Missing line) = (1 ≤ line) × (line ≤ 4)
HasPlace Broken = Unit {0}
HasPlace Shorted = Unit {0}
HasPlace Supplies = Unit {0}
HasPlace Silent = Unit {0}
HasPlace Links = Unit {0}
HasPlace Unconfirmed = Unit {0}
HasPlace Outputs = Unit {0}
HasPlace Confirmed = Unit {0}
HasPlace (PointsOff line) = (1 ≤ line) × (line ≤ 4)
HasPlace ZonesOff = Unit {0}
HasPlace OutputsOff = Unit {0}
HasPlace Tests = Unit {0}

-- a face shows the thing of a group with a number
abbrev pub shows : Face → Group → ℕ → Bool
shows face (Zones panel) number = has_bit (slice_index face.zones (panel - 1)) (number - 1)
shows face (Firsts panel) number = has_bit (slice_index face.firsts (panel - 1)) (number - 1)
shows face (Missing line) number = has_point face.faults.missing line number
shows face Broken number = has_bit face.faults.broken (number - 1)
shows face Shorted number = has_bit face.faults.shorted (number - 1)
shows face Supplies number = has_bit face.faults.supply (number - 1)
shows face Silent number = has_bit face.faults.silent (number - 1)
shows face Links number = has_bit face.faults.links (number - 1)
shows face Unconfirmed number = has_bit face.faults.unconfirmed (number - 1)
shows face Outputs number = has_bit face.outputs (number - 1)
shows face Confirmed number = has_bit face.confirmed (number - 1)
shows face (PointsOff line) number = has_point face.points_off line number
shows face ZonesOff number = has_bit face.zones_off (number - 1)
shows face OutputsOff number = has_bit face.outputs_off (number - 1)
shows face Tests number = has_bit face.test (number - 1)

abbrev pub number_of_truth : Bool → ℕ
number_of_truth false = 0
number_of_truth true = 1

abbrev pub number_of_buzzer : Buzzer → ℕ
number_of_buzzer Off = 0
number_of_buzzer Fault = 1
number_of_buzzer Fire = 2

-- the value of a slot in a face: 1 for on and 0 for off, the buzzer's sound, the counter
abbrev pub value_in : Face → Slot → ℕ
value_in face (Thing group number) = number_of_truth (shows face group number)
value_in face Delays = if face.delays_off then 0 else 1
value_in face Sounding = number_of_buzzer face.buzzer
value_in face Count = face.counter

-- ---- how lines name things

abbrev pub zone_name : Site → ℕ → ℕ → Option (List ℕ)
zone_name site panel number =
    option_map (λ (zone : Zone). zone.name.bytes)
    (find (λ (zone : Zone). (zone.panel == panel) && (zone.number == number)) site.zones)

abbrev pub point_name : Site → ℕ → ℕ → ℕ → Option (List ℕ)
point_name site panel line address =
    option_map (λ (point : Point). point.name.bytes)
    (find (λ (point : Point). (point.panel == panel) && (point.line == line)
    && (point.address == address)) site.points)

abbrev pub output_name : Site → ℕ → ℕ → Option (List ℕ)
output_name site panel number =
    option_map (λ (output : Output). output.name.bytes)
    (find (λ (output : Output). (output.panel == panel) && (output.number == number)) site.outputs)

-- a number, where there is such a thing
abbrev pub number_if : Bool → ℕ → Option (List ℕ)
number_if there number = if there then Some (decimal number) else None

abbrev pub has_loop : Site → ℕ → ℕ → Bool
has_loop site panel line =
    list_any (λ (plan : LoopPlan). (plan.panel == panel) && (plan.line == line)) site.loops

-- the supplies in the order of their bits
abbrev pub supply_name : ℕ → Option (List ℕ)
supply_name number =
    if number == 1 then Some (codes "mains")
    else (if number == 2 then Some (codes "standby") else (if number == 3 then Some (codes "voltage") else (if number == 4 then Some (codes "charger") else None)))

-- how the page of a panel names the thing of a group with a number, if the site has it: zones by their own
-- panel, all else by the panel of the page
abbrev pub name_in : Site → ℕ → Group → ℕ → Option (List ℕ)
name_in site panel (Zones other) number = zone_name site other number
name_in site panel (Firsts other) number = zone_name site other number
name_in site panel (Missing line) number = point_name site panel line number
name_in site panel Broken number = number_if (has_loop site panel number) number
name_in site panel Shorted number = number_if (has_loop site panel number) number
name_in site panel Supplies number = supply_name number
name_in site panel Silent number = number_if (is_panel site number) number
name_in site panel Links number = number_if (is_link site number) number
name_in site panel Unconfirmed number = output_name site panel number
name_in site panel Outputs number = output_name site panel number
name_in site panel Confirmed number = output_name site panel number
name_in site panel (PointsOff line) number = point_name site panel line number
name_in site panel ZonesOff number = zone_name site panel number
name_in site panel OutputsOff number = output_name site panel number
name_in site panel Tests number = zone_name site panel number

-- ---- lines

-- the word that stands behind the panel's number
abbrev pub word_of : Group → List ℕ
word_of (Zones panel) = codes "zone "
word_of (Firsts panel) = codes "first "
word_of (Missing line) = codes "fault "
word_of Broken = codes "fault "
word_of Shorted = codes "fault "
word_of Supplies = codes "fault "
word_of Silent = codes "fault "
word_of Links = codes "fault "
word_of Unconfirmed = codes "fault "
word_of Outputs = codes "output "
word_of Confirmed = codes "confirmed "
word_of (PointsOff line) = codes "disabled "
word_of ZonesOff = codes "disabled "
word_of OutputsOff = codes "disabled "
word_of Tests = codes "test "

-- the kind of a fault or of a disabled thing, in front of the name
abbrev pub kind_of : Group → List ℕ
kind_of (Zones panel) = []
kind_of (Firsts panel) = []
kind_of (Missing line) = codes "missing "
kind_of Broken = codes "broken "
kind_of Shorted = codes "shorted "
kind_of Supplies = []
kind_of Silent = codes "silent "
kind_of Links = codes "link "
kind_of Unconfirmed = codes "unconfirmed "
kind_of Outputs = []
kind_of Confirmed = []
kind_of (PointsOff line) = codes "point "
kind_of ZonesOff = codes "zone "
kind_of OutputsOff = codes "output "
kind_of Tests = []

abbrev pub on_word : ℕ → List ℕ
on_word value = if value == 0 then codes " off\n" else codes " on\n"

abbrev pub buzzer_word : ℕ → List ℕ
buzzer_word value =
    if value == 0 then codes "off\n" else (if value == 1 then codes "fault\n" else codes "fire\n")

-- the line of a thing, if it has a name
abbrev pub line_of_thing : ℕ → Group → ℕ → Option (List ℕ) → List ℕ
line_of_thing panel group value None = []
line_of_thing panel group value (Some name) = decimal panel ++ codes " " ++ word_of group ++ kind_of group
    ++ name ++ on_word value

abbrev pub delays_line : ℕ → ℕ → List ℕ
delays_line panel value = decimal panel ++ codes " delays" ++ on_word value

abbrev pub buzzer_line : ℕ → ℕ → List ℕ
buzzer_line panel value = decimal panel ++ codes " buzzer " ++ buzzer_word value

abbrev pub counter_line : ℕ → ℕ → List ℕ
counter_line panel value = decimal panel ++ codes " counter " ++ decimal value ++ codes "\n"

-- the line that tells that a slot of a panel's page has a value now
abbrev pub line_of : Site → ℕ → Slot → ℕ → List ℕ
line_of site panel (Thing group number) value =
    line_of_thing panel group value (name_in site panel group number)
line_of site panel Delays value = delays_line panel value
line_of site panel Sounding value = buzzer_line panel value
line_of site panel Count value = counter_line panel value

-- ---- the page

-- the groups in the order of the page
unfoldable pub page : List Group
page =
    Zones 1 ∷ Zones 2 ∷ Zones 3 ∷ Zones 4 ∷ Zones 5 ∷ Zones 6 ∷ Zones 7 ∷ Zones 8
    ∷ Firsts 1 ∷ Firsts 2 ∷ Firsts 3 ∷ Firsts 4 ∷ Firsts 5 ∷ Firsts 6 ∷ Firsts 7 ∷ Firsts 8
    ∷ Missing 1 ∷ Missing 2 ∷ Missing 3 ∷ Missing 4
    ∷ Broken ∷ Shorted ∷ Supplies ∷ Silent ∷ Links ∷ Unconfirmed ∷ Outputs ∷ Confirmed
    ∷ PointsOff 1 ∷ PointsOff 2 ∷ PointsOff 3 ∷ PointsOff 4 ∷ ZonesOff ∷ OutputsOff ∷ Tests ∷ []

abbrev pub is_named : Option (List ℕ) → Bool
is_named None = false
is_named (Some name) = true

-- the numbers of the things that the site has of a group
abbrev pub numbers_in : Site → ℕ → Group → List ℕ
numbers_in site panel group =
    filter (λ number. is_named (name_in site panel group number)) (range_with_len 1 (last_of group))

-- the slots of a group, by number
abbrev pub slots_of : Site → ℕ → Group → List Slot
slots_of site panel group = map (Thing group) (numbers_in site panel group)

-- all slots of a panel's page, in its order: what the site has of each group, then delays, buzzer and counter
abbrev pub slots : Site → ℕ → List Slot
slots site panel = flat_map (slots_of site panel) page ++ Delays ∷ Sounding ∷ Count ∷ []
