-- The lines of a text behind the first, one by one: what each tells, how it is written, and where in a tick
-- it may stand.
use Rattle.std.specs.Prelude.{◌≤◌, ◌<◌, ◌+◌, ◌*◌, ◌^◌, ℕ, List, codes, IsTrue}
use Rattle.site_types.specs.declared.site.Site.{Site}
use Rattle.site_types.specs.Limits.{greatest_count}
use Rattle.face_text.specs.declared.group.Group.{Group}
use Rattle.face_text.specs.declared.group.Group.TheVariants.{Zones, Firsts, Missing, Broken, Shorted, Supplies}
use Rattle.face_text.specs.declared.group.Group.TheVariants.{Silent, Links, Unconfirmed, Outputs, Confirmed}
use Rattle.face_text.specs.declared.group.Group.TheVariants.{PointsOff, ZonesOff, OutputsOff, Tests}
use Rattle.face_text.specs.Answers.{answer_line, counted_line}
use Rattle.face_text.specs.Slots.{HasPlace, Slot, Thing, Delays, Sounding, Count, is_named, last_of, line_of, name_in}
use Rattle.face_text.specs.Slots.{number_of_buzzer, number_of_truth}
use Rattle.face_text.specs.Timelines.{IsReply, end_line, tick_line}
use Rattle.face_reading.specs.declared.change.Change.{Change}
use Rattle.face_reading.specs.declared.change.Change.TheVariants.{Thing as ThingChange, Delays as DelaysChange}
use Rattle.face_reading.specs.declared.change.Change.TheVariants.{Buzzer as BuzzerChange, Counter as CounterChange}
use Rattle.face_reading.specs.declared.entry.Entry.{Entry}
use Rattle.face_reading.specs.declared.entry.Entry.TheVariants.{Change as ChangeEntry, Answer as AnswerEntry}
use Rattle.face_reading.specs.declared.entry.Entry.TheVariants.{Busy as BusyEntry, StoreFailed, Tick as TickEntry}
use Rattle.face_reading.specs.declared.entry.Entry.TheVariants.{End as EndEntry}

-- ---- changes

-- the slot that a change tells of, and the value that it has now
abbrev pub slot_of : Change → Slot
slot_of (ThingChange group number on) = Thing group number
slot_of (DelaysChange on) = Delays
slot_of (BuzzerChange sound) = Sounding
slot_of (CounterChange count) = Count

abbrev pub value_of : Change → ℕ
value_of (ThingChange group number on) = number_of_truth on
value_of (DelaysChange on) = number_of_truth on
value_of (BuzzerChange sound) = number_of_buzzer sound
value_of (CounterChange count) = count

-- the site has the thing that a change tells of on the page of a panel, and a counter is up to 999,999
abbrev pub IsChange : Site → ℕ → Change → Type 0
IsChange site panel (ThingChange group number on) = HasPlace group × (1 ≤ number) × (number ≤ last_of group)
    × IsTrue (is_named (name_in site panel group number))
IsChange site panel (DelaysChange on) = Unit {0}
IsChange site panel (BuzzerChange sound) = Unit {0}
IsChange site panel (CounterChange count) = count ≤ greatest_count

-- ---- lines

-- the line of an entry
abbrev pub entry_line : Site → Entry → List ℕ
entry_line site (ChangeEntry panel change) = line_of site panel (slot_of change) (value_of change)
entry_line site (AnswerEntry answer) = answer_line answer
entry_line site (BusyEntry panel count) = counted_line panel count
entry_line site StoreFailed = codes "store failed\n"
entry_line site (TickEntry tick) = tick_line tick.0
entry_line site (EndEntry tick) = end_line tick.0

-- an entry that the text of some run of the site may have
abbrev pub IsEntry : Site → Entry → Type 0
IsEntry site (ChangeEntry panel change) = (1 ≤ panel) × (panel ≤ site.panels) × IsChange site panel change
IsEntry site (AnswerEntry answer) = (answer.number < 2 ^ 64) × IsReply answer.reply
IsEntry site (BusyEntry panel count) = (1 ≤ panel) × (panel ≤ site.panels) × (1 ≤ count) × (count < 2 ^ 64)
IsEntry site StoreFailed = Unit {0}
IsEntry site (TickEntry tick) = tick.0 < 2 ^ 64
IsEntry site (EndEntry tick) = tick.0 < 2 ^ 64

-- ---- order

-- the place of a group on the page, from 1 on
abbrev pub group_rank : Group → ℕ
group_rank (Zones panel) = panel
group_rank (Firsts panel) = 8 + panel
group_rank (Missing line) = 16 + line
group_rank Broken = 21
group_rank Shorted = 22
group_rank Supplies = 23
group_rank Silent = 24
group_rank Links = 25
group_rank Unconfirmed = 26
group_rank Outputs = 27
group_rank Confirmed = 28
group_rank (PointsOff line) = 28 + line
group_rank ZonesOff = 33
group_rank OutputsOff = 34
group_rank Tests = 35

-- the place of a slot on a page, a number that rises along it
abbrev pub slot_rank : Slot → ℕ
slot_rank (Thing group number) = group_rank group * 1000 + number
slot_rank Delays = 36000
slot_rank Sounding = 37000
slot_rank Count = 38000

-- where a line may stand among those of a tick, a number that rises along them: pages by panel, answers by
-- number, busy panels, the store
abbrev pub rank_of : Entry → ℕ
rank_of (ChangeEntry panel change) = panel * 100000 + slot_rank (slot_of change)
rank_of (AnswerEntry answer) = 1000000 + answer.number
rank_of (BusyEntry panel count) = 1000000 + 2 ^ 64 + panel
rank_of StoreFailed = 1000000 + 2 ^ 64 + 9
rank_of (TickEntry tick) = 0
rank_of (EndEntry tick) = 0
