-- How far a text is read, and that its first bad line stands there.
use Rattle.std.specs.Prelude.{◌≡◌, ◌≢◌, ◌⊎◌, ◌≤◌, ◌+◌, ℕ, Bool, List, [], Some, None, Result, Ok, Err, length}
use Rattle.std.specs.Prelude.{if◌then◌else◌}
use Rattle.tick_units.specs.declared.tick.Tick.{Tick as TickOf}
use Rattle.face_text.specs.declared.face.Face.{Face}
use Rattle.face_text.specs.declared.timeline.Timeline.{Timeline}
use Rattle.face_reading.specs.declared.entry.Entry.{Entry}
use Rattle.face_reading.specs.declared.entry.Entry.TheVariants.{Change, Answer, Busy, StoreFailed, Tick, End}
use Rattle.face_reading.specs.declared.text_refusal.TextRefusal.{TextRefusal}
use Rattle.face_reading.specs.declared.text_refusal.TextRefusal.TheVariants.{BadLine, NoMemory}
use Rattle.face_reading.specs.Entries.{slot_of}
use Rattle.face_reading.specs.Reading.{Told, timeline_told, told_next}
use Rattle.face_reading.specs.Telling.{IsPlaced}

-- ---- one line

-- what is told after a line that was taken, or that a line isn't taken
abbrev pub Turns : Told → Entry → Bool → Told → Type 0
Turns told entry taken next = told_next told entry ≡ (if taken then Some next else None)

-- the faces have what an entry tells of
abbrev pub HasPlaceOf : List Face → Entry → Type 0
HasPlaceOf faces (Change panel change) = (1 ≤ panel) × (panel ≤ length faces) × IsPlaced (slot_of change)
HasPlaceOf faces (Answer answer) = Unit {0}
HasPlaceOf faces (Busy panel count) = (1 ≤ panel) × (panel ≤ 8)
HasPlaceOf faces StoreFailed = Unit {0}
HasPlaceOf faces (Tick tick) = Unit {0}
HasPlaceOf faces (End tick) = Unit {0}

-- what is made of the last line, with what is behind it and its number
abbrev pub IsEndOf : Told → TickOf → List ℕ → ℕ → Result Timeline TextRefusal → Type 0
IsEndOf told last behind number (Ok timeline) = (timeline_told told last ≡ Some timeline) × (behind ≡ [])
IsEndOf told last behind number (Err (BadLine line)) =
    ((timeline_told told last ≡ None) × (line ≡ number))
    ⊎ (((timeline : Timeline) × (timeline_told told last ≡ Some timeline)) × (behind ≢ [])
    × (line ≡ number + 1))
IsEndOf told last behind number (Err NoMemory) = Unit {0}
