-- What changes make of the faces of a site: the laws on which reading a text rests, for one panel.
use Rattle.std.specs.List.{AllByRecursion, flat_map}
use Rattle.std.specs.Prelude.{IsTrue, ℕ, ◌<◌, ◌≡◌, ◌≤◌, List, filter, map, not, ◌++◌, ◌==◌, ◌∷◌, ◌≢◌, []}
use Rattle.site_types.specs.declared.site.Site.{Site}
use Rattle.face_text.specs.declared.face.Face.{Face}
use Rattle.face_text.specs.Changes.{changes_text}
use Rattle.face_text.specs.Faces.{empty_face}
use Rattle.face_text.specs.Slots.{Count, Delays, HasPlace, Slot, Sounding, Thing, is_named, last_of, name_in, value_in, line_of, shows, slots}
use Rattle.face_text.specs.Timelines.{IsFaceOf}
use Rattle.face_reading.specs.declared.change.Change.{Change}
use Rattle.face_reading.specs.declared.change.Change.TheVariants.{Buzzer as BuzzerChange, Counter as CounterChange, Delays as DelaysChange, Thing as ThingChange}
use Rattle.face_reading.specs.Entries.{slot_rank, IsChange, slot_of, value_of}
use Rattle.face_reading.specs.Telling.{face_told}

-- the page of a panel has a slot: of a thing that the site has, or of delays, buzzer or counter
abbrev pub IsSlotOf : Site → ℕ → Slot → Type 0
IsSlotOf site panel (Thing group number) = HasPlace group × (1 ≤ number) × (number ≤ last_of group)
    × IsTrue (is_named (name_in site panel group number))
IsSlotOf site panel Delays = Unit {0}
IsSlotOf site panel Sounding = Unit {0}
IsSlotOf site panel Count = Unit {0}

-- two faces of a panel differ in no slot of its page behind a place of the page
abbrev pub IsSameBehind : Site → ℕ → ℕ → Face → Face → Type 0
IsSameBehind site panel rank one other = (slot : Slot) → IsSlotOf site panel slot → rank < slot_rank slot → value_in one slot ≡ value_in other slot

-- the change that tells what a slot is in a face
abbrev pub change_to : Face → Slot → Change
change_to face (Thing group number) = ThingChange group number (shows face group number)
change_to face Delays = DelaysChange (not face.delays_off)
change_to face Sounding = BuzzerChange face.buzzer
change_to face Count = CounterChange face.counter

-- the changes that tell of some slots, where their values were others before
abbrev pub changes_in : Face → Face → List Slot → List Change
changes_in before after all = map (change_to after) (filter (λ slot. not (value_in before slot == value_in after slot)) all)

-- the changes from one face of a panel to another, in the order of the page
abbrev pub changes_of : Site → Face → Face → List Change
changes_of site before after = changes_in before after (slots site after.panel)

-- the line of a change on the page of a panel
abbrev pub change_line : Site → ℕ → Change → List ℕ
change_line site panel change = line_of site panel (slot_of change) (value_of change)

-- a face after changes, one after another
abbrev pub face_after : Face → List Change → Face
face_after face [] = face
face_after face (change ∷ changes) = face_after (face_told face change) changes

-- changes at rising places of the page behind one, each of which tells what isn't so yet
abbrev pub AreNews : ℕ → Face → List Change → Type 0
AreNews rank face [] = Unit {0}
AreNews rank face (change ∷ changes) =
    (rank < slot_rank (slot_of change)) × (value_in face (slot_of change) ≢ value_of change)
    × AreNews (slot_rank (slot_of change)) (face_told face change) changes

-- what a change tells is so afterwards, and nothing else of the page is otherwise
pub record TellsThisAlone : Type 0 where
  pub this : (site : Site) (panel : ℕ) (face : Face) (change : Change) → IsFaceOf site panel face → IsChange site panel change →
      value_in (face_told face change) (slot_of change) ≡ value_of change
  pub others : (site : Site) (panel : ℕ) (face : Face) (change : Change) (slot : Slot) → IsFaceOf site panel face → IsChange site panel change
      → IsSlotOf site panel slot →
      slot ≢ slot_of change → value_in (face_told face change) slot ≡ value_in face slot

-- the face that shows nothing is in form, and a change leaves a face in form
pub record KeepsForm : Type 0 where
  pub empty : (site : Site) (panel : ℕ) → IsFaceOf site panel (empty_face panel)
  pub told : (site : Site) (panel : ℕ) (face : Face) (change : Change) → IsFaceOf site panel face → IsChange site panel change
      → IsFaceOf site panel (face_told face change)

-- two faces of a panel are equal where each slot of its page has one value in both
abbrev pub AreTheirSlots : Type 0
AreTheirSlots = (site : Site) (panel : ℕ) (one other : Face) → IsFaceOf site panel one → IsFaceOf site panel other →
    ((slot : Slot) → IsSlotOf site panel slot → value_in one slot ≡ value_in other slot) → one ≡ other

-- one more change is one more line behind those of a face, it is the last place where the face differs from
-- the one before, and it differs there
pub record AddsItsLine (site : Site) (panel : ℕ) (before shown : Face) (change : Change) : Type 0 where
  pub text : changes_text site before (face_told shown change) ≡ changes_text site before shown ++ change_line site panel change
  pub behind : IsSameBehind site panel (slot_rank (slot_of change)) before (face_told shown change)
  pub differs : before ≢ face_told shown change

-- so it is for a change behind the place up to which a face may differ from the one before, that tells what
-- isn't so yet
abbrev pub AddsOneLine : Type 0
AddsOneLine = (site : Site) (panel rank : ℕ) (before shown : Face) (change : Change) → IsFaceOf site panel shown
    → IsSameBehind site panel rank before shown → IsChange site panel change →
    rank < slot_rank (slot_of change) → value_in shown (slot_of change) ≢ value_of change → AddsItsLine site panel before shown change

-- the changes from one face to another are such that may be told one after another, their lines are the text,
-- and they lead there
pub record LeadsThere (site : Site) (panel : ℕ) (before after : Face) : Type 0 where
  pub each : AllByRecursion (IsChange site panel) (changes_of site before after)
  pub news : AreNews 0 before (changes_of site before after)
  pub text : flat_map (change_line site panel) (changes_of site before after) ≡ changes_text site before after
  pub there : face_after before (changes_of site before after) ≡ after
  pub none : before ≡ after → changes_of site before after ≡ []

-- so it is for all faces of a panel
abbrev pub ChangesLeadThere : Type 0
ChangesLeadThere = (site : Site) (panel : ℕ) (before after : Face) → IsFaceOf site panel before → IsFaceOf site panel after
    → LeadsThere site panel before after
