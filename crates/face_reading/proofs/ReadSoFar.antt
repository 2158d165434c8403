-- How far a text is read, and that its first bad line stands there.
use Rattle.std.specs.List.{flat_map, AllByRecursion}
use Rattle.std.specs.Option.{option_and_then}
use Rattle.std.specs.Prelude.{List, Option, Some, if◌then◌else◌, ℕ, ◌++◌, ◌==◌, ◌∷◌, None, length, suc, ◌≡◌, []}
use Rattle.tick_units.specs.declared.tick.Tick.{Tick as TickOf}
use Rattle.site_types.specs.declared.site.Site.{Site}
use Rattle.face_text.specs.declared.face.Face.{Face}
use Rattle.face_text.specs.declared.step.Step.{Step}
use Rattle.face_text.specs.Timelines.{empty_faces, faces_text, opening_line, step_text, steps_text}
use Rattle.face_reading.specs.declared.entry.Entry.{Entry}
use Rattle.face_reading.specs.declared.entry.Entry.TheVariants.{End}
use Rattle.face_reading.specs.Entries.{entry_line, IsEntry}
use Rattle.face_reading.specs.EntryLines.{IsLineOf}
use Rattle.face_reading.specs.Reading.{Told, block_of, told_next, nothing_told, timeline_told, line_ends}

-- what is told after some lines
abbrev pub told_after : Told → List Entry → Option Told
told_after told [] = Some told
told_after told (entry ∷ entries) = option_and_then (λ next. told_after next entries) (told_next told entry)

-- the faces behind some steps
abbrev pub faces_behind : List Face → List Step → List Face
faces_behind faces [] = faces
faces_behind faces (step ∷ steps) = faces_behind step.faces steps

-- the text of what is told so far
abbrev pub told_text : Site → Told → List ℕ
told_text site told =
    opening_line site
    ++ (if told.tick.0 == 0 then faces_text site (empty_faces site) told.faces
    else (faces_text site (empty_faces site) told.opened ++ steps_text site told.opened told.steps
    ++ step_text site (faces_behind told.opened told.steps) (block_of told)))

-- the lines of some entries
abbrev pub entries_text : Site → List Entry → List ℕ
entries_text site entries = flat_map (entry_line site) entries

-- entries that texts of the site may have
abbrev pub AreEntries : Site → List Entry → Type 0
AreEntries site entries = AllByRecursion (IsEntry site) entries

-- so many lines of a text are read, and this is told; the rest is yet to be read
pub record IsReadSoFar (site : Site) (text rest : List ℕ) (told : Told) (count : ℕ) : Type 0 where
  pub entries : List Entry
  pub each : AreEntries site entries
  pub leads : told_after (nothing_told site) entries ≡ Some told
  pub count_is : count ≡ suc (length entries)
  pub text_is : text ≡ (opening_line site ++ entries_text site entries) ++ rest

-- no line of an entry, or one that may not stand behind what is told
pub record IsRefused (site : Site) (told : Told) (line : List ℕ) : Type 0 where
  pub goes_not_on : (entry : Entry) → IsLineOf site line entry → told_next told entry ≡ None
  pub ends_not : (last : TickOf) → IsLineOf site line (End last) → timeline_told told last ≡ None

-- bytes with one line end, which is the last of them
pub record IsOneLine (bytes : List ℕ) : Type 0 where
  pub body : List ℕ
  pub no_end : line_ends body ≡ 0
  pub bytes_is : bytes ≡ body ++ 10 ∷ []
