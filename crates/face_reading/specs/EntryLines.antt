-- How a line of a text is read alone, and how a text is parted into lines.
use Rattle.std.specs.Prelude.{◌≡◌, ℕ, List, [], ◌∷◌, ◌++◌, Option, Some}
use Rattle.site_types.specs.declared.site.Site.{Site}
use Rattle.face_reading.specs.declared.entry.Entry.{Entry}
use Rattle.face_reading.specs.Entries.{IsEntry, entry_line}
use Rattle.face_reading.specs.Reading.{line_ends}

-- bytes without a line end are, with one behind them, the line of an entry
pub record IsLineOf (site : Site) (line : List ℕ) (entry : Entry) : Type 0 where
  pub form : IsEntry site entry
  pub line_is : entry_line site entry ≡ line ++ 10 ∷ []

-- what a line is read to: the entry whose line it is, if there is one
pub record ReadsEntry (site : Site) (line : List ℕ) (result : Option Entry) : Type 0 where
  pub only : (entry : Entry) → result ≡ Some entry → IsLineOf site line entry
  pub all : (entry : Entry) → IsLineOf site line entry → result ≡ Some entry

-- a text is parted behind its first line end
pub record IsParted (text line rest : List ℕ) : Type 0 where
  pub no_end : line_ends line ≡ 0
  pub text_is : text ≡ line ++ 10 ∷ rest
