-- What is kept after rows are put.
use Rattle.std.specs.Prelude.{◌≡◌, ◌⊎◌, List, [], ◌∷◌, ◌++◌}
use Rattle.service_keepers.specs.Keeping.{PutsTest, PutsVisit}
use Rattle.service_keepers.specs.Tables.{Tables, VisitRow}
use Rattle.register_import.specs.Rows.{ImportedTest, test_of_row}

-- the visit and then the test of a row are put
pub record PutsRow (row : ImportedTest) (old new : Tables) : Type 0 where
  pub between : Tables
  pub visit : PutsVisit row.visit old between
  pub test : PutsTest (test_of_row row) between new

-- rows are put, one behind the other
abbrev pub PutsRows : List ImportedTest → Tables → Tables → Type 0
PutsRows [] old new = new ≡ old
PutsRows (row ∷ rows) old new = (between : Tables) × PutsRow row old between × PutsRows rows between new

-- a visit is put, or nothing
abbrev pub PutsAtMost : VisitRow → Tables → Tables → Type 0
PutsAtMost visit old new = (new ≡ old) ⊎ PutsVisit visit old new

-- some first rows are put, and of the next one its visit at most
pub record PutsFront (rows : List ImportedTest) (old new : Tables) : Type 0 where
  pub front : List ImportedTest
  pub next : ImportedTest
  pub back : List ImportedTest
  pub are : rows ≡ front ++ next ∷ back
  pub between : Tables
  pub puts : PutsRows front old between
  pub last : PutsAtMost next.visit between new
