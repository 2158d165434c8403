-- What is kept after a visit and its tests are put.
use Rattle.std.specs.Prelude.{◌≡◌, ◌⊎◌, ℕ, List, [], ◌∷◌, ◌++◌, Option, None, Some, map, slice_get}
use Rattle.service_keepers.specs.Tables.{Tables, TestRow, VisitRow}
use Rattle.service_register.specs.Answers.{AcceptsTest, AcceptsVisit, test_named}
use Rattle.site_types.specs.declared.point.Point.{Point}
use Rattle.site_types.specs.declared.site.Site.{Site}

abbrev pub name_of_point : Option Point → List ℕ
name_of_point None = []
name_of_point (Some point) = point.name.bytes

-- the row that says that the visit of a number tested the point at a place
abbrev pub test_at : Site → ℕ → ℕ → TestRow
test_at site number place = test_named number (name_of_point (slice_get site.points place))

-- the rows that say that the visit of a number tested the points at some places, one for each
abbrev pub tests_at : Site → ℕ → List ℕ → List TestRow
tests_at site number places = map (test_at site number) places

-- tests are put, one behind the other
abbrev pub PutsTests : List TestRow → Tables → Tables → Type 0
PutsTests [] old new = new ≡ old
PutsTests (test ∷ tests) old new = (between : Tables) × AcceptsTest test old between × PutsTests tests between new

-- some first tests are put, and not the next one
pub record PutsFirstTests (tests : List TestRow) (old new : Tables) : Type 0 where
  pub front : List TestRow
  pub next : TestRow
  pub back : List TestRow
  pub are : tests ≡ front ++ next ∷ back
  pub puts : PutsTests front old new

-- the visit is put and then its tests, in their order
pub record PutsVisitAndTests (visit : VisitRow) (tests : List TestRow) (old new : Tables) : Type 0 where
  pub between : Tables
  pub accepts : AcceptsVisit visit old between
  pub puts : PutsTests tests between new

-- the visit is put and some first tests, and not all
pub record PutsVisitInPart (visit : VisitRow) (tests : List TestRow) (old new : Tables) : Type 0 where
  pub between : Tables
  pub accepts : AcceptsVisit visit old between
  pub puts : PutsFirstTests tests between new

-- nothing is put, or the visit and some first tests, and not all
abbrev pub PutsInPart : VisitRow → List TestRow → Tables → Tables → Type 0
PutsInPart visit tests old new = (new ≡ old) ⊎ PutsVisitInPart visit tests old new
