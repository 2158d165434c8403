-- What a keeper keeps: visits, and which points each of them tested.
use Rattle.std.specs.Prelude.{◌==◌, ◌&&◌, ℕ, Bool, true, not, max, List, [], ◌∷◌, Option, Some, None, IsTrue}
use Rattle.std.specs.Prelude.{option_map, is_none}
use Rattle.std.specs.List.{filter, filter_map, find, fold, list_any}
use Rattle.std.specs.Str.{bytes_eq}

-- a visit: its number, its day and the engineer's name
pub record VisitRow : Type 0 where
  pub number : ℕ
  pub day : ℕ
  pub engineer : List ℕ

-- a test: the number of a visit, and the name of the point that it tested
pub record TestRow : Type 0 where
  pub visit : ℕ
  pub point : List ℕ

pub record Tables : Type 0 where
  pub visits : List VisitRow
  pub tests : List TestRow

-- the tables of a keeper that has never been called
abbrev pub no_tables : Tables
no_tables = record { visits = []; tests = [] }

-- ---- what is looked up

-- the visit of a number
abbrev pub visit_numbered : ℕ → List VisitRow → Option VisitRow
visit_numbered number visits = find (λ (visit : VisitRow). visit.number == number) visits

abbrev pub is_same_test : TestRow → TestRow → Bool
is_same_test test other = (other.visit == test.visit) && bytes_eq other.point test.point

-- whether a test is among these
abbrev pub has_test : TestRow → List TestRow → Bool
has_test test tests = list_any (is_same_test test) tests

-- whether a test is one of a point
abbrev pub tests_point : List ℕ → TestRow → Bool
tests_point point test = bytes_eq test.point point

-- the day of the visit of a test, where that visit is kept
abbrev pub day_of_test : List VisitRow → TestRow → Option ℕ
day_of_test visits test = option_map (λ (visit : VisitRow). visit.day) (visit_numbered test.visit visits)

-- the days on which a point was tested
abbrev pub days_of_point : List ℕ → Tables → List ℕ
days_of_point point tables = filter_map (day_of_test tables.visits) (filter (tests_point point) tables.tests)

-- the later of a day, where there is one, and another
abbrev pub later_day : Option ℕ → ℕ → Option ℕ
later_day None day = Some day
later_day (Some last) day = Some (max last day)

-- the greatest of some days
abbrev pub last_of_days : List ℕ → Option ℕ
last_of_days days = fold later_day None days

-- the greatest day of the visits that tested a point
abbrev pub last_day_of : List ℕ → Tables → Option ℕ
last_day_of point tables = last_of_days (days_of_point point tables)

-- ---- nothing is kept twice

-- no two visits have one number
abbrev pub have_distinct_numbers : List VisitRow → Bool
have_distinct_numbers [] = true
have_distinct_numbers (visit ∷ rest) = is_none (visit_numbered visit.number rest) && have_distinct_numbers rest

-- no test stands twice
abbrev pub are_distinct_tests : List TestRow → Bool
are_distinct_tests [] = true
are_distinct_tests (test ∷ rest) = not (has_test test rest) && are_distinct_tests rest

pub record AreDistinct (tables : Tables) : Type 0 where
  pub visits : IsTrue (have_distinct_numbers tables.visits)
  pub tests : IsTrue (are_distinct_tests tables.tests)
