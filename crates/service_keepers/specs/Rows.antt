-- Visits and tests as rows of the tables, a label being its bytes.
use Rattle.std.specs.Prelude.{ℕ}
use Rattle.arrayvec.specs.ArrayString.{ArrayString}
use Rattle.service_keepers.specs.Tables.{TestRow, VisitRow}
use Rattle.service_keepers.specs.declared.point_test.PointTest.{PointTest}
use Rattle.service_keepers.specs.declared.visit.Visit.{Visit}

abbrev pub visit_row : Visit → VisitRow
visit_row visit = record { number = visit.number; day = visit.day; engineer = visit.engineer.bytes }

-- the row of a test: that the visit of a number tested the point that a label names
abbrev pub test_of : ℕ → ArrayString → TestRow
test_of visit point = record { visit = visit; point = point.bytes }

abbrev pub test_row : PointTest → TestRow
test_row test = test_of test.visit test.point
