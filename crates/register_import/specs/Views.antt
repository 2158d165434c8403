-- The program's rows as those of the definitions.
use Rattle.std.specs.Prelude.{Result, Ok, Err, ℕ}
use Rattle.service_keepers.specs.Rows.{visit_row}
use Rattle.register_import.specs.Rows.{Four, ImportedTest}
use Rattle.register_import.specs.declared.four_fields.FourFields.{FourFields}
use Rattle.register_import.specs.declared.import_row.ImportRow.{ImportRow}

abbrev pub four_view : FourFields → Four
four_view row = record {
  visit = row.visit.now;
  day = row.day.now;
  engineer = row.engineer.now;
  point = row.point.now;
}

abbrev pub row_view : ImportRow → ImportedTest
row_view row = record { visit = visit_row row.visit; point = row.point.bytes }

abbrev pub read_view : Result ImportRow ℕ → Result ImportedTest ℕ
read_view (Ok row) = Ok (row_view row)
read_view (Err why) = Err why
