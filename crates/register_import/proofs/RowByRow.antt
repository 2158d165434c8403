-- A file judged row by row.
use Rattle.std.proofs.Common.{◌≡◌, ◌+◌, ℕ, List, [], drop, map}
use Rattle.csv.specs.Records.{Row as Record, fields_of}
use Rattle.register_import.specs.Judged.{rows_judged}
use Rattle.register_import.specs.Views.{row_view}
use Rattle.register_import.specs.declared.import_row.ImportRow.{ImportRow}
use Rattle.service_keepers.specs.Tables.{Tables}
use Rattle.site_types.specs.declared.site.Site.{Site}

-- what is left to judge after so many rows, by what is kept
abbrev pub LeftToJudge : Site → List ImportRow → List Record → ℕ → Tables → Type 0
LeftToJudge site rows records place kept =
    rows_judged site kept (map row_view rows) (place + 1) (map fields_of (drop place records)) ≡ rows_judged site kept [] 1 (map fields_of records)
