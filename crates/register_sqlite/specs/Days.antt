-- The days of a point's visits, as its tests are read row by row.
use Rattle.std.specs.Prelude.{ℕ, List, Option, Some, None, option_map}
use Rattle.sqlite_value.specs.Order.{Row, column}
use Rattle.service_keepers.specs.Tables.{VisitRow, later_day, visit_numbered}
use Rattle.register_sqlite.specs.Stored.{number_in}

-- the later of two days, of which either may be missing
abbrev pub later_or : Option ℕ → Option ℕ → Option ℕ
later_or last None = last
later_or last (Some day) = later_day last day

-- the day of the visit whose number a row shows, where it is kept
abbrev pub day_shown : List VisitRow → Row → Option ℕ
day_shown visits row = option_map (λ (v : VisitRow). v.day) (visit_numbered (number_in (column row 0)) visits)
