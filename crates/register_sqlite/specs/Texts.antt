-- The texts that the database is given, and the values with them.
use Rattle.std.specs.Prelude.{ℕ, pos, List, [], ◌∷◌, codes}
use Rattle.sqlite_value.specs.Order.{Row}
use Rattle.sqlite_value.specs.declared.value.Value.TheVariants.{Int, Text}
use Rattle.service_keepers.specs.Tables.{TestRow, VisitRow}

abbrev pub create_visits_text : List ℕ
create_visits_text =
    codes "CREATE TABLE IF NOT EXISTS visits(number INTEGER PRIMARY KEY, day INTEGER NOT NULL, engineer TEXT NOT NULL) STRICT"

abbrev pub create_tests_text : List ℕ
create_tests_text =
    codes "CREATE TABLE IF NOT EXISTS tests(visit INTEGER NOT NULL, point TEXT NOT NULL, PRIMARY KEY(visit, point)) STRICT"

abbrev pub insert_visit_text : List ℕ
insert_visit_text = codes "INSERT INTO visits(number, day, engineer) VALUES(?1, ?2, ?3) ON CONFLICT DO NOTHING"

abbrev pub select_visit_text : List ℕ
select_visit_text = codes "SELECT day, engineer FROM visits WHERE number = ?1"

abbrev pub insert_test_text : List ℕ
insert_test_text = codes "INSERT INTO tests(visit, point) VALUES(?1, ?2) ON CONFLICT DO NOTHING"

abbrev pub select_tests_text : List ℕ
select_tests_text = codes "SELECT visit FROM tests WHERE point = ?1 ORDER BY visit"

abbrev pub visit_params : VisitRow → Row
visit_params visit = Int (pos visit.number) ∷ Int (pos visit.day) ∷ Text visit.engineer ∷ []

abbrev pub number_params : ℕ → Row
number_params number = Int (pos number) ∷ []

abbrev pub test_params : TestRow → Row
test_params test = Int (pos test.visit) ∷ Text test.point ∷ []

abbrev pub point_params : List ℕ → Row
point_params point = Text point ∷ []
