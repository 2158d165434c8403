-- The table of points with their last days, as CSV.
use Rattle.std.specs.Prelude.{◌≡◌, ◌++◌, ◌∷◌, [], ℕ, false, List, Option, Some, None, codes, decimal, flat_map}
use Rattle.std.specs.Prelude.{slice_get}
use Rattle.csv.specs.Writing.{default_writer, fields_written, has_written, row_text, text_written, writer_setup}
use Rattle.csv.specs.declared.writer.Writer.{Writer}
use Rattle.service_keepers.specs.Tables.{Tables, last_day_of}
use Rattle.service_register.specs.Points.{PointRow}

-- a last day in digits, and nothing for none
abbrev pub last_text : Option ℕ → List ℕ
last_text None = []
last_text (Some day) = decimal day

-- a row of three fields
abbrev pub three_fields : List ℕ → List ℕ → List ℕ → List ℕ
three_fields first second third = row_text default_writer (first ∷ second ∷ third ∷ [])

-- the row of a point with a last day
abbrev pub point_text : PointRow → Option ℕ → List ℕ
point_text point last = three_fields point.name point.zone (last_text last)

-- the row of the point at a place, by what is kept
abbrev pub place_text : Tables → Option PointRow → List ℕ
place_text kept None = []
place_text kept (Some point) = point_text point (last_day_of point.name kept)

-- the row above all others
abbrev pub header_text : List ℕ
header_text = three_fields (codes "point") (codes "zone") (codes "last")

-- the rows of the points at some places
abbrev pub rows_text : Tables → List PointRow → List ℕ → List ℕ
rows_text kept points places = flat_map (λ place. place_text kept (slice_get points place)) places

-- the table of the points at some places
abbrev pub csv_text : Tables → List PointRow → List ℕ → List ℕ
csv_text kept points places = header_text ++ rows_text kept points places

-- a writer with the defaults stands behind a whole row, and this is what it wrote
pub record IsWriting {W : Type 0} (contents : W → Option (List ℕ)) (writer : Writer W) (text : List ℕ) : Type 0 where
  pub ended : fields_written writer ≡ 0
  pub clean : has_written writer ≡ false
  pub setup : writer_setup writer ≡ default_writer
  pub written : text_written contents writer ≡ Some text

-- a writer with the defaults, which stood behind a whole row, wrote this behind what it had written before, and stands
-- behind a whole row again
abbrev pub Writes : {W : Type 0} → (W → Option (List ℕ)) → Writer W → Writer W → List ℕ → Type 0
Writes contents old new added = (text : List ℕ) → IsWriting contents old text
    → IsWriting contents new (text ++ added)
