-- What a row of the file spells, and why it is refused where it spells nothing.
use Rattle.std.specs.Prelude.{◌&&◌, ◌^◌, ℕ, Bool, true, false, List, [], ◌∷◌, Option, Some, None, Result, Ok, Err}
use Rattle.std.specs.Prelude.{codes, nat_lt, if◌then◌else◌}
use Rattle.std.specs.Str.{bytes_eq}
use Rattle.service_keepers.specs.Tables.{TestRow, VisitRow}
use Rattle.site_types.specs.Names.{name_of}
use Rattle.site_types.specs.Numbers.{number_of}
use Rattle.site_types.specs.Things.{thing_named}
use Rattle.site_types.specs.declared.named.Thing.{Thing}
use Rattle.site_types.specs.declared.named.Thing.TheVariants.{Point, Zone, Output, Marker}
use Rattle.site_types.specs.declared.site.Site.{Site}

-- a visit, and the name of a point that it tested
pub record ImportedTest : Type 0 where
  pub visit : VisitRow
  pub point : List ℕ

abbrev pub test_of_row : ImportedTest → TestRow
test_of_row row = record { visit = row.visit.number; point = row.point }

-- ---- why a row is refused

-- why a row is refused: it hasn't four fields, or is a header that differs
abbrev pub bad_form : ℕ
bad_form = 1

-- why a row is refused: its visit or its day isn't a number below 2 ^ 32
abbrev pub bad_number : ℕ
bad_number = 2

-- why a row is refused: its engineer isn't a name
abbrev pub bad_engineer : ℕ
bad_engineer = 3

-- why a row is refused: its point isn't the site's
abbrev pub bad_point : ℕ
bad_point = 4

-- why a row is refused: another visit has the number of its visit
abbrev pub other_visit : ℕ
other_visit = 5

-- ---- fields

-- the four fields of a row
pub record Four : Type 0 where
  pub visit : List ℕ
  pub day : List ℕ
  pub engineer : List ℕ
  pub point : List ℕ

abbrev pub four : List (List ℕ) → Option Four
four [] = None
four (a ∷ []) = None
four (a ∷ b ∷ []) = None
four (a ∷ b ∷ c ∷ []) = None
four (a ∷ b ∷ c ∷ d ∷ []) = Some (record { visit = a; day = b; engineer = c; point = d })
four (a ∷ b ∷ c ∷ d ∷ e ∷ rest) = None

-- whether the fields are these texts
abbrev pub are_four : Four → List ℕ → List ℕ → List ℕ → List ℕ → Bool
are_four row visit day engineer point =
    bytes_eq row.visit visit && (bytes_eq row.day day && (bytes_eq row.engineer engineer && bytes_eq row.point point))

-- the fields of the header
abbrev pub is_header : Option Four → Bool
is_header None = false
is_header (Some row) = are_four row (codes "visit") (codes "day") (codes "engineer") (codes "point")

abbrev pub below_limit : Option ℕ → Option ℕ
below_limit None = None
below_limit (Some number) = if nat_lt number (2 ^ 32) then Some number else None

-- the number that a text spells, if it lies below 2 ^ 32
abbrev pub small_number : List ℕ → Option ℕ
small_number text = below_limit (number_of text)

abbrev pub is_point : Option Thing → Bool
is_point None = false
is_point (Some (Point place)) = true
is_point (Some (Zone place)) = false
is_point (Some (Output place)) = false
is_point (Some (Marker place)) = false

-- whether a text is the name of a point of the site
abbrev pub names_point : Site → List ℕ → Bool
names_point site text = is_point (thing_named site text)

-- the row of these parts; the first that isn't there decides
abbrev pub row_of_parts : Option ℕ → Option ℕ → Option (List ℕ) → Bool → List ℕ → Result ImportedTest ℕ
row_of_parts None day engineer is_known point = Err bad_number
row_of_parts (Some number) None engineer is_known point = Err bad_number
row_of_parts (Some number) (Some day) None is_known point = Err bad_engineer
row_of_parts (Some number) (Some day) (Some engineer) false point = Err bad_point
row_of_parts (Some number) (Some day) (Some engineer) true point =
    Ok (record { visit = record { number = number; day = day; engineer = engineer }; point = point })

-- the row of four fields
abbrev pub row_spelled : Site → Option Four → Result ImportedTest ℕ
row_spelled site None = Err bad_form
row_spelled site (Some row) =
    row_of_parts (small_number row.visit) (small_number row.day) (name_of row.engineer) (names_point site row.point)
    row.point
