-- The paths of the desk, and what each asks for.
use Rattle.std.specs.Prelude.{◌&&◌, ◌^◌, nat_le, ℕ, Bool, true, false, List, [], ◌∷◌, ◌++◌, codes, drop}
use Rattle.std.specs.Prelude.{Option, Some, None, if◌then◌else◌}
use Rattle.line_fields.specs.Numbers.{number_below}
use Rattle.matchit.specs.Rows.{RowsOf}
use Rattle.matchit.specs.Router.{RouteOf}
use Rattle.matchit.specs.Seek.{first}
use Rattle.desk_requests.specs.declared.paths.Path.{Path}
use Rattle.desk_requests.specs.declared.paths.Path.TheVariants.{Face as AtFace, Ticks as AtTicks, Table as AtTable}
use Rattle.desk_requests.specs.declared.paths.Path.TheVariants.{Visits as AtVisits, Untested as AtUntested}
use Rattle.desk_requests.specs.declared.paths.Path.TheVariants.{Stop as AtStop}
use Rattle.desk_requests.specs.declared.route.Route.{Route}
use Rattle.desk_requests.specs.declared.route.Route.TheVariants.{Face, Ticks, Table, Visits, Untested, Stop}

-- a path as the router keeps it: its bytes, with 256 for a part that is free, its text, where the name of
-- that part stands in it, and what it is
abbrev pub row : List ℕ → List ℕ → List (ℕ × ℕ) → Path → List ℕ × RouteOf Path
row pattern text names value =
    (pattern, record { pattern = pattern; text = text; names = names; value = value })

abbrev pub the_paths : RowsOf (RouteOf Path)
the_paths =
    row (codes "/v1/face/" ++ 256 ∷ []) (codes "/v1/face/{panel}") ((10, 15) ∷ []) AtFace
    ∷ row (codes "/v1/stop") (codes "/v1/stop") [] AtStop
    ∷ row (codes "/v1/table") (codes "/v1/table") [] AtTable
    ∷ row (codes "/v1/ticks") (codes "/v1/ticks") [] AtTicks
    ∷ row (codes "/v1/untested/" ++ 256 ∷ []) (codes "/v1/untested/{day}") ((14, 17) ∷ []) AtUntested
    ∷ row (codes "/v1/visits") (codes "/v1/visits") [] AtVisits
    ∷ []

abbrev pub face_route : ℕ → Option ℕ → Option Route
face_route panels None = None
face_route panels (Some panel) = if nat_le 1 panel && nat_le panel panels then Some (Face panel) else None

abbrev pub untested_since : Option ℕ → Option Route
untested_since None = None
untested_since (Some day) = Some (Untested day)

-- what a path that has matched asks for: with a number behind it, only where that is a panel's or a day's
abbrev pub route_at : ℕ → List ℕ → Path → Option Route
route_at panels target AtFace = face_route panels (number_below 256 (drop 9 target))
route_at panels target AtTicks = Some Ticks
route_at panels target AtTable = Some Table
route_at panels target AtVisits = Some Visits
route_at panels target AtUntested = untested_since (number_below (2 ^ 32) (drop 13 target))
route_at panels target AtStop = Some Stop

abbrev pub route_found : ℕ → List ℕ → Option (RouteOf Path) → Option Route
route_found panels target None = None
route_found panels target (Some found) = route_at panels target found.value

-- what a target asks for at a site with so many panels
abbrev pub route_of : ℕ → List ℕ → Option Route
route_of panels target = route_found panels target (first the_paths target)

-- what is asked for with a body, by POST; the others are asked for by GET
abbrev pub is_posted : Route → Bool
is_posted (Face panel) = false
is_posted Ticks = true
is_posted Table = false
is_posted Visits = true
is_posted (Untested day) = false
is_posted Stop = true
