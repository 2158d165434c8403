-- The points of a site as the register lists them, and which of them are due.
use Rattle.std.specs.Prelude.{ℕ, Bool, true, List, [], Option, Some, None, nat_lt, map, filter, slice_get, unwrap_or}
use Rattle.std.specs.Prelude.{option_map}
use Rattle.std.specs.List.{enumerate_from, list_any}
use Rattle.std.specs.Str.{bytes_eq}
use Rattle.service_keepers.specs.Tables.{Tables, last_day_of}
use Rattle.site_types.specs.declared.point.Point.{Point}
use Rattle.site_types.specs.declared.site.Site.{Site}
use Rattle.site_types.specs.declared.zone.Zone.{Zone}

-- a point by its name and its zone's
pub record PointRow : Type 0 where
  pub name : List ℕ
  pub zone : List ℕ

-- the name of the zone at a place
abbrev pub name_of_zone : Option Zone → List ℕ
name_of_zone zone = unwrap_or (option_map (λ (zone : Zone). zone.name.bytes) zone) []

abbrev pub point_row : Site → Point → PointRow
point_row site point = record { name = point.name.bytes; zone = name_of_zone (slice_get site.zones point.zone) }

-- the points of a site, in its order
abbrev pub points_of : Site → List PointRow
points_of site = map (point_row site) site.points

-- whether a point of this name is among these
abbrev pub lists_point : List ℕ → List PointRow → Bool
lists_point name points = list_any (λ (point : PointRow). bytes_eq point.name name) points

-- whether a last day is before another, or there is none
abbrev pub is_before : ℕ → Option ℕ → Bool
is_before day None = true
is_before day (Some last) = nat_lt last day

-- whether a point, listed with its place, hasn't been tested since a day
abbrev pub is_untested : ℕ → Tables → ℕ × PointRow → Bool
is_untested day kept listed = is_before day (last_day_of listed.1.name kept)

-- the places, counted on from one, of the points that haven't been tested since a day
abbrev pub untested_from : ℕ → ℕ → Tables → List PointRow → List ℕ
untested_from first day kept points =
    map (λ (listed : ℕ × PointRow). listed.0) (filter (is_untested day kept) (enumerate_from first points))

-- the places of the points that haven't been tested since a day
abbrev pub untested : ℕ → Tables → List PointRow → List ℕ
untested day kept points = untested_from 0 day kept points
