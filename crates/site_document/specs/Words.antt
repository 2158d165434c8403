-- The words that a type or a kind is written by.
use Rattle.std.specs.Prelude.{ℕ, List, Option, Some, None, Bool, true, false, codes, if◌then◌else◌}
use Rattle.std.specs.Str.{bytes_eq}
use Rattle.site_document.specs.declared.words.ZoneType.{ZoneType}
use Rattle.site_document.specs.declared.words.ZoneType.TheVariants as zone
use Rattle.site_document.specs.declared.words.MarkerKind.{MarkerKind}
use Rattle.site_document.specs.declared.words.MarkerKind.TheVariants as marker
use Rattle.site_types.specs.declared.output_kind.OutputKind.{OutputKind}
use Rattle.site_types.specs.declared.output_kind.OutputKind.TheVariants as output

-- the type of a zone
unfoldable pub zone_type_of : List ℕ → Option ZoneType
zone_type_of s =
    if bytes_eq s (codes "none")
    then Some zone.Plain
    else (if bytes_eq s (codes "a") then Some zone.A else (if bytes_eq s (codes "b") then Some zone.B else (if bytes_eq s (codes "c") then Some zone.C else None)))

-- whether a point is a manual call point
unfoldable pub is_manual_of : List ℕ → Option Bool
is_manual_of s =
    if bytes_eq s (codes "detector") then Some false else
    (if bytes_eq s (codes "manual") then Some true else None)

-- the kind of an output
unfoldable pub output_kind_of : List ℕ → Option OutputKind
output_kind_of s =
    if bytes_eq s (codes "sounder")
    then Some output.Sounder
    else (if bytes_eq s (codes "routing")
    then Some output.Routing
    else (if bytes_eq s (codes "protection") then Some output.Protection else
    (if bytes_eq s (codes "relay") then Some output.Relay else None)))

-- the kind of a marker
unfoldable pub marker_kind_of : List ℕ → Option MarkerKind
marker_kind_of s =
    if bytes_eq s (codes "all")
    then Some marker.All
    else (if bytes_eq s (codes "any") then Some marker.Any else (if bytes_eq s (codes "atleast") then Some marker.AtLeast else None))
