-- Which keys a table needs, and which it may have, by its type or kind.
use Rattle.std.specs.Prelude.{Bool, true, false}
use Rattle.toml.specs.Data.{Members}
use Rattle.site_document.specs.declared.key.Key.{Key}
use Rattle.site_document.specs.declared.key.Key.TheVariants as key
use Rattle.site_document.specs.declared.words.ZoneType.{ZoneType}
use Rattle.site_document.specs.declared.words.ZoneType.TheVariants as zone
use Rattle.site_document.specs.declared.words.MarkerKind.{MarkerKind}
use Rattle.site_document.specs.declared.words.MarkerKind.TheVariants as marker
use Rattle.site_document.specs.Tables.{type_at, marker_kind_at}

abbrev pub is_a : ZoneType → Bool
is_a zone.Plain = false
is_a zone.A = true
is_a zone.B = false
is_a zone.C = false

abbrev pub is_a_or_b : ZoneType → Bool
is_a_or_b zone.Plain = false
is_a_or_b zone.A = true
is_a_or_b zone.B = true
is_a_or_b zone.C = false

abbrev pub is_b_or_c : ZoneType → Bool
is_b_or_c zone.Plain = false
is_b_or_c zone.A = false
is_b_or_c zone.B = true
is_b_or_c zone.C = true

abbrev pub is_at_least : MarkerKind → Bool
is_at_least marker.All = false
is_at_least marker.Any = false
is_at_least marker.AtLeast = true

-- whether the table needs the key
unfoldable pub is_needed : Key → Members → Bool
is_needed key.Address row = true
is_needed key.ChargerWait row = false
is_needed key.Count row = is_at_least (marker_kind_at row)
is_needed key.Delay row = false
is_needed key.Format row = true
is_needed key.Isolators row = false
is_needed key.Last row = true
is_needed key.Level2 row = false
is_needed key.Level3 row = false
is_needed key.Level4 row = false
is_needed key.Loop row = true
is_needed key.Loops row = false
is_needed key.MainsWait row = false
is_needed key.MarkerKind row = true
is_needed key.Markers row = false
is_needed key.Name row = true
is_needed key.Number row = true
is_needed key.OutputKind row = true
is_needed key.Outputs row = false
is_needed key.Panel row = true
is_needed key.Panels row = true
is_needed key.Partner row = false
is_needed key.PointKind row = false
is_needed key.Points row = false
is_needed key.Site row = true
is_needed key.StandbyWait row = false
is_needed key.Terms row = true
is_needed key.Type row = false
is_needed key.Verify row = is_a (type_at row)
is_needed key.VoltageWait row = false
is_needed key.When row = true
is_needed key.Within row = is_a_or_b (type_at row)
is_needed key.Zone row = true
is_needed key.Zones row = false

-- whether the table may have the key, which stands among the keys of its kind
unfoldable pub is_allowed : Key → Members → Bool
is_allowed key.Address row = true
is_allowed key.ChargerWait row = true
is_allowed key.Count row = is_at_least (marker_kind_at row)
is_allowed key.Delay row = true
is_allowed key.Format row = true
is_allowed key.Isolators row = true
is_allowed key.Last row = true
is_allowed key.Level2 row = true
is_allowed key.Level3 row = true
is_allowed key.Level4 row = true
is_allowed key.Loop row = true
is_allowed key.Loops row = true
is_allowed key.MainsWait row = true
is_allowed key.MarkerKind row = true
is_allowed key.Markers row = true
is_allowed key.Name row = true
is_allowed key.Number row = true
is_allowed key.OutputKind row = true
is_allowed key.Outputs row = true
is_allowed key.Panel row = true
is_allowed key.Panels row = true
is_allowed key.Partner row = is_b_or_c (type_at row)
is_allowed key.PointKind row = true
is_allowed key.Points row = true
is_allowed key.Site row = true
is_allowed key.StandbyWait row = true
is_allowed key.Terms row = true
is_allowed key.Type row = true
is_allowed key.Verify row = is_a (type_at row)
is_allowed key.VoltageWait row = true
is_allowed key.When row = true
is_allowed key.Within row = is_a_or_b (type_at row)
is_allowed key.Zone row = true
is_allowed key.Zones row = true
