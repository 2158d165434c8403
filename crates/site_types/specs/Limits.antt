-- The limits of a site and of what speaks of it, apart from those that go by its format.
use Rattle.std.specs.Prelude.{ℕ, List}
use Rattle.std.specs.List.{range_with_len}

-- panels of a site
abbrev pub most_panels : ℕ
most_panels = 8

-- loops, zones and outputs of a panel
abbrev pub most_loops : ℕ
most_loops = 4

abbrev pub most_zones : ℕ
most_zones = 32

abbrev pub most_outputs : ℕ
most_outputs = 32

-- the bits of the outputs that a panel may have
unfoldable pub output_bits : List ℕ
output_bits = range_with_len 0 most_outputs

-- markers of a site, and terms of a marker
abbrev pub most_markers : ℕ
most_markers = 256

abbrev pub most_terms : ℕ
most_terms = 64

-- codes of a level
abbrev pub most_codes : ℕ
most_codes = 16

-- operations that a panel takes in a tick; the others find it busy
abbrev pub most_operations : ℕ
most_operations = 4

-- bytes of a name, of a record's line without its line end, and of a site file
abbrev pub name_bytes : ℕ
name_bytes = 16

abbrev pub line_bytes : ℕ
line_bytes = 512

abbrev pub site_bytes : ℕ
site_bytes = 1048576

-- where an alarm counter stays
abbrev pub greatest_count : ℕ
greatest_count = 999999
