-- What a table of a site file says at its keys.
use Rattle.std.specs.Prelude.{ℕ, ℤ, pos, negsuc, ◌+◌, ◌==◌, List, Option, Some, None, if◌then◌else◌}
use Rattle.toml.specs.Data.{Data, string, integer, float, boolean, datetime, array, table, Items, no_items, item}
use Rattle.toml.specs.Data.{Members, get_member, as_integer, as_str}
use Rattle.site_document.specs.declared.key.Key.{Key}
use Rattle.site_document.specs.declared.key.Key.TheVariants as key
use Rattle.site_document.specs.declared.row_kind.RowKind.{RowKind}
use Rattle.site_document.specs.declared.row_kind.RowKind.TheVariants as kind
use Rattle.site_document.specs.declared.words.ZoneType.{ZoneType}
use Rattle.site_document.specs.declared.words.ZoneType.TheVariants as zone
use Rattle.site_document.specs.declared.words.MarkerKind.{MarkerKind}
use Rattle.site_document.specs.declared.words.MarkerKind.TheVariants as marker
use Rattle.site_document.specs.Texts.{key_word}
use Rattle.site_document.specs.Words.{zone_type_of, marker_kind_of}

-- the value at a key
abbrev pub value_at : Key → Members → Option Data
value_at key row = get_member (key_word key) row

-- the items of a list; none of what isn't a list
abbrev pub items_in : Option Data → Items
items_in (Some (array items)) = items
items_in (Some (string _)) = no_items
items_in (Some (integer _)) = no_items
items_in (Some (float _)) = no_items
items_in (Some (boolean _)) = no_items
items_in (Some (datetime _)) = no_items
items_in (Some (table _)) = no_items
items_in None = no_items

-- how many items
abbrev pub count_of : Items → ℕ
count_of no_items = 0
count_of (item _ items) = count_of items + 1

-- the items of the list at a key
unfoldable pub items_at : Key → Members → Items
items_at key row = items_in (value_at key row)

abbrev pub integer_in : Option Data → Option ℤ
integer_in None = None
integer_in (Some value) = as_integer value

-- the whole number at a key
unfoldable pub integer_at : Key → Members → Option ℤ
integer_at key row = integer_in (value_at key row)

abbrev pub natural_in : Option ℤ → ℕ
natural_in (Some (pos n)) = n
natural_in (Some (negsuc _)) = 0
natural_in None = 0

-- the number from 0 at a key; 0 where there is none
unfoldable pub natural_at : Key → Members → ℕ
natural_at key row = natural_in (integer_at key row)

abbrev pub text_in : Option Data → Option (List ℕ)
text_in None = None
text_in (Some value) = as_str value

-- the text at a key
unfoldable pub text_at : Key → Members → Option (List ℕ)
text_at key row = text_in (value_at key row)

abbrev pub type_or_plain : Option ZoneType → ZoneType
type_or_plain (Some type) = type
type_or_plain None = zone.Plain

abbrev pub type_in : Option (List ℕ) → ZoneType
type_in None = zone.Plain
type_in (Some word) = type_or_plain (zone_type_of word)

-- the type of a zone, which is none where the key is absent or wrong
unfoldable pub type_at : Members → ZoneType
type_at row = type_in (text_at key.Type row)

abbrev pub kind_or_any : Option MarkerKind → MarkerKind
kind_or_any (Some kind) = kind
kind_or_any None = marker.Any

abbrev pub kind_in : Option (List ℕ) → MarkerKind
kind_in None = marker.Any
kind_in (Some word) = kind_or_any (marker_kind_of word)

-- the kind of a marker, which is any where the key is absent or wrong
unfoldable pub marker_kind_at : Members → MarkerKind
marker_kind_at row = kind_in (text_at key.MarkerKind row)

-- the list of a kind of table
abbrev pub list_key : RowKind → Key
list_key kind.Top = key.Zones
list_key kind.Loop = key.Loops
list_key kind.Zone = key.Zones
list_key kind.Point = key.Points
list_key kind.Output = key.Outputs
list_key kind.Marker = key.Markers

-- the format of a site: 2 where the file says so, else 1
unfoldable pub format_at : Members → ℕ
format_at top = if natural_at key.Format top == 2 then 2 else 1
