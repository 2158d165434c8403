-- Fifth refusal of a site file: a number outside its range, an isolator that isn't above the one before, a
-- list that is too long or empty.
use Rattle.std.specs.Prelude.{ℕ, ℤ, List, pos, negsuc, ◌+◌, Bool, false, ◌&&◌, nat_le, nat_lt, Option, Some, None}
use Rattle.std.specs.Prelude.{if◌then◌else◌}
use Rattle.toml.specs.Data.{Items, no_items, item, Members, as_integer}
use Rattle.site_types.specs.Limits.{most_panels, most_loops, most_zones, most_markers, most_terms, most_codes}
use Rattle.site_types.specs.Profile.{last_address_of, greatest_mains_wait_of, greatest_standby_wait_of}
use Rattle.site_types.specs.Profile.{greatest_voltage_wait_of, greatest_charger_wait_of, greatest_delay_of}
use Rattle.site_types.specs.Profile.{least_verify_of, greatest_verify_of, least_within_a_of, least_within_b_of}
use Rattle.site_types.specs.Profile.{greatest_within_of}
use Rattle.site_document.specs.declared.form.Form.{Form}
use Rattle.site_document.specs.declared.form.Form.TheVariants as form
use Rattle.site_document.specs.declared.key.Key.{Key}
use Rattle.site_document.specs.declared.key.Key.TheVariants as key
use Rattle.site_document.specs.declared.place.Place.{Place}
use Rattle.site_document.specs.declared.ranges.Range.{Range}
use Rattle.site_document.specs.declared.words.ZoneType.{ZoneType}
use Rattle.site_document.specs.declared.words.ZoneType.TheVariants as zone
use Rattle.site_document.specs.Refusals.{Refusal, out_of_range, or_later}
use Rattle.site_document.specs.Rules.{form_of}
use Rattle.site_document.specs.Tables.{format_at, natural_at, integer_at, items_at, count_of, natural_in, type_at}
use Rattle.site_document.specs.Texts.{key_text, item_text, key_word}

abbrev pub from_to : ℕ → ℕ → Range
from_to least greatest = record { least = least; greatest = greatest }

-- how far apart two detectors may be, by the type of the zone
abbrev pub within_range : ZoneType → ℕ → ℕ → Range
within_range zone.Plain format verify = from_to (least_within_b_of format) (greatest_within_of format)
within_range zone.A format verify = from_to (least_within_a_of format verify) (greatest_within_of format)
within_range zone.B format verify = from_to (least_within_b_of format) (greatest_within_of format)
within_range zone.C format verify = from_to (least_within_b_of format) (greatest_within_of format)

-- the numbers that a key may have in a table, under the table of the whole file
unfoldable pub range_of : Key → Members → Members → Range
range_of key.Address top row = from_to 1 (last_address_of (format_at top))
range_of key.ChargerWait top row = from_to 0 (greatest_charger_wait_of (format_at top))
range_of key.Count top row = from_to 1 (count_of (items_at key.Terms row))
range_of key.Delay top row = from_to 0 (greatest_delay_of (format_at top))
range_of key.Format top row = from_to 1 2
range_of key.Isolators top row = from_to 0 0
range_of key.Last top row = from_to 1 (last_address_of (format_at top))
range_of key.Level2 top row = from_to 0 0
range_of key.Level3 top row = from_to 0 0
range_of key.Level4 top row = from_to 0 0
range_of key.Loop top row = from_to 1 most_loops
range_of key.Loops top row = from_to 0 0
range_of key.MainsWait top row = from_to 0 (greatest_mains_wait_of (format_at top))
range_of key.MarkerKind top row = from_to 0 0
range_of key.Markers top row = from_to 0 0
range_of key.Name top row = from_to 0 0
range_of key.Number top row = from_to 1 most_zones
range_of key.OutputKind top row = from_to 0 0
range_of key.Outputs top row = from_to 0 0
range_of key.Panel top row = from_to 1 (natural_at key.Panels top)
range_of key.Panels top row = from_to 1 most_panels
range_of key.Partner top row = from_to 0 0
range_of key.PointKind top row = from_to 0 0
range_of key.Points top row = from_to 0 0
range_of key.Site top row = from_to 0 0
range_of key.StandbyWait top row = from_to 0 (greatest_standby_wait_of (format_at top))
range_of key.Terms top row = from_to 0 0
range_of key.Type top row = from_to 0 0
range_of key.Verify top row = from_to (least_verify_of (format_at top)) (greatest_verify_of (format_at top))
range_of key.VoltageWait top row = from_to 0 (greatest_voltage_wait_of (format_at top))
range_of key.When top row = from_to 0 0
range_of key.Within top row = within_range (type_at row) (format_at top) (natural_at key.Verify row)
range_of key.Zone top row = from_to 0 0
range_of key.Zones top row = from_to 0 0

abbrev pub contains : Range → ℤ → Bool
contains range (pos n) = nat_le range.least n && nat_le n range.greatest
contains range (negsuc n) = false

-- how many items the list at a key may have, where it has a limit
unfoldable pub length_range : Key → Option Range
length_range key.Address = None
length_range key.ChargerWait = None
length_range key.Count = None
length_range key.Delay = None
length_range key.Format = None
length_range key.Isolators = None
length_range key.Last = None
length_range key.Level2 = Some (from_to 0 most_codes)
length_range key.Level3 = Some (from_to 0 most_codes)
length_range key.Level4 = Some (from_to 0 most_codes)
length_range key.Loop = None
length_range key.Loops = None
length_range key.MainsWait = None
length_range key.MarkerKind = None
length_range key.Markers = Some (from_to 0 most_markers)
length_range key.Name = None
length_range key.Number = None
length_range key.OutputKind = None
length_range key.Outputs = None
length_range key.Panel = None
length_range key.Panels = None
length_range key.Partner = None
length_range key.PointKind = None
length_range key.Points = None
length_range key.Site = None
length_range key.StandbyWait = None
length_range key.Terms = Some (from_to 1 most_terms)
length_range key.Type = None
length_range key.Verify = None
length_range key.VoltageWait = None
length_range key.When = None
length_range key.Within = None
length_range key.Zone = None
length_range key.Zones = None

-- a number outside its range
abbrev pub number_out : Range → List ℕ → Option ℤ → Option Refusal
number_out range text None = None
number_out range text (Some z) = if contains range z then None else Some (out_of_range text z)

-- a list that is too long or too short, with its length
abbrev pub length_out : Option Range → List ℕ → ℕ → Option Refusal
length_out None text n = None
length_out (Some range) text n = if contains range (pos n) then None else Some (out_of_range text (pos n))

-- the number is above the one before and below the end
abbrev pub is_between : ℕ → ℕ → ℤ → Bool
is_between before end (pos n) = nat_lt before n && nat_lt n end
is_between before end (negsuc n) = false

-- an isolator that isn't above the one before and below the end
abbrev pub fall_at : Place → ℕ → ℕ → ℕ → Option ℤ → Option Refusal
fall_at place before end n None = None
fall_at place before end n (Some z) =
    if is_between before end z then None else Some
    (out_of_range (item_text place (key_word key.Isolators) n) z)

-- the isolator that the next one has to be above
abbrev pub next_before : ℕ → Option ℤ → ℕ
next_before before None = before
next_before before (Some z) = natural_in (Some z)

-- the first isolator of a list, with its place, that isn't above the one before and below the end
abbrev pub first_fall : Place → ℕ → ℕ → ℕ → Items → Option Refusal
first_fall place before end n no_items = None
first_fall place before end n (item value items) =
    or_later (fall_at place before end n (as_integer value))
    (first_fall place (next_before before (as_integer value)) end (n + 1) items)

abbrev pub out_by : Form → Place → Members → Members → Key → Option Refusal
out_by form.Number place top row k =
    number_out (range_of k top row) (key_text place (key_word k)) (integer_at k row)
out_by form.Numbers place top row k = first_fall place 0 (natural_at key.Last row) 1 (items_at k row)
out_by form.Digests place top row k =
    length_out (length_range k) (key_text place (key_word k)) (count_of (items_at k row))
out_by form.Terms place top row k =
    length_out (length_range k) (key_text place (key_word k)) (count_of (items_at k row))
out_by form.Tables place top row k =
    length_out (length_range k) (key_text place (key_word k)) (count_of (items_at k row))
out_by form.Name place top row k = None
out_by form.ZoneType place top row k = None
out_by form.PointKind place top row k = None
out_by form.OutputKind place top row k = None
out_by form.MarkerKind place top row k = None

-- what is out of range at a key: isolators rise strictly from 1 and stay below the last address
unfoldable pub out_at : Place → Members → Members → Key → Option Refusal
out_at place top row k = out_by (form_of k) place top row k
