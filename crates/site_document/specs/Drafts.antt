-- The draft that a document spells: the records of a site with names where a site has places. It is the
-- document's, field by field, where nothing is absent, of a wrong kind, unknown or out of range.
use Rattle.std.specs.Prelude.{ℕ, ℤ, List, [], ◌∷◌, ◌++◌, Option, Some, None, Bool, false, nat_lt, option_to_list}
use Rattle.std.specs.Prelude.{option_map, if◌then◌else◌}
use Rattle.std.specs.Result.{result_ok}
use Rattle.hex.specs.Hex.{decode_sized}
use Rattle.toml.specs.Data.{Data, Items, no_items, item, Members, as_integer, as_str, as_table}
use Rattle.site_types.specs.Numbers.{number_of}
use Rattle.site_types.specs.declared.combine.Combine.{Combine}
use Rattle.site_types.specs.declared.combine.Combine.TheVariants as combine
use Rattle.site_types.specs.declared.loop_plan.LoopPlan.{LoopPlan}
use Rattle.site_types.specs.declared.output_kind.OutputKind.{OutputKind}
use Rattle.site_types.specs.declared.output_kind.OutputKind.TheVariants as output
use Rattle.site_types.specs.declared.rule.Rule.{Rule}
use Rattle.site_types.specs.declared.rule.Rule.TheVariants as rule
use Rattle.site_types.specs.declared.waits.Waits.{Waits}
use Rattle.site_document.specs.declared.draft.Draft.{Draft}
use Rattle.site_document.specs.declared.draft_marker.DraftMarker.{DraftMarker}
use Rattle.site_document.specs.declared.draft_output.DraftOutput.{DraftOutput}
use Rattle.site_document.specs.declared.draft_point.DraftPoint.{DraftPoint}
use Rattle.site_document.specs.declared.draft_term.DraftTerm.{DraftTerm}
use Rattle.site_document.specs.declared.draft_term.DraftTerm.TheVariants as term
use Rattle.site_document.specs.declared.draft_zone.DraftZone.{DraftZone}
use Rattle.site_document.specs.declared.key.Key.{Key}
use Rattle.site_document.specs.declared.key.Key.TheVariants as key
use Rattle.site_document.specs.declared.terms.TermKind.{TermKind}
use Rattle.site_document.specs.declared.terms.TermKind.TheVariants as kind
use Rattle.site_document.specs.declared.words.MarkerKind.{MarkerKind}
use Rattle.site_document.specs.declared.words.MarkerKind.TheVariants as marker
use Rattle.site_document.specs.declared.words.ZoneType.{ZoneType}
use Rattle.site_document.specs.declared.words.ZoneType.TheVariants as zone
use Rattle.site_document.specs.Tables.{format_at, natural_at, natural_in, text_at, items_at, type_at, marker_kind_at}
use Rattle.site_document.specs.Terms.{split_term}
use Rattle.site_document.specs.Words.{is_manual_of, output_kind_of}

-- ---- single values

-- a number that fits a byte, or two bytes; 0 in place of others
abbrev pub byte_of : ℕ → ℕ
byte_of n = if nat_lt n 256 then n else 0

abbrev pub short_of : ℕ → ℕ
short_of n = if nat_lt n 65536 then n else 0

abbrev pub text_or_empty : Option (List ℕ) → List ℕ
text_or_empty None = []
text_or_empty (Some text) = text

abbrev pub byte_at : Key → Members → ℕ
byte_at key row = byte_of (natural_at key row)

abbrev pub short_at : Key → Members → ℕ
short_at key row = short_of (natural_at key row)

abbrev pub name_at : Key → Members → List ℕ
name_at key row = text_or_empty (text_at key row)

-- ---- lists: the items that have their form, in their order

abbrev pub collected : {X : Type 0} → (Data → Option X) → Items → List X
collected read no_items = []
collected read (item value items) = option_to_list (read value) ++ collected read items

abbrev pub digest_in : Option (List ℕ) → Option (List ℕ)
digest_in None = None
digest_in (Some text) = result_ok (decode_sized text 32)

-- the 32 bytes that a text of hexadecimal digits spells
unfoldable pub digest_from : Data → Option (List ℕ)
digest_from value = digest_in (as_str value)

abbrev pub isolator_in : Option ℤ → Option ℕ
isolator_in None = None
isolator_in (Some z) = Some (byte_of (natural_in (Some z)))

unfoldable pub isolator_from : Data → Option ℕ
isolator_from value = isolator_in (as_integer value)

abbrev pub fault_term : Option ℕ → Option DraftTerm
fault_term None = None
fault_term (Some panel) = Some (term.Fault panel)

abbrev pub term_as : TermKind → List ℕ → Option DraftTerm
term_as kind.Zone rest = Some (term.Zone rest)
term_as kind.Manual rest = Some (term.Manual rest)
term_as kind.Fault rest = fault_term (number_of rest)
term_as kind.Marker rest = Some (term.Marker rest)

abbrev pub term_of_parts : Option (TermKind × List ℕ) → Option DraftTerm
term_of_parts None = None
term_of_parts (Some parts) = term_as parts.0 parts.1

abbrev pub term_in : Option (List ℕ) → Option DraftTerm
term_in None = None
term_in (Some text) = term_of_parts (split_term text)

unfoldable pub term_from : Data → Option DraftTerm
term_from value = term_in (as_str value)

-- ---- tables

unfoldable pub loop_of : Members → LoopPlan
loop_of row = record {
  panel = byte_at key.Panel row;
  line = byte_at key.Loop row;
  last = byte_at key.Last row;
  isolators = collected isolator_from (items_at key.Isolators row);
}

abbrev pub rule_as : ZoneType → ℕ → ℕ → Rule
rule_as zone.Plain verify within = rule.Plain
rule_as zone.A verify within = rule.A verify within
rule_as zone.B verify within = rule.B within
rule_as zone.C verify within = rule.C

unfoldable pub zone_of : Members → DraftZone
zone_of row = record {
  name = name_at key.Name row;
  panel = byte_at key.Panel row;
  number = byte_at key.Number row;
  rule = rule_as (type_at row) (short_at key.Verify row) (short_at key.Within row);
  partner = text_at key.Partner row;
}

-- a point is a detector where its kind is absent
abbrev pub manual_or_not : Option Bool → Bool
manual_or_not None = false
manual_or_not (Some manual) = manual

unfoldable pub is_manual_at : Members → Bool
is_manual_at row = manual_or_not (is_manual_of (name_at key.PointKind row))

unfoldable pub point_of : Members → DraftPoint
point_of row = record {
  name = name_at key.Name row;
  panel = byte_at key.Panel row;
  line = byte_at key.Loop row;
  address = byte_at key.Address row;
  zone = name_at key.Zone row;
  manual = is_manual_at row;
}

abbrev pub kind_or_sounder : Option OutputKind → OutputKind
kind_or_sounder None = output.Sounder
kind_or_sounder (Some kind) = kind

unfoldable pub output_kind_at : Members → OutputKind
output_kind_at row = kind_or_sounder (output_kind_of (name_at key.OutputKind row))

unfoldable pub output_of : Members → DraftOutput
output_of row = record {
  name = name_at key.Name row;
  panel = byte_at key.Panel row;
  number = byte_at key.Number row;
  kind = output_kind_at row;
  marker = name_at key.When row;
  delay = short_at key.Delay row;
}

abbrev pub combine_as : MarkerKind → ℕ → Combine
combine_as marker.All count = combine.All
combine_as marker.Any count = combine.Any
combine_as marker.AtLeast count = combine.AtLeast count

unfoldable pub marker_of : Members → DraftMarker
marker_of row = record {
  name = name_at key.Name row;
  combine = combine_as (marker_kind_at row) (byte_at key.Count row);
  terms = collected term_from (items_at key.Terms row);
}

unfoldable pub waits_of : Members → Waits
waits_of top = record {
  mains = short_at key.MainsWait top;
  standby = short_at key.StandbyWait top;
  voltage = short_at key.VoltageWait top;
  charger = short_at key.ChargerWait top;
}

-- ---- the whole

-- what a table of a list spells
abbrev pub from_table : {X : Type 0} → (Members → X) → Data → Option X
from_table read value = option_map read (as_table value)

unfoldable pub draft_of : Members → Draft
draft_of top = record {
  format = format_at top;
  name = name_at key.Site top;
  panels = byte_at key.Panels top;
  waits = waits_of top;
  codes = collected digest_from (items_at key.Level2 top) ∷ collected digest_from (items_at key.Level3 top)
      ∷ collected digest_from (items_at key.Level4 top) ∷ [];
  loops = collected (from_table loop_of) (items_at key.Loops top);
  zones = collected (from_table zone_of) (items_at key.Zones top);
  points = collected (from_table point_of) (items_at key.Points top);
  outputs = collected (from_table output_of) (items_at key.Outputs top);
  markers = collected (from_table marker_of) (items_at key.Markers top);
}
