-- Which settings that were kept of an old site a new one doesn't take, and the lines that tell them.
use Rattle.std.specs.Prelude.{ℕ, ◌-◌, nat_lt, Bool, not, ◌&&◌, List, ◌++◌, Some, slice_index, codes, decimal}
use Rattle.std.specs.List.{filter, flat_map, range_with_len}
use Rattle.dropped_settings.specs.declared.kind.Kind.TheVariants as kind
use Rattle.dropped_settings.specs.Names.{has_name}
use Rattle.site_types.specs.declared.site.Site.{Site}
use Rattle.site_types.specs.declared.point.Point.{Point}
use Rattle.site_types.specs.declared.zone.Zone.{Zone}
use Rattle.site_types.specs.declared.output.Output.{Output}
use Rattle.site_types.specs.declared.retained.Retained.{Retained}
use Rattle.site_types.specs.Bits.{has_bit}
use Rattle.site_types.specs.Done.{kept_output, kept_point, kept_test, kept_zone}

-- ---- which are dropped

-- a point, a zone or an output that is disabled, and a zone in test: dropped where the new site has nothing of its
-- kind and name
abbrev pub is_dropped_point : Site → Retained → Point → Bool
is_dropped_point new kept point = kept_point kept (Some point) && not (has_name new kind.Point point.name.bytes)

abbrev pub is_dropped_zone : Site → Retained → Zone → Bool
is_dropped_zone new kept zone = kept_zone kept (Some zone) && not (has_name new kind.Zone zone.name.bytes)

abbrev pub is_dropped_output : Site → Retained → Output → Bool
is_dropped_output new kept output = kept_output kept (Some output) && not (has_name new kind.Output output.name.bytes)

abbrev pub is_dropped_test : Site → Retained → Zone → Bool
is_dropped_test new kept zone = kept_test kept (Some zone) && not (has_name new kind.Zone zone.name.bytes)

-- the panels of a site
abbrev pub panels_of : Site → List ℕ
panels_of site = range_with_len 1 site.panels

-- delays that are off, and a counter above 0, of a panel: dropped where the new site hasn't the panel
abbrev pub are_dropped_delays : Site → Retained → ℕ → Bool
are_dropped_delays new kept panel = nat_lt new.panels panel && has_bit kept.delays_off (panel - 1)

abbrev pub counter_of : Retained → ℕ → ℕ
counter_of kept panel = slice_index kept.counters (panel - 1)

abbrev pub is_dropped_counter : Site → Retained → ℕ → Bool
is_dropped_counter new kept panel = nat_lt new.panels panel && nat_lt 0 (counter_of kept panel)

-- ---- their lines

abbrev pub named_line : List ℕ → List ℕ → List ℕ
named_line word name = codes "dropped " ++ word ++ codes " " ++ name ++ codes "\n"

abbrev pub delays_line : ℕ → List ℕ
delays_line panel = codes "dropped delays " ++ decimal panel ++ codes "\n"

abbrev pub counter_line : Retained → ℕ → List ℕ
counter_line kept panel =
    codes "dropped counter " ++ decimal panel ++ codes " " ++ decimal (counter_of kept panel) ++ codes "\n"

-- the lines of those of a list that are dropped, in its order
abbrev pub lines_of : {X : Type 0} → (X → List ℕ) → (X → Bool) → List X → List ℕ
lines_of line is_dropped all = flat_map line (filter is_dropped all)

abbrev pub point_lines : Site → Retained → List Point → List ℕ
point_lines new kept = lines_of (λ (p : Point). named_line (codes "point") p.name.bytes) (is_dropped_point new kept)

abbrev pub zone_lines : Site → Retained → List Zone → List ℕ
zone_lines new kept = lines_of (λ (z : Zone). named_line (codes "zone") z.name.bytes) (is_dropped_zone new kept)

abbrev pub output_lines : Site → Retained → List Output → List ℕ
output_lines new kept = lines_of (λ (o : Output). named_line (codes "output") o.name.bytes) (is_dropped_output new kept)

abbrev pub test_lines : Site → Retained → List Zone → List ℕ
test_lines new kept = lines_of (λ (z : Zone). named_line (codes "test") z.name.bytes) (is_dropped_test new kept)

abbrev pub delays_lines : Site → Retained → List ℕ → List ℕ
delays_lines new kept = lines_of delays_line (are_dropped_delays new kept)

abbrev pub counter_lines : Site → Retained → List ℕ → List ℕ
counter_lines new kept = lines_of (counter_line kept) (is_dropped_counter new kept)

-- all that is dropped: disabled points, zones and outputs, then zones in test, in the order of the old site's lists;
-- then delays and counters by panel
abbrev pub dropped_lines : Site → Site → Retained → List ℕ
dropped_lines old new kept =
    point_lines new kept old.points ++ zone_lines new kept old.zones ++ output_lines new kept old.outputs
    ++ test_lines new kept old.zones ++ delays_lines new kept (panels_of old)
    ++ counter_lines new kept (panels_of old)
