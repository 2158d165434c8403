-- What a move tells: what was dropped, and how many settings the new site begins with.
use Rattle.std.specs.Prelude.{ℕ, List, ◌++◌, Some, codes, count_by, decimal}
use Rattle.dropped_settings.specs.Dropped.{dropped_lines}
use Rattle.site_types.specs.declared.site.Site.{Site}
use Rattle.site_types.specs.declared.point.Point.{Point}
use Rattle.site_types.specs.declared.zone.Zone.{Zone}
use Rattle.site_types.specs.declared.output.Output.{Output}
use Rattle.site_types.specs.declared.retained.Retained.{Retained}
use Rattle.site_types.specs.Carry.{carried}
use Rattle.site_types.specs.Done.{kept_output, kept_point, kept_test, kept_zone}

-- how many points, zones and outputs of a site are disabled, and how many of its zones in test
abbrev pub points_off : Site → Retained → ℕ
points_off site kept = count_by (λ (p : Point). kept_point kept (Some p)) site.points

abbrev pub zones_off : Site → Retained → ℕ
zones_off site kept = count_by (λ (z : Zone). kept_zone kept (Some z)) site.zones

abbrev pub outputs_off : Site → Retained → ℕ
outputs_off site kept = count_by (λ (o : Output). kept_output kept (Some o)) site.outputs

abbrev pub zones_in_test : Site → Retained → ℕ
zones_in_test site kept = count_by (λ (z : Zone). kept_test kept (Some z)) site.zones

-- the numbers set in a site, by what it begins with
abbrev pub moved_line : Site → Retained → List ℕ
moved_line site kept =
    codes "moved points " ++ decimal (points_off site kept) ++ codes " zones " ++ decimal (zones_off site kept)
    ++ codes " outputs " ++ decimal (outputs_off site kept) ++ codes " tests "
    ++ decimal (zones_in_test site kept) ++ codes "\n"

-- the text of a move: what was dropped of what was kept, and the numbers set in the new site
abbrev pub moved_text : Site → Site → Retained → List ℕ
moved_text old new kept = dropped_lines old new kept ++ moved_line new (carried old new kept)
