-- The constants of the code are the limits.
use Rattle.std.proofs.Common.{◌≡◌, refl}
use Rattle.site_types.specs.declared.limits.TheConstants.{MOST_PANELS, MOST_LOOPS, MOST_ZONES, MOST_OUTPUTS}
use Rattle.site_types.specs.declared.limits.TheConstants.{MOST_MARKERS, MOST_TERMS, MOST_CODES, MOST_OPERATIONS}
use Rattle.site_types.specs.declared.limits.TheConstants.{NAME_BYTES, LINE_BYTES, SITE_BYTES, GREATEST_COUNT}
use Rattle.site_types.specs.Limits.{most_panels, most_loops, most_zones, most_outputs, most_markers, most_terms, most_codes, most_operations, name_bytes, line_bytes, site_bytes, greatest_count}

pub of_panels : MOST_PANELS ≡ most_panels
of_panels = refl

pub of_a_panel : (MOST_LOOPS ≡ most_loops) × (MOST_ZONES ≡ most_zones) × (MOST_OUTPUTS ≡ most_outputs)
of_a_panel = (refl, refl, refl)

pub of_a_site : (MOST_MARKERS ≡ most_markers) × (MOST_TERMS ≡ most_terms) × (MOST_CODES ≡ most_codes) × (MOST_OPERATIONS ≡ most_operations)
of_a_site = (refl, refl, refl, refl)

pub of_bytes : (NAME_BYTES ≡ name_bytes) × (LINE_BYTES ≡ line_bytes) × (SITE_BYTES ≡ site_bytes) × (GREATEST_COUNT ≡ greatest_count)
of_bytes = (refl, refl, refl, refl)
