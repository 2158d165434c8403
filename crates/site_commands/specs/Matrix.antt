-- The matrix of a site: for each zone the outputs that are asked for where it alone is released.
use Rattle.std.specs.Prelude.{◌≡◌, ℕ, zero, suc, ◌-◌, Bool, true, List, [], ◌∷◌, ◌++◌, Option, Some, None, length}
use Rattle.std.specs.Prelude.{replicate, slice_get, slice_set, codes, if◌then◌else◌}
use Rattle.std.specs.Int.{w32}
use Rattle.site_types.specs.Bits.{with_bit}
use Rattle.site_types.specs.declared.site.Site.{Site}
use Rattle.site_types.specs.declared.zone.Zone.{Zone}
use Rattle.site_types.specs.declared.output.Output.{Output}
use Rattle.marker_table.specs.declared.facts.Facts.{Facts}
use Rattle.cause_effect.specs.Solutions.{IsSolution}

-- one zone is released, no manual call point is in alarm and no panel has a fault
abbrev pub released_alone : Zone → Facts
released_alone zone =
    record {
      zones = slice_set (replicate 8 0) (zone.panel - 1) (with_bit w32 0 (zone.number - 1) true);
      manual = replicate 8 0;
      faults = 0;
    }

-- the names of the outputs whose markers are true, in the order of the list, a space before each
abbrev pub names_asked : (ℕ → Bool) → List Output → List ℕ
names_asked values [] = []
names_asked values (output ∷ rest) = (if values output.marker then codes " " ++ output.name.bytes else [])
    ++ names_asked values rest

-- the line of a zone: its name, then those of the outputs that are asked for
abbrev pub line_of_zone : Site → (ℕ → Bool) → Option Zone → List ℕ
line_of_zone site values None = []
line_of_zone site values (Some zone) = zone.name.bytes ++ names_asked values site.outputs ++ codes "\n"

-- the lines of the first zones of a site, with the values of its markers for each zone
unfoldable pub lines_of_zones : Site → (ℕ → ℕ → Bool) → ℕ → List ℕ
lines_of_zones site values zero = []
lines_of_zones site values (suc k) =
    lines_of_zones site values k ++ line_of_zone site (values k) (slice_get site.zones k)

-- a line for each zone, in the order of the site, by the solution where that zone alone is released
pub record IsMatrix (site : Site) (text : List ℕ) : Type 0 where
  pub values : ℕ → ℕ → Bool
  pub solved : (k : ℕ) (zone : Zone) → slice_get site.zones k ≡ Some zone
      → IsSolution site (released_alone zone) (values k)
  pub lines : text ≡ lines_of_zones site values (length site.zones)
