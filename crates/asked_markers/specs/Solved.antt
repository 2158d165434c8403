-- What is kept of the facts that were told, and what it tells.
use Rattle.std.specs.Prelude.{◌≡◌, ℕ, Bool, Some, slice_get}
use Rattle.site_types.specs.declared.output.Output.{Output}
use Rattle.site_types.specs.declared.site.Site.{Site}
use Rattle.site_types.specs.Valid.{IsValid}
use Rattle.marker_table.specs.declared.facts.Facts.{Facts as Masks}
use Rattle.marker_table.specs.Equations.{values_of}
use Rattle.cause_effect.specs.Cycles.{HasNoCycle}
use Rattle.cause_effect.specs.Solutions.{IsSolution}
use Rattle.panel_rules.specs.Outputs.{is_true_over}
use Rattle.asked_markers.specs.declared.asked_markers.AskedMarkers.{AskedMarkers}
use Rattle.asked_markers.specs.FactsTold.{facts_told}

-- the markers are solved over these masks
pub record GoesBy (site : Site) (masks : Masks) (asked : AskedMarkers) : Type 0 where
  pub facts : asked.facts ≡ masks
  pub solution : IsSolution site asked.facts (values_of asked.values)

-- whether the marker of an output is true over the facts that the masks tell, where no marker depends on itself
abbrev pub TellsAsked : AskedMarkers → Output → Bool → Type 0
TellsAsked asked output result =
    (site : Site) (masks : Masks) (place : ℕ) → IsValid site → HasNoCycle site
    → slice_get site.outputs place ≡ Some output → GoesBy site masks asked
    → result ≡ is_true_over site place (facts_told site masks)
