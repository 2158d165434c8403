-- How many entries into the fire alarm condition there were of each panel, and how many of them are kept.
use Rattle.std.specs.Prelude.{◌≡◌, ◌-◌, ◌<◌, ℕ, Bool, true, false, List, Some, slice_get, slice_index}
use Rattle.site_types.specs.declared.retained.Retained.{Retained}
use Rattle.site_types.specs.declared.site.Site.{Site}
use Rattle.panel_conditions.specs.Changes.{ShowsAs}
use Rattle.panel_conditions.specs.Shown.{entries_after}
use Rattle.panel_laws.specs.TimelineLaws.{counted_entries}
use Rattle.panel_rules.specs.Batches.{kept_after}
use Rattle.panel_rules.specs.Moments.{Moment, IsPanel}
use Rattle.panel_parts.specs.declared.kept_counts.KeptCounts.{KeptCounts}
use Rattle.panel_parts.specs.declared.parts.Parts.{Parts}
use Rattle.panel_parts.specs.Applied.{done_so_far}

-- how many of each panel are kept, and its counter
pub record CountsFor (site : Site) (kept : Retained) (before : List Moment) (counts : KeptCounts) : Type 0 where
  pub counted : (panel : ℕ) → IsPanel site.panels panel → slice_index counts.entries (panel - 1)
      ≡ counted_entries site kept (done_so_far site kept before) panel before
  pub counters : counts.counters ≡ (kept_after site kept before).counters

-- what is kept of them after a turn of Keep, by what its journal keeps: unless it failed, these since opening
abbrev pub counts_kept : Bool → List ℕ → Retained → KeptCounts → KeptCounts
counts_kept true entries stored counts = counts
counts_kept false entries stored counts = record { entries = entries; counters = stored.counters }

-- by panel, what is left of entries that aren't counted yet
abbrev pub AreLeft : List ℕ → List ℕ → List ℕ → Type 0
AreLeft entries counted left = (place : ℕ) → place < 8
    → slice_index left place ≡ slice_index entries place - slice_index counted place

-- by panel, how many entries there were since opening
abbrev pub TellsEntries : List Parts → List ℕ → Type 0
TellsEntries panels counted = (place : ℕ) (parts : Parts) → slice_get panels place ≡ Some parts
    → ShowsAs parts.hold (slice_index counted place) entries_after
