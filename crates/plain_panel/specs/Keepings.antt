-- What the desk has done and what is kept, after a history.
use Rattle.std.specs.Prelude.{◌≡◌, ◌==◌, Bool, false, not, List, [], ◌∷◌, if◌then◌else◌}
use Rattle.std.specs.List.{AllByRecursion, flat_map}
use Rattle.site_types.specs.declared.change.Change.{Change}
use Rattle.site_types.specs.declared.change.Change.TheVariants.{Count}
use Rattle.site_types.specs.Changes.{IsPanelNumber, changed_by}
use Rattle.site_types.specs.declared.retained.Retained.{Retained}
use Rattle.site_types.specs.declared.site.Site.{Site}
use Rattle.panel_rules.specs.Batches.{changes_of, kept_after}
use Rattle.panel_rules.specs.Moments.{Moment, Began, Happened, Turned, Kept}
use Rattle.plain_panel.specs.declared.keeping.Keeping.{Keeping}
use Rattle.plain_words.specs.declared.entering.Entering.{Entering}
use Rattle.plain_operations.specs.Desks.{StandsForDesk, all_requests}
use Rattle.plain_panel.specs.SiteStates.{StandsAfter}

-- the desk, what stands with the operations that it has done, and what is kept by then
pub record StandsForKeeping (site : Site) (kept : Retained) (history : List Moment) (keeping : Keeping) :
    Type 0 where
  pub desk : StandsForDesk site kept history keeping.desk
  pub state : StandsAfter site kept history keeping.state
  pub stored : keeping.stored ≡ kept_after site kept history

-- a turn of Keep that doesn't fail
abbrev pub is_storing : Moment → Bool
is_storing Began = false
is_storing (Happened event) = false
is_storing (Turned panel task) = false
is_storing (Kept failed) = not failed

-- the change that counts the entries of a panel, where there are any
abbrev pub counted : Entering → List Change
counted entering = if entering.entries == 0 then [] else Count entering.panel entering.entries ∷ []

abbrev pub all_counted : List Entering → List Change
all_counted panels = flat_map counted panels

-- each is of a panel that has a place in what is kept
abbrev pub AllPlaced : List Entering → Type 0
AllPlaced panels = AllByRecursion (λ entering. IsPanelNumber entering.panel) panels

-- what is stored by a turn of Keep that doesn't fail: entries are counted, then operations that wait make their changes
abbrev pub stored_by_keep : Site → Keeping → Retained
stored_by_keep site keeping =
    let counted_first = changed_by (all_counted keeping.state.panels.items) keeping.stored in
    changed_by (changes_of site (all_requests keeping.desk.outcomes.waiting.items)) counted_first

-- what is stored after a moment
abbrev pub stored_after : Site → Moment → Keeping → Retained
stored_after site moment keeping = if is_storing moment then stored_by_keep site keeping else keeping.stored
