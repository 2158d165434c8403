-- What a turn of Keep is to commit, by how many entries of each panel are not kept yet, and by what waits.
use Rattle.std.specs.Prelude.{ℕ, ◌-◌, ◌^◌, ◌≤◌, ◌<◌, ◌==◌, List, [], ◌∷◌, ◌++◌, length, slice_index, if◌then◌else◌}
use Rattle.std.specs.List.{flat_map, range_with_len}
use Rattle.site_types.specs.declared.change.Change.{Change}
use Rattle.site_types.specs.declared.change.Change.TheVariants.{Count}
use Rattle.site_types.specs.declared.site.Site.{Site}
use Rattle.panel_rules.specs.Batches.{changes_of}
use Rattle.panel_rules.specs.Moments.{IsPanel}
use Rattle.operation_desk.specs.declared.request.Request.{Request}
use Rattle.operation_desk.specs.Requests.{requests_from}

-- the change that counts entries of a panel, where there are any
abbrev pub count_from : ℕ → ℕ → List Change
count_from panel entries = if entries == 0 then [] else Count panel entries ∷ []

-- the counts of so many panels, by panel; the entries of panel 1 stand first
abbrev pub counts_from : ℕ → List ℕ → List Change
counts_from panels entries =
    flat_map (λ panel. count_from panel (slice_index entries (panel - 1))) (range_with_len 1 panels)

-- the counts, then the changes of what waits, in the order in which it was accepted
abbrev pub batch_from : Site → List ℕ → List Request → List Change
batch_from site entries waiting =
    counts_from site.panels entries ++ changes_of site (requests_from waiting)

-- a change can hold the count of each panel
abbrev pub AreCountable : ℕ → List ℕ → Type 0
AreCountable panels entries = (panel : ℕ) → IsPanel panels panel → slice_index entries (panel - 1) < 2 ^ 32

-- at most eight panels, whose counts can be held, and at most 72 changes
pub record MayMake (site : Site) (entries : List ℕ) (waiting : List Request) : Type 0 where
  pub panels : site.panels ≤ 8
  pub counts : AreCountable site.panels entries
  pub few : length (batch_from site entries waiting) ≤ 72
