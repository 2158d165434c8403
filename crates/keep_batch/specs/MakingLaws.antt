-- What is made is the batch of the rules, and Keep may commit it.
use Rattle.std.specs.Prelude.{◌≡◌, ◌-◌, ◌≤◌, ◌==◌, ℕ, Bool, List, length, slice_index}
use Rattle.tick_units.specs.Ticks.{last_tick}
use Rattle.site_types.specs.declared.retained.Retained.{Retained}
use Rattle.site_types.specs.declared.site.Site.{Site}
use Rattle.site_types.specs.Done.{Done}
use Rattle.site_types.specs.Valid.{IsValid}
use Rattle.keep_turn.specs.Turns.{MayCommit}
use Rattle.panel_rules.specs.Batches.{batch, new_entries}
use Rattle.panel_rules.specs.Moments.{Moment, IsPanel, IsRun, tick_of}
use Rattle.panel_rules.specs.Operations.{operations}
use Rattle.panel_laws.specs.OperationLaws.{AreOfSite}
use Rattle.operation_desk.specs.declared.request.Request.{Request}
use Rattle.operation_desk.specs.Requests.{requests_from}
use Rattle.keep_batch.specs.Making.{MayMake, batch_from}

-- what is left to keep: how many entries of each panel, and which operations
pub record IsLeftToKeep (site : Site) (kept : Retained) (before : List Moment) (entries : List ℕ) (waiting :
    List Request) : Type 0 where
  pub entered : (panel : ℕ) → IsPanel site.panels panel → slice_index entries (panel - 1)
      ≡ length (new_entries site kept (operations site kept before).done panel before)
  pub waits : requests_from waiting ≡ (operations site kept before).waiting

-- what is made of it is the batch of the rules
abbrev pub BatchIs : Type 0
BatchIs =
    (site : Site) (kept : Retained) (before : List Moment) (entries : List ℕ) (waiting : List Request)
    → IsLeftToKeep site kept before entries waiting → batch_from site entries waiting ≡ batch site kept before

-- a panel has at most as many new entries as ticks have begun
abbrev pub FewEntriesAreNew : Type 0
FewEntriesAreNew =
    (site : Site) (kept : Retained) (done : List Done) (panel : ℕ) (before : List Moment)
    → IsRun site.panels before → length (new_entries site kept done panel before) ≤ tick_of before

-- the count of new entries of each panel can be held, and the batch of what is left to keep is small
abbrev pub BatchMayBeMade : Type 0
BatchMayBeMade =
    (site : Site) (kept : Retained) (before : List Moment) (entries : List ℕ) (waiting : List Request)
    → IsValid site → IsRun site.panels before → AreOfSite site before → tick_of before ≤ last_tick
    → IsLeftToKeep site kept before entries waiting → MayMake site entries waiting

-- the journal of a site of format 2 has room for its longer loops
abbrev pub is_wide : Site → Bool
is_wide site = site.format == 2

-- a turn of Keep may commit the batch of the rules
abbrev pub BatchMayBeCommitted : Type 0
BatchMayBeCommitted =
    (site : Site) (kept : Retained) (before : List Moment)
    → IsValid site → IsRun site.panels before → AreOfSite site before
    → MayCommit (is_wide site) (batch site kept before)
