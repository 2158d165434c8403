-- What Keep commits: the entries of each panel into the fire alarm condition, and the operations that wait.
use Rattle.std.specs.Prelude.{ℕ, ◌==◌, ◌&&◌, not, Bool, List, [], ◌∷◌, ◌++◌, length, if◌then◌else◌}
use Rattle.std.specs.List.{filter_map, flat_map, range_with_len}
use Rattle.tick_units.specs.declared.task.Task.TheVariants.{Hold}
use Rattle.site_types.specs.declared.change.Change.{Change}
use Rattle.site_types.specs.declared.change.Change.TheVariants.{Count}
use Rattle.site_types.specs.declared.retained.Retained.{Retained}
use Rattle.site_types.specs.declared.site.Site.{Site}
use Rattle.site_types.specs.Changes.{changed_by, operation_change}
use Rattle.site_types.specs.Done.{Done}
use Rattle.coincidence_rules.specs.Places.{zones_where}
use Rattle.panel_rules.specs.Moments.{Moment, Began, Happened, Turned, Kept, tick_of}
use Rattle.panel_rules.specs.Zones.{holds_alarm}
use Rattle.panel_rules.specs.Operations.{Request, operations}

module _ (site : Site) (kept : Retained) (done : List Done) (panel : ℕ) where
  -- a panel is in the fire alarm condition: one of its own zones is in alarm
  abbrev pub is_in_fire_alarm : List Moment → Bool
  is_in_fire_alarm moments = not (zones_where site panel (holds_alarm site kept done panel moments) == 0)

  -- a turn of Hold made now brings the panel into the fire alarm condition
  abbrev pub enters : List Moment → Bool
  enters before = is_in_fire_alarm (Turned panel Hold ∷ before) && not (is_in_fire_alarm before)

  -- the ticks in which the panel entered the fire alarm condition, the latest first
  abbrev pub entries : List Moment → List ℕ
  entries [] = []
  entries (Began ∷ before) = entries before
  entries (Happened event ∷ before) = entries before
  entries (Turned other Hold ∷ before) = if (other == panel) && enters before then tick_of before
      ∷ entries before else entries before
  entries (Turned other task ∷ before) = entries before
  entries (Kept failed ∷ before) = entries before

  -- the ticks in which the panel entered the fire alarm condition that are not yet kept: those since the latest turn of
  -- Keep that did not fail, the latest first
  abbrev pub new_entries : List Moment → List ℕ
  new_entries [] = []
  new_entries (Began ∷ before) = new_entries before
  new_entries (Happened event ∷ before) = new_entries before
  new_entries (Turned other Hold ∷ before) = if (other == panel) && enters before then tick_of before
      ∷ new_entries before else new_entries before
  new_entries (Turned other task ∷ before) = new_entries before
  new_entries (Kept failed ∷ before) = if failed then new_entries before else []

  -- the change that counts the entries of the panel into the fire alarm condition at some ticks, where there are any
  abbrev pub count_of : List ℕ → List Change
  count_of [] = []
  count_of (tick ∷ ticks) = Count panel (length (tick ∷ ticks)) ∷ []

module _ (site : Site) (kept : Retained) (done : List Done) where
  -- the counts of all panels, by panel
  abbrev pub counts : List Moment → List Change
  counts before =
      flat_map (λ panel. count_of site kept done panel (new_entries site kept done panel before))
      (range_with_len 1 site.panels)

-- the changes that operations make
abbrev pub changes_of : Site → List Request → List Change
changes_of site waiting = filter_map (λ (r : Request). operation_change site r.panel r.operation) waiting

-- what a turn of Keep commits now: the counts, then what waits, in the order in which it was accepted
abbrev pub batch : Site → Retained → List Moment → List Change
batch site kept before = counts site kept (operations site kept before).done before
    ++ changes_of site (operations site kept before).waiting

-- what is kept: the changes of each turn of Keep that did not fail
abbrev pub kept_after : Site → Retained → List Moment → Retained
kept_after site kept [] = kept
kept_after site kept (Began ∷ before) = kept_after site kept before
kept_after site kept (Happened event ∷ before) = kept_after site kept before
kept_after site kept (Turned panel task ∷ before) = kept_after site kept before
kept_after site kept (Kept failed ∷ before) =
    if failed then kept_after site kept before else changed_by (batch site kept before)
    (kept_after site kept before)
