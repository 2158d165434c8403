-- Panels that nothing befalls, as the others in the run of a panel by itself.
use Rattle.std.specs.Prelude.{◌≡◌, ℕ, false, List, [], ◌∷◌, slice_get}
use Rattle.site_types.specs.declared.event.Event.{Event}
use Rattle.site_types.specs.declared.event.Event.TheVariants.{Point}
use Rattle.site_types.specs.declared.retained.Retained.{Retained}
use Rattle.site_types.specs.declared.site.Site.{Site}
use Rattle.site_types.specs.Done.{Done}
use Rattle.panel_rules.specs.Batches.{entries, new_entries}
use Rattle.panel_rules.specs.Moments.{Moment, Began, Happened, Turned, Kept, IsRun}
use Rattle.panel_rules.specs.Reports.{is_on_panel}

-- an event is no report on a point of the panel
abbrev pub IsElsewhere : Site → ℕ → Event → Type 0
IsElsewhere site panel (Point point state) = is_on_panel panel (slice_get site.points point) ≡ false
IsElsewhere site panel event = Unit {0}

-- no report came on a point of the panel
abbrev pub HasQuietPoints : Site → ℕ → List Moment → Type 0
HasQuietPoints site panel [] = Unit {0}
HasQuietPoints site panel (Began ∷ before) = HasQuietPoints site panel before
HasQuietPoints site panel (Happened event ∷ before) = IsElsewhere site panel event × HasQuietPoints site panel before
HasQuietPoints site panel (Turned other task ∷ before) = HasQuietPoints site panel before
HasQuietPoints site panel (Kept failed ∷ before) = HasQuietPoints site panel before

-- a panel whose points had no report never enters the fire alarm condition, so no turn of Keep commits a count of it
abbrev pub QuietPanelsHaveNoEntries : Type 0
QuietPanelsHaveNoEntries =
    (site : Site) (kept : Retained) (done : List Done) (panel : ℕ) (moments : List Moment)
    → IsRun site.panels moments → HasQuietPoints site panel moments
    → (entries site kept done panel moments ≡ []) × (new_entries site kept done panel moments ≡ [])
