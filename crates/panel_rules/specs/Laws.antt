-- What follows for each run of a valid site, whatever the order of turns: what is due is held by its panel,
-- and what is held is caused.
use Rattle.std.specs.Prelude.{◌≡◌, ◌⊎◌, ℕ, true, List}
use Rattle.tick_units.specs.declared.task.Task.TheVariants.{Hold}
use Rattle.site_types.specs.declared.site.Site.{Site}
use Rattle.site_types.specs.declared.retained.Retained.{Retained}
use Rattle.site_types.specs.Done.{Done}
use Rattle.site_types.specs.Valid.{IsValid}
use Rattle.panel_rules.specs.Moments.{Moment, tick_of, IsRun, IsPanel, HaveAllTurned, latest_turn}
use Rattle.panel_rules.specs.Zones.{panel_of_zone, holds_alarm, holds_by_hand, holds_released, holds_first}
use Rattle.panel_rules.specs.Kept.{kept_at, heard}
use Rattle.panel_rules.specs.Due.{IsDue, IsDueOut, IsDueByHand, LoneSignals}
use Rattle.panel_rules.specs.Caused.{IsCausedAt, IsCausedByHand, IsCausedOut}

-- after a tick of a run of a valid site, at a zone's own panel
pub record IsAfterTick (site : Site) (moments : List Moment) (zone : ℕ) : Type 0 where
  pub valid : IsValid site
  pub run : IsRun site.panels moments
  pub ended : HaveAllTurned site.panels moments
  pub panel : IsPanel site.panels (panel_of_zone site zone)

-- a zone that is due at its own panel is in alarm there; the same of zones due for outputs and by hand
abbrev pub OwnZoneIsShown : Type 0
OwnZoneIsShown =
    (site : Site) (kept : Retained) (done : List Done) (moments : List Moment) (zone : ℕ)
    → IsAfterTick site moments zone → IsDue site kept done moments zone (panel_of_zone site zone)
    → holds_alarm site kept done (panel_of_zone site zone) moments zone ≡ true

abbrev pub OwnZoneIsReleased : Type 0
OwnZoneIsReleased =
    (site : Site) (kept : Retained) (done : List Done) (moments : List Moment) (zone : ℕ)
    → IsAfterTick site moments zone → IsDueOut site kept done moments zone (panel_of_zone site zone)
    → holds_released site kept done (panel_of_zone site zone) moments zone ≡ true

abbrev pub OwnZoneIsByHand : Type 0
OwnZoneIsByHand =
    (site : Site) (kept : Retained) (done : List Done) (moments : List Moment) (zone : ℕ)
    → IsAfterTick site moments zone → IsDueByHand site kept done moments zone (panel_of_zone site zone)
    → holds_by_hand site kept done (panel_of_zone site zone) moments zone ≡ true

-- a zone that its panel holds in alarm is caused at Hold's latest turn; the same by hand and for outputs
abbrev pub OwnZoneIsCaused : Type 0
OwnZoneIsCaused =
    (site : Site) (kept : Retained) (done : List Done) (moments : List Moment) (zone : ℕ)
    → IsRun site.panels moments → IsPanel site.panels (panel_of_zone site zone)
    → holds_alarm site kept done (panel_of_zone site zone) moments zone ≡ true
    → IsCausedAt site kept done moments zone (latest_turn (panel_of_zone site zone) Hold moments)

abbrev pub OwnHandIsCaused : Type 0
OwnHandIsCaused =
    (site : Site) (kept : Retained) (done : List Done) (moments : List Moment) (zone : ℕ)
    → IsRun site.panels moments → IsPanel site.panels (panel_of_zone site zone)
    → holds_by_hand site kept done (panel_of_zone site zone) moments zone ≡ true
    → IsCausedByHand site kept done moments zone (latest_turn (panel_of_zone site zone) Hold moments)

abbrev pub OwnReleaseIsCaused : Type 0
OwnReleaseIsCaused =
    (site : Site) (kept : Retained) (done : List Done) (moments : List Moment) (zone : ℕ)
    → IsRun site.panels moments → IsPanel site.panels (panel_of_zone site zone)
    → holds_released site kept done (panel_of_zone site zone) moments zone ≡ true
    → IsCausedOut site kept done moments zone (latest_turn (panel_of_zone site zone) Hold moments)

-- a zone of type B with one lasting signal is in alarm or in its first state until its time ends
abbrev pub LoneSignalIsShown : Type 0
LoneSignalIsShown =
    (site : Site) (kept : Retained) (done : List Done) (moments : List Moment) (zone : ℕ)
    → IsAfterTick site moments zone → LoneSignals site kept done moments zone (tick_of moments)
    → (holds_alarm site kept done (panel_of_zone site zone) moments zone ≡ true)
    ⊎ (holds_first site kept done (panel_of_zone site zone) moments zone ≡ true)

-- a zone that is due at a panel is in alarm in the word that the panel keeps of the zone's panel; the same
-- for outputs and by hand
abbrev pub DueZoneIsKept : Type 0
DueZoneIsKept =
    (site : Site) (kept : Retained) (done : List Done) (moments : List Moment) (zone panel : ℕ)
    → IsAfterTick site moments zone → IsPanel site.panels panel → IsDue site kept done moments zone panel
    → holds_alarm site kept done (panel_of_zone site zone)
    (kept_at site.panels panel (panel_of_zone site zone) moments) zone ≡ true

abbrev pub DueReleaseIsKept : Type 0
DueReleaseIsKept =
    (site : Site) (kept : Retained) (done : List Done) (moments : List Moment) (zone panel : ℕ)
    → IsAfterTick site moments zone → IsPanel site.panels panel
    → IsDueOut site kept done moments zone panel
    → holds_released site kept done (panel_of_zone site zone)
    (kept_at site.panels panel (panel_of_zone site zone) moments) zone ≡ true

abbrev pub DueHandIsKept : Type 0
DueHandIsKept =
    (site : Site) (kept : Retained) (done : List Done) (moments : List Moment) (zone panel : ℕ)
    → IsAfterTick site moments zone → IsPanel site.panels panel
    → IsDueByHand site kept done moments zone panel
    → holds_by_hand site kept done (panel_of_zone site zone)
    (kept_at site.panels panel (panel_of_zone site zone) moments) zone ≡ true

-- a zone that is in alarm in a word kept was caused at the stamp of that word; the same for outputs and by
-- hand
abbrev pub KeptZoneIsCaused : Type 0
KeptZoneIsCaused =
    (site : Site) (kept : Retained) (done : List Done) (moments : List Moment) (zone panel : ℕ)
    → IsRun site.panels moments → IsPanel site.panels (panel_of_zone site zone)
    → holds_alarm site kept done (panel_of_zone site zone)
    (kept_at site.panels panel (panel_of_zone site zone) moments) zone ≡ true
    → IsCausedAt site kept done moments zone (heard site.panels panel (panel_of_zone site zone) moments)

abbrev pub KeptReleaseIsCaused : Type 0
KeptReleaseIsCaused =
    (site : Site) (kept : Retained) (done : List Done) (moments : List Moment) (zone panel : ℕ)
    → IsRun site.panels moments → IsPanel site.panels (panel_of_zone site zone)
    → holds_released site kept done (panel_of_zone site zone)
    (kept_at site.panels panel (panel_of_zone site zone) moments) zone ≡ true
    → IsCausedOut site kept done moments zone (heard site.panels panel (panel_of_zone site zone) moments)

abbrev pub KeptHandIsCaused : Type 0
KeptHandIsCaused =
    (site : Site) (kept : Retained) (done : List Done) (moments : List Moment) (zone panel : ℕ)
    → IsRun site.panels moments → IsPanel site.panels (panel_of_zone site zone)
    → holds_by_hand site kept done (panel_of_zone site zone)
    (kept_at site.panels panel (panel_of_zone site zone) moments) zone ≡ true
    → IsCausedByHand site kept done moments zone (heard site.panels panel (panel_of_zone site zone) moments)
