-- What the zones mean that a panel shows of its own, in each run that the system stands for. Bit `number - 1`
-- is a zone's.
use Rattle.std.specs.Prelude.{◌≡◌, ◌⊎◌, ◌-◌, ℕ, true, List, Some, slice_get}
use Rattle.tick_units.specs.declared.task.Task.TheVariants.{Hold}
use Rattle.site_types.specs.declared.retained.Retained.{Retained}
use Rattle.site_types.specs.declared.site.Site.{Site}
use Rattle.site_types.specs.declared.zone.Zone.{Zone}
use Rattle.site_types.specs.Bits.{has_bit}
use Rattle.coincidence_rules.specs.Places.{zones_where}
use Rattle.panel_rules.specs.Caused.{IsCausedAt}
use Rattle.panel_rules.specs.Due.{IsDue, LoneSignals}
use Rattle.panel_rules.specs.Moments.{Moment, IsRun, HaveAllTurned, latest_turn, tick_of}
use Rattle.panel_rules.specs.Zones.{holds_alarm, holds_first}
use Rattle.panel_core.specs.declared.system.System.{System}
use Rattle.panel_parts.specs.Applied.{done_so_far}
use Rattle.panel_core.specs.Stands.{StandsFor}

-- the zones are those that the panel holds in alarm
abbrev pub ShowsOwnZones : System → ℕ → ℕ → Type 0
ShowsOwnZones system panel zones =
    (site : Site) (kept : Retained) (before : List Moment)
    → StandsFor site kept before system → IsRun site.panels before
    → zones ≡ zones_where site panel (λ zone. holds_alarm site kept (done_so_far site kept before) panel before zone)

-- after a tick each zone that is due is shown, whatever the orders of turns were
abbrev pub ShowsDueZones : System → ℕ → ℕ → Type 0
ShowsDueZones system panel zones =
    (site : Site) (kept : Retained) (before : List Moment) (zone : ℕ) (plan : Zone)
    → StandsFor site kept before system → IsRun site.panels before → HaveAllTurned site.panels before
    → slice_get site.zones zone ≡ Some plan → plan.panel ≡ panel
    → IsDue site kept (done_so_far site kept before) before zone panel
    → has_bit zones (plan.number - 1) ≡ true

-- none is shown without a cause
abbrev pub ShowsCausedZones : System → ℕ → ℕ → Type 0
ShowsCausedZones system panel zones =
    (site : Site) (kept : Retained) (before : List Moment) (zone : ℕ) (plan : Zone)
    → StandsFor site kept before system → IsRun site.panels before
    → slice_get site.zones zone ≡ Some plan → plan.panel ≡ panel → has_bit zones (plan.number - 1) ≡ true
    → IsCausedAt site kept (done_so_far site kept before) before zone (latest_turn panel Hold before)

-- the zones are those that the panel holds in first state
abbrev pub ShowsOwnFirsts : System → ℕ → ℕ → Type 0
ShowsOwnFirsts system panel firsts =
    (site : Site) (kept : Retained) (before : List Moment)
    → StandsFor site kept before system → IsRun site.panels before
    → firsts ≡ zones_where site panel (λ zone. holds_first site kept (done_so_far site kept before) panel before zone)

-- after a tick a zone of type B with one lasting signal is in alarm or in first state, until its time ends
abbrev pub ShowsLoneSignals : System → ℕ → ℕ → Type 0
ShowsLoneSignals system panel firsts =
    (site : Site) (kept : Retained) (before : List Moment) (zone : ℕ) (plan : Zone)
    → StandsFor site kept before system → IsRun site.panels before → HaveAllTurned site.panels before
    → slice_get site.zones zone ≡ Some plan → plan.panel ≡ panel
    → LoneSignals site kept (done_so_far site kept before) before zone (tick_of before)
    → (holds_alarm site kept (done_so_far site kept before) panel before zone ≡ true)
    ⊎ (has_bit firsts (plan.number - 1) ≡ true)
