-- Of all signals of a zone the least one decides whether the zone is due.
use Rattle.std.specs.Prelude.{◌≡◌, ◌↔◌, ℕ, List, Some, slice_get}
use Rattle.site_types.specs.declared.retained.Retained.{Retained}
use Rattle.site_types.specs.declared.site.Site.{Site}
use Rattle.site_types.specs.Done.{Done}
use Rattle.panel_rules.specs.Due.{IsDue, IsDueByHand, IsDueOut}
use Rattle.panel_rules.specs.Moments.{Moment}
use Rattle.due_zones.specs.Reaching.{IsDueFrom}
use Rattle.due_zones.specs.declared.least_signals.LeastSignals.{LeastSignals}

-- of each kind of signals of a zone a tick is told from which on one counts, or none: where that one is due at a panel,
-- the zone is, and nowhere else
pub record AreDecisive (site : Site) (kept : Retained) (done : List Done) (moments : List Moment) (zone : ℕ) (signals :
    LeastSignals) : Type 0 where
  pub shown : (panel : ℕ) → IsDue site kept done moments zone panel
      ↔ IsDueFrom site kept done moments zone panel signals.shown
  pub out : (panel : ℕ) → IsDueOut site kept done moments zone panel
      ↔ IsDueFrom site kept done moments zone panel signals.out
  pub by_hand : (panel : ℕ) → IsDueByHand site kept done moments zone panel
      ↔ IsDueFrom site kept done moments zone panel signals.by_hand

-- for each zone the row at its place tells of each kind of signals a tick from which on one counts, or none: where that
-- one is due at a panel, the zone is, and nowhere else
abbrev pub AreAllDecisive : Site → Retained → List Done → List Moment → List LeastSignals → Type 0
AreAllDecisive site kept done moments signals = (zone : ℕ) (row : LeastSignals)
    → slice_get signals zone ≡ Some row → AreDecisive site kept done moments zone row
