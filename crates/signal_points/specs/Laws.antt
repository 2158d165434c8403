-- That the test for a point that signals says what the rules say, and that what was before stays.
use Rattle.std.specs.Prelude.{◌≡◌, ◌≤◌, ◌↔◌, ℕ, true, List, ◌∷◌, length}
use Rattle.site_types.specs.declared.retained.Retained.{Retained}
use Rattle.site_types.specs.declared.site.Site.{Site}
use Rattle.site_types.specs.Done.{Done}
use Rattle.panel_rules.specs.Due.{SignalsAt}
use Rattle.panel_rules.specs.Moments.{Moment, TickBlock, moments}
use Rattle.signal_points.specs.Signalling.{signals_at}

-- the test holds exactly where the point signals
abbrev pub SignalsAreTold : Type 0
SignalsAreTold = (site : Site) (kept : Retained) (done : List Done) (moments : List Moment) (point tick : ℕ)
    → (signals_at site kept done moments point tick ≡ true) ↔ SignalsAt site kept done moments point tick

-- a point signalled at a tick by what befell until a later one exactly where it did by what has befallen since
abbrev pub EarlierSignalsStay : Type 0
EarlierSignalsStay = (site : Site) (kept : Retained) (done : List Done) (ticks : List TickBlock) (next : TickBlock)
    (point tick : ℕ) → tick ≤ length ticks → SignalsAt site kept done (moments ticks) point tick
    ↔ SignalsAt site kept done (moments (next ∷ ticks)) point tick
