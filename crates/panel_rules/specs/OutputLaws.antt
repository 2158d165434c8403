-- What follows for outputs, and for what words tell.
use Rattle.std.specs.Prelude.{◌≡◌, ◌≤◌, ◌||◌, ℕ, true, false, List, ◌∷◌}
use Rattle.site_types.specs.declared.retained.Retained.{Retained}
use Rattle.site_types.specs.declared.site.Site.{Site}
use Rattle.site_types.specs.Done.{Done}
use Rattle.site_types.specs.Valid.{IsValid}
use Rattle.coincidence_rules.specs.Places.{is_of, on_partner}
use Rattle.panel_conditions.specs.Words.{has_fault}
use Rattle.panel_rules.specs.Moments.{Moment, tick_of}
use Rattle.panel_rules.specs.Markers.{Facts}
use Rattle.panel_rules.specs.Outputs.{is_asked, is_on}
use Rattle.panel_rules.specs.Run.{faults_with, tells_fault}
use Rattle.panel_rules.specs.Due.{SignalsAt, IsDue}
use Rattle.panel_rules.specs.DueOutputs.{IsDueOn}

-- an output that nobody asks is off
abbrev pub UnaskedIsOff : Type 0
UnaskedIsOff =
    (site : Site) (facts : ℕ → List Moment → Facts) (kept : Retained) (done : List Done) (output :
    ℕ) (moments : List Moment)
    → is_asked site facts output moments ≡ false → is_on site facts kept done output moments ≡ false

-- a word tells a fault exactly where some fault stood at the turn of Hold that made it
abbrev pub FaultsAreTold : Type 0
FaultsAreTold =
    (site : Site) (kept : Retained) (done : List Done) (panel : ℕ) (moment : Moment) (before : List Moment)
    → tells_fault site kept done panel (moment ∷ before)
    ≡ has_fault (faults_with site kept done (tells_fault site kept done) panel (moment ∷ before))

-- a point of a zone, or of its partner, was in alarm, reached and not blocked in some tick by now
pub record HasSignalled (site : Site) (kept : Retained) (done : List Done) (moments : List Moment) (zone :
    ℕ) : Type 0 where
  pub point : ℕ
  pub tick : ℕ
  pub begins : 1 ≤ tick
  pub past : tick ≤ tick_of moments
  pub of_zone : (is_of site zone point || on_partner site zone (λ other. is_of site other point)) ≡ true
  pub signals : SignalsAt site kept done moments point tick

-- a zone is due only by a signal
abbrev pub DueNeedsASignal : Type 0
DueNeedsASignal =
    (site : Site) (kept : Retained) (done : List Done) (moments : List Moment) (zone panel : ℕ)
    → 1 ≤ site.format → IsDue site kept done moments zone panel → HasSignalled site kept done moments zone

-- an output is due only by a signal of some zone
abbrev pub DueOutputNeedsASignal : Type 0
DueOutputNeedsASignal =
    (site : Site) (kept : Retained) (done : List Done) (moments : List Moment) (output : ℕ) → IsValid site
    → IsDueOn site kept done moments output → (zone : ℕ) × HasSignalled site kept done moments zone
