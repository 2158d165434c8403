-- Which outputs are due: the zones that are due alone make their markers true.
use Rattle.std.specs.Prelude.{◌≡◌, ◌≤◌, ◌<◌, ◌⊎◌, ◌+◌, ◌&&◌, ℕ, true, false, List}
use Rattle.site_types.specs.declared.retained.Retained.{Retained}
use Rattle.site_types.specs.declared.site.Site.{Site}
use Rattle.site_types.specs.Done.{Done, OutputOff, in_force}
use Rattle.panel_rules.specs.Moments.{Moment, tick_of, up_to}
use Rattle.panel_rules.specs.Markers.{Facts}
use Rattle.panel_rules.specs.Outputs.{is_true_over, panel_of_output, delay_of, is_sounder, is_quiet}
use Rattle.panel_rules.specs.Run.{facts_of}
use Rattle.panel_rules.specs.Due.{IsDueOut, IsDueByHand}

module _ (site : Site) (kept : Retained) (done : List Done) where
  -- facts in which only zones that are due at a panel are true: zones that are due for outputs, zones that
  -- are due by hand for manual call points, and no fault
  pub record AreDue (moments : List Moment) (panel : ℕ) (facts : Facts) : Type 0 where
    pub released : (zone : ℕ) → facts.released zone ≡ true → IsDueOut site kept done moments zone panel
    pub by_hand : (zone : ℕ) → facts.by_hand zone ≡ true → IsDueByHand site kept done moments zone panel
    pub faults : (source : ℕ) → facts.faulty source ≡ false

  -- facts in which only zones that are due by hand at a panel are true, for outputs and for manual call points, and no
  -- fault
  pub record AreDueByHand (moments : List Moment) (panel : ℕ) (facts : Facts) : Type 0 where
    pub released : (zone : ℕ) → facts.released zone ≡ true → IsDueByHand site kept done moments zone panel
    pub by_hand : (zone : ℕ) → facts.by_hand zone ≡ true → IsDueByHand site kept done moments zone panel
    pub faults : (source : ℕ) → facts.faulty source ≡ false

  -- an output is due to be asked: facts in which only zones that are due at its panel are true, and no fault, make
  -- its marker true
  pub record IsDueAsked (moments : List Moment) (output : ℕ) : Type 0 where
    pub facts : Facts
    pub due : AreDue moments (panel_of_output site output) facts
    pub asks : is_true_over site output facts ≡ true

  -- an output is due to be asked by hand
  pub record IsDueAskedByHand (moments : List Moment) (output : ℕ) : Type 0 where
    pub facts : Facts
    pub due : AreDueByHand moments (panel_of_output site output) facts
    pub asks : is_true_over site output facts ≡ true

  -- at each tick of a span that ends now and is as long as the output's delay it is due to be asked; the span
  -- begins at tick 1 or later
  pub record IsDueThrough (moments : List Moment) (output : ℕ) : Type 0 where
    pub begins : delay_of site output < tick_of moments
    pub each : (tick : ℕ) → tick_of moments ≤ tick + delay_of site output → tick ≤ tick_of moments
        → IsDueAsked (up_to tick moments) output

  -- an output is due to be on: it is not disabled and not a quiet sounder, and it is due to be asked by hand,
  -- or was due to be asked for as long as its delay
  pub record IsDueOn (moments : List Moment) (output : ℕ) : Type 0 where
    pub enabled : in_force site kept (OutputOff output) (tick_of moments) done ≡ false
    pub heard :
        (is_sounder site output
        && is_quiet site (facts_of site kept done) kept done (panel_of_output site output) moments) ≡ false
    pub asked : IsDueAskedByHand moments output ⊎ IsDueThrough moments output
