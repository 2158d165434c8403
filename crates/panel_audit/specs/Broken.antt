-- Which zones and outputs break a rule after the last of some ticks, by what was retained and done.
use Rattle.std.specs.Prelude.{◌≡◌, ℕ, true, false, List, Some, slice_get}
use Rattle.site_types.specs.declared.output.Output.{Output}
use Rattle.site_types.specs.declared.retained.Retained.{Retained}
use Rattle.site_types.specs.declared.site.Site.{Site}
use Rattle.site_types.specs.declared.zone.Zone.{Zone}
use Rattle.site_types.specs.Done.{Done}
use Rattle.face_text.specs.declared.timeline.Timeline.{Timeline}
use Rattle.panel_rules.specs.Due.{IsDue}
use Rattle.panel_rules.specs.Moments.{Moment, tick_of}
use Rattle.audit_rules.specs.CanCause.{CanBeOn, CanBeShown}
use Rattle.audit_rules.specs.Shown.{text_tells_output, text_tells_zone}
use Rattle.due_outputs.specs.DueOn.{IsDueUnexcused}

module _ (site : Site) (kept : Retained) (done : List Done) (timeline : Timeline) (moments : List Moment) where
  -- a zone is due at a panel that doesn't show it
  pub record IsHidden (panel place : ℕ) : Type 0 where
    pub plan : Zone
    pub plan_is : slice_get site.zones place ≡ Some plan
    pub due : IsDue site kept done moments place panel
    pub hidden : text_tells_zone timeline panel plan (tick_of moments) ≡ false

  -- an output is due to be on and isn't, and nothing excuses it
  pub record IsDark (place : ℕ) : Type 0 where
    pub plan : Output
    pub plan_is : slice_get site.outputs place ≡ Some plan
    pub due : IsDueUnexcused site kept done moments plan.panel place
    pub off : text_tells_output timeline plan (tick_of moments) ≡ false

  -- a panel shows a zone that can have no cause
  pub record IsUncaused (panel place : ℕ) : Type 0 where
    pub plan : Zone
    pub plan_is : slice_get site.zones place ≡ Some plan
    pub shown : text_tells_zone timeline panel plan (tick_of moments) ≡ true
    pub uncaused : ¬ CanBeShown site timeline kept done moments panel place

  -- an output is on that can have no cause
  pub record IsBaseless (place : ℕ) : Type 0 where
    pub plan : Output
    pub plan_is : slice_get site.outputs place ≡ Some plan
    pub on : text_tells_output timeline plan (tick_of moments) ≡ true
    pub uncaused : ¬ CanBeOn site timeline kept done moments place
