-- What can be the cause of a zone that is shown and of an output that is on, for whoever doesn't know the stamps of
-- the words that were heard.
use Rattle.std.specs.Prelude.{◌≡◌, ◌≢◌, ℕ, true, List}
use Rattle.site_types.specs.declared.retained.Retained.{Retained}
use Rattle.site_types.specs.declared.site.Site.{Site}
use Rattle.site_types.specs.Done.{Done}
use Rattle.face_text.specs.declared.timeline.Timeline.{Timeline}
use Rattle.panel_rules.specs.Caused.{IsCausedAt, IsCausedByHand}
use Rattle.panel_rules.specs.Markers.{Facts}
use Rattle.panel_rules.specs.Moments.{Moment, tick_of}
use Rattle.panel_rules.specs.Outputs.{is_true_over, panel_of_output}
use Rattle.panel_rules.specs.Zones.{panel_of_zone}
use Rattle.audit_rules.specs.Hearing.{MayBeHeard}
use Rattle.audit_rules.specs.Shown.{text_tells_fault}

module _ (site : Site) (timeline : Timeline) (kept : Retained) (done : List Done) (moments : List Moment) where
  -- at some stamp that a panel may have heard of the zone's panel, the zone was caused to be in alarm
  pub record CanBeHeard (panel zone : ℕ) : Type 0 where
    pub stamp : ℕ
    pub heard : MayBeHeard site moments panel (panel_of_zone site zone) stamp
    pub cause : IsCausedAt site kept done moments zone stamp

  -- at some stamp that a panel may have heard of the zone's panel, the zone was caused to be in alarm by hand
  pub record CanBeHeardByHand (panel zone : ℕ) : Type 0 where
    pub stamp : ℕ
    pub heard : MayBeHeard site moments panel (panel_of_zone site zone) stamp
    pub cause : IsCausedByHand site kept done moments zone stamp

  -- at some stamp that a panel may have heard of another one or of itself, that one showed a fault
  pub record CanTellFault (panel source : ℕ) : Type 0 where
    pub stamp : ℕ
    pub heard : MayBeHeard site moments panel source stamp
    pub shown : text_tells_fault timeline source stamp ≡ true

  -- a zone that a panel shows can have a cause: on the zone's own panel one at this tick, on others one that they
  -- may have heard
  pub data CanBeShown (panel zone : ℕ) : Type 0 where
    own : panel ≡ panel_of_zone site zone → IsCausedAt site kept done moments zone (tick_of moments)
        → CanBeShown panel zone
    told : panel ≢ panel_of_zone site zone → CanBeHeard panel zone → CanBeShown panel zone

  -- facts each true one of which can have been heard by a panel
  pub record CanBeTrue (panel : ℕ) (facts : Facts) : Type 0 where
    pub released : (zone : ℕ) → facts.released zone ≡ true → CanBeHeard panel zone
    pub by_hand : (zone : ℕ) → facts.by_hand zone ≡ true → CanBeHeardByHand panel zone
    pub faults : (source : ℕ) → facts.faulty source ≡ true → CanTellFault panel source

  -- an output that is on can have a cause: facts each true one of which its panel can have heard make its marker
  -- true. A fact more makes no marker false, so this says that its marker is true over all such facts
  pub record CanBeOn (output : ℕ) : Type 0 where
    pub facts : Facts
    pub caused : CanBeTrue (panel_of_output site output) facts
    pub asks : is_true_over site output facts ≡ true
