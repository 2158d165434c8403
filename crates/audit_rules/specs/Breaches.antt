-- Which rules a text breaks against a record, and which breach comes first. Operations are those that the text
-- answers `done`, settings at opening those of its opening faces.
use Rattle.std.specs.Prelude.{◌≡◌, ℕ, ◌==◌, ◌&&◌, ◌||◌, ◌≤◌, nat_lt, Bool, true, false, List, [], ◌∷◌, length}
use Rattle.std.specs.Prelude.{Option, Some, None, slice_get}
use Rattle.site_types.specs.declared.output.Output.{Output}
use Rattle.site_types.specs.declared.retained.Retained.{Retained}
use Rattle.site_types.specs.declared.site.Site.{Site}
use Rattle.site_types.specs.declared.zone.Zone.{Zone}
use Rattle.site_types.specs.Done.{Done, silence_before}
use Rattle.face_text.specs.declared.timeline.Timeline.{Timeline}
use Rattle.panel_rules.specs.Due.{IsDue}
use Rattle.panel_rules.specs.DueOutputs.{IsDueOn}
use Rattle.panel_rules.specs.Moments.{IsPanel, Moment, TickBlock, moments, up_to}
use Rattle.panel_rules.specs.Operations.{Request, requests}
use Rattle.panel_rules.specs.Outputs.{is_sounder}
use Rattle.audit_rules.specs.declared.audit_rule.AuditRule.{AuditRule}
use Rattle.audit_rules.specs.declared.audit_rule.AuditRule.TheVariants.{Length, Answer, Indication}
use Rattle.audit_rules.specs.declared.audit_rule.AuditRule.TheVariants.{Output as OutputRule, Zone as ZoneRule, Cause}
use Rattle.audit_rules.specs.Answering.{HasUnfounded}
use Rattle.audit_rules.specs.CanCause.{CanBeOn, CanBeShown}
use Rattle.audit_rules.specs.Shown.{text_tells_output, text_tells_zone}
use Rattle.audit_rules.specs.ToldDone.{done_by_steps, retained_by}

-- where a rule is broken: the tick after which, the panel that shows or doesn't show, and the panel and number of
-- the zone or output; all three are 0 where the rule speaks of none
pub record Breach : Type 0 where
  pub tick : ℕ
  pub rule : AuditRule
  pub panel : ℕ
  pub owner : ℕ
  pub number : ℕ

-- the place of a rule among those of a tick
abbrev pub place_of_rule : AuditRule → ℕ
place_of_rule Length = 0
place_of_rule Answer = 1
place_of_rule Indication = 2
place_of_rule OutputRule = 3
place_of_rule ZoneRule = 4
place_of_rule Cause = 5

-- what decides which of two breaches comes first: the tick, then the rule, then the panel, then the zone or output
abbrev pub standing : Breach → List ℕ
standing breach = breach.tick ∷ place_of_rule breach.rule ∷ breach.panel ∷ breach.owner ∷ breach.number ∷ []

abbrev pub is_lower : List ℕ → List ℕ → Bool
is_lower [] other = false
is_lower (one ∷ ones) [] = false
is_lower (one ∷ ones) (other ∷ others) = nat_lt one other || ((one == other) && is_lower ones others)

abbrev pub breaks_earlier : Breach → Breach → Bool
breaks_earlier one other = is_lower (standing one) (standing other)

-- the last silence or resound of a panel that was done before a tick is a silence
abbrev pub is_some : Option ℕ → Bool
is_some None = false
is_some (Some tick) = true

abbrev pub was_silenced : ℕ → ℕ → List Done → Bool
was_silenced panel tick done = is_some (silence_before panel tick done)

module _ (site : Site) (ticks : List TickBlock) (timeline : Timeline) where
  -- the operations of the record, those that were done, what was retained, and what had befallen by the end of a
  -- tick
  abbrev pub asked_in_record : List Request
  asked_in_record = requests site (moments ticks)

  abbrev pub done_by_text : List Done
  done_by_text = done_by_steps asked_in_record timeline.steps

  abbrev pub kept_by_text : Retained
  kept_by_text = retained_by timeline.opened

  abbrev pub befallen_by : ℕ → List Moment
  befallen_by tick = up_to tick (moments ticks)

  -- an answer that nobody may have given
  pub record BreaksAnswer (breach : Breach) : Type 0 where
    pub panel : breach.panel ≡ 0
    pub owner : breach.owner ≡ 0
    pub number : breach.number ≡ 0
    pub unfounded : HasUnfounded asked_in_record timeline.steps breach.tick

  -- the zone that a breach names, at a panel of the site
  pub record NamesZone (breach : Breach) (place : ℕ) (plan : Zone) : Type 0 where
    pub panel : IsPanel site.panels breach.panel
    pub plan_is : slice_get site.zones place ≡ Some plan
    pub owner : breach.owner ≡ plan.panel
    pub number : breach.number ≡ plan.number

  -- the output that a breach names, at its own panel
  pub record NamesOutput (breach : Breach) (place : ℕ) (plan : Output) : Type 0 where
    pub plan_is : slice_get site.outputs place ≡ Some plan
    pub panel : breach.panel ≡ plan.panel
    pub owner : breach.owner ≡ plan.panel
    pub number : breach.number ≡ plan.number

  -- a zone is due at a panel that doesn't show it
  pub record BreaksIndication (breach : Breach) : Type 0 where
    pub place : ℕ
    pub plan : Zone
    pub names : NamesZone breach place plan
    pub due : IsDue site kept_by_text done_by_text (befallen_by breach.tick) place breach.panel
    pub hidden : text_tells_zone timeline breach.panel plan breach.tick ≡ false

  -- an output is due to be on and isn't, and is no sounder of a panel that was silenced
  pub record BreaksOutput (breach : Breach) : Type 0 where
    pub place : ℕ
    pub plan : Output
    pub names : NamesOutput breach place plan
    pub due : IsDueOn site kept_by_text done_by_text (befallen_by breach.tick) place
    pub off : text_tells_output timeline plan breach.tick ≡ false
    pub unexcused : (is_sounder site place && was_silenced plan.panel breach.tick done_by_text) ≡ false

  -- a panel shows a zone that can have no cause
  pub record BreaksZone (breach : Breach) : Type 0 where
    pub place : ℕ
    pub plan : Zone
    pub names : NamesZone breach place plan
    pub shown : text_tells_zone timeline breach.panel plan breach.tick ≡ true
    pub uncaused : ¬ CanBeShown site timeline kept_by_text done_by_text (befallen_by breach.tick) breach.panel place

  -- an output is on that can have no cause
  pub record BreaksCause (breach : Breach) : Type 0 where
    pub place : ℕ
    pub plan : Output
    pub names : NamesOutput breach place plan
    pub on : text_tells_output timeline plan breach.tick ≡ true
    pub uncaused : ¬ CanBeOn site timeline kept_by_text done_by_text (befallen_by breach.tick) place

  -- whether the text is as long as the record is judged before all ticks
  abbrev pub BreaksRule : AuditRule → Breach → Type 0
  BreaksRule Length breach = ⊥
  BreaksRule Answer breach = BreaksAnswer breach
  BreaksRule Indication breach = BreaksIndication breach
  BreaksRule OutputRule breach = BreaksOutput breach
  BreaksRule ZoneRule breach = BreaksZone breach
  BreaksRule Cause breach = BreaksCause breach

  -- a rule is broken in a tick of the record
  pub record IsBreach (breach : Breach) : Type 0 where
    pub begins : 1 ≤ breach.tick
    pub ends : breach.tick ≤ length ticks
    pub breaks : BreaksRule breach.rule breach

  -- the first breach of all
  pub record IsFirstBreach (breach : Breach) : Type 0 where
    pub broken : IsBreach breach
    pub first : (other : Breach) → IsBreach other → breaks_earlier other breach ≡ false
