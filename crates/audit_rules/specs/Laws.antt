-- What follows from the rules of an audit.
use Rattle.std.specs.Prelude.{◌≡◌, ◌≢◌, ℕ, true, List}
use Rattle.site_types.specs.declared.retained.Retained.{Retained}
use Rattle.site_types.specs.declared.site.Site.{Site}
use Rattle.site_types.specs.Done.{Done}
use Rattle.site_types.specs.Valid.{IsValid}
use Rattle.face_text.specs.declared.timeline.Timeline.{Timeline}
use Rattle.panel_rules.specs.Kept.{heard, kept_at}
use Rattle.panel_rules.specs.Laws.{IsAfterTick}
use Rattle.panel_rules.specs.Moments.{HaveAllTurned, IsPanel, IsRun, Moment}
use Rattle.panel_rules.specs.Zones.{holds_alarm, panel_of_zone}
use Rattle.audit_rules.specs.declared.verdict.Verdict.{Verdict}
use Rattle.audit_rules.specs.CanCause.{CanBeShown}
use Rattle.audit_rules.specs.Hearing.{MayBeHeard}
use Rattle.audit_rules.specs.Verdicts.{IsVerdictOn}

-- a record and a text have at most one verdict
abbrev pub VerdictIsOne : Type 0
VerdictIsOne =
    (site : Site) (lines text : List ℕ) (one other : Verdict) → IsValid site → IsVerdictOn site lines text one
    → IsVerdictOn site lines text other → one ≡ other

-- after a tick of a run of a valid site, what a panel has heard of another is a stamp that it may have heard
abbrev pub HeardMayBe : Type 0
HeardMayBe =
    (site : Site) (moments : List Moment) (panel source : ℕ) → IsValid site → IsRun site.panels moments
    → HaveAllTurned site.panels moments → IsPanel site.panels panel → IsPanel site.panels source
    → MayBeHeard site moments panel source (heard site.panels panel source moments)

-- a zone that its own panel holds in alarm can be shown there
abbrev pub HeldZoneCanBeShown : Type 0
HeldZoneCanBeShown =
    (site : Site) (timeline : Timeline) (kept : Retained) (done : List Done) (moments : List Moment) (zone : ℕ)
    → IsAfterTick site moments zone
    → holds_alarm site kept done (panel_of_zone site zone) moments zone ≡ true
    → CanBeShown site timeline kept done moments (panel_of_zone site zone) zone

-- a zone that is in alarm in the word of its own panel that another panel keeps can be shown at that other panel
abbrev pub KeptZoneCanBeShown : Type 0
KeptZoneCanBeShown =
    (site : Site) (timeline : Timeline) (kept : Retained) (done : List Done) (moments : List Moment)
    (zone panel : ℕ) → IsAfterTick site moments zone → IsPanel site.panels panel → panel ≢ panel_of_zone site zone
    → holds_alarm site kept done (panel_of_zone site zone)
    (kept_at site.panels panel (panel_of_zone site zone) moments) zone ≡ true
    → CanBeShown site timeline kept done moments panel zone
