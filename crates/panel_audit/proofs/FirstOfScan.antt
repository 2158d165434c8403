-- The first breach of a tick, from what the searches of a scan tell.
use Rattle.std.proofs.Common.{◌≡◌, ◌∙◌, ℕ, Bool, true, false, List, sym, ap, subst, length, Some, None, slice_get}
use Rattle.site_types.specs.declared.site.Site.{Site}
use Rattle.cause_effect.specs.Cycles.{HasNoCycle}
use Rattle.face_text.specs.declared.face.Face.{Face}
use Rattle.face_text.specs.declared.timeline.Timeline.{Timeline}
use Rattle.panel_rules.specs.Moments.{TickBlock}
use Rattle.audit_rules.specs.declared.audit_rule.AuditRule.TheVariants.{Answer, Indication, Output, Zone, Cause}
use Rattle.audit_rules.specs.Shown.{faces_after}
use Rattle.blocked_points.specs.declared.done_operation.DoneOperation.{DoneOperation}
use Rattle.due_zones.specs.declared.due_zones.DueZones.{DueZones}
use Rattle.tick_events.specs.Told.{ticks_until}
use Rattle.panel_audit.specs.declared.broken.Broken.{Broken}
use Rattle.panel_audit.specs.declared.found.Found.{Found}
use Rattle.panel_audit.specs.declared.judge.Judge.{Judge}
use Rattle.panel_audit.specs.declared.numbered.Numbered.{Numbered}
use Rattle.panel_audit.specs.declared.scan.Scan.{Scan}
use Rattle.panel_audit.specs.Breaking.{breach_in, broken_output, broken_zone}
use Rattle.panel_audit.specs.Firsts.{FirstInTick}
use Rattle.panel_audit.specs.Numbers.{AreOutputNumbers, AreZoneNumbers}
use Rattle.panel_audit.specs.Scanning.{IsScannedAfter, ScanStands}
use Rattle.panel_audit.specs.Scans.{AreFacesAfter, ScansBaseless, ScansDark, ScansHidden, ScansUncaused}
use Rattle.panel_audit.specs.ShownSteps.{ReadsUpTo}
use Rattle.panel_audit.proofs.RuleBreaches.{FirstOfRule}
use Rattle.panel_audit.proofs.Scanned.{baseless_first, baseless_none, dark_first, dark_none, faces_then, hidden_first, hidden_none, uncaused_first, uncaused_none}
use Rattle.panel_audit.proofs.TickBreaches.{answer_none, first_cause, first_indication, first_output, first_zone, none_at_all}

never : true ≡ false → ⊥
never e = cc

module _ (site : Site) (timeline : Timeline) (operations : List DoneOperation) (ticks : List TickBlock) (tick : ℕ) (judge : Judge) (due : List DueZones)
    (unfounded : Bool) (after : IsScannedAfter site timeline operations ticks tick judge due unfounded) (scan : Scan) (stands : ScanStands site scan)
    (faces : List Face) (read : (t : ℕ) → ReadsUpTo timeline.steps t judge.shown.steps → faces ≡ faces_after t timeline.opened timeline.steps)
    (founded : unfounded ≡ false) (eight : length due ≡ 8) where
  are : AreFacesAfter timeline (length (ticks_until tick ticks)) faces
  are = faces_then site timeline operations ticks tick judge due unfounded after faces read

  answer : FirstOfRule site ticks timeline Answer tick None
  answer = answer_none site ticks timeline tick (λ u. never (sym (after.answers.1 u) ∙ founded))

  zones_are : (zones : List Numbered) → zones ≡ scan.zones.items → AreZoneNumbers site.zones zones
  zones_are zones is = subst (AreZoneNumbers site.zones) (sym is) stands.zones

  outputs_are : (outputs : List Numbered) → outputs ≡ scan.outputs.items → AreOutputNumbers site.outputs outputs
  outputs_are outputs is = subst (AreOutputNumbers site.outputs) (sym is) stands.outputs

  -- a search found nothing
  abbrev pub NoneHidden : Type 0
  NoneHidden = (zones : List Numbered) × (zones ≡ scan.zones.items) × ScansHidden site zones due faces None

  abbrev pub NoneDark : Type 0
  NoneDark = (outputs : List Numbered) × (outputs ≡ scan.outputs.items) × ScansDark site outputs judge.dues judge.excused faces None

  abbrev pub NoneUncaused : Type 0
  NoneUncaused = (zones : List Numbered) × (zones ≡ scan.zones.items) × ScansUncaused site zones judge.causes judge.joined faces None

  indication : NoneHidden → FirstOfRule site ticks timeline Indication tick None
  indication none = hidden_none site timeline operations ticks tick judge due unfounded after none.0 (zones_are none.0 none.1) faces are eight none.2

  output : NoneDark → FirstOfRule site ticks timeline Output tick None
  output none = dark_none site timeline operations ticks tick judge due unfounded after none.0 (outputs_are none.0 none.1) faces are none.2

  zone : NoneUncaused → FirstOfRule site ticks timeline Zone tick None
  zone none = uncaused_none site timeline operations ticks tick judge due unfounded after none.0 (zones_are none.0 none.1) faces are none.2

  -- what is broken is said of the thing at a place of the same list
  abbrev pub SaysThing : List Numbered → ℕ → (Numbered → Broken) → Broken → Type 0
  SaysThing things place made broken = (thing : Numbered) → slice_get things place ≡ Some thing → broken ≡ made thing

  said : (things others all : List Numbered) (place : ℕ) (made : Numbered → Broken) (broken : Broken) → things ≡ all → others ≡ all
      → SaysThing others place made broken → (thing : Numbered) → slice_get things place ≡ Some thing
      → FirstInTick site ticks timeline tick (Some (breach_in tick (made thing))) → FirstInTick site ticks timeline tick (Some (breach_in tick broken))
  said things others all place made broken is other_is says thing at first =
      subst (λ b. FirstInTick site ticks timeline tick (Some (breach_in tick b)))
      (sym (says thing (ap (λ xs. slice_get xs place) (other_is ∙ sym is) ∙ at))) first

  pub finds_hidden : (zones others : List Numbered) (found : Found) (broken : Broken) → zones ≡ scan.zones.items → others ≡ scan.zones.items
      → ScansHidden site zones due faces (Some found) → SaysThing others found.place (broken_zone Indication found.panel) broken
      → FirstInTick site ticks timeline tick (Some (breach_in tick broken))
  finds_hidden zones others found broken is other_is scans says =
      let first = hidden_first site timeline operations ticks tick judge due unfounded after zones (zones_are zones is) faces are found eight scans in
      said zones others scan.zones.items found.place (broken_zone Indication found.panel) broken is other_is says first.0 first.1
      (first_indication site ticks timeline tick answer (breach_in tick (broken_zone Indication found.panel first.0)) first.2)

  pub finds_dark : NoneHidden → (outputs others : List Numbered) (place : ℕ) (broken : Broken) → outputs ≡ scan.outputs.items
      → others ≡ scan.outputs.items → ScansDark site outputs judge.dues judge.excused faces (Some place)
      → SaysThing others place (broken_output Output) broken → FirstInTick site ticks timeline tick (Some (breach_in tick broken))
  finds_dark hidden outputs others place broken is other_is scans says =
      let first = dark_first site timeline operations ticks tick judge due unfounded after outputs (outputs_are outputs is) faces are place scans in
      said outputs others scan.outputs.items place (broken_output Output) broken is other_is says first.0 first.1
      (first_output site ticks timeline tick answer (indication hidden) (breach_in tick (broken_output Output first.0)) first.2)

  pub finds_uncaused : NoneHidden → NoneDark → (zones others : List Numbered) (found : Found) (broken : Broken) → zones ≡ scan.zones.items
      → others ≡ scan.zones.items → ScansUncaused site zones judge.causes judge.joined faces (Some found)
      → SaysThing others found.place (broken_zone Zone found.panel) broken → FirstInTick site ticks timeline tick (Some (breach_in tick broken))
  finds_uncaused hidden dark zones others found broken is other_is scans says =
      let first = uncaused_first site timeline operations ticks tick judge due unfounded after zones (zones_are zones is) faces are found scans in
      said zones others scan.zones.items found.place (broken_zone Zone found.panel) broken is other_is says first.0 first.1
      (first_zone site ticks timeline tick answer (indication hidden) (output dark) (breach_in tick (broken_zone Zone found.panel first.0)) first.2)

  module _ (hidden : NoneHidden) (dark : NoneDark) (uncaused : NoneUncaused) (acyclic : HasNoCycle site) where
    pub finds_baseless : (outputs others : List Numbered) (place : ℕ) (broken : Broken) → outputs ≡ scan.outputs.items → others ≡ scan.outputs.items
        → ScansBaseless site outputs judge.causes judge.joined faces scan.heard (Some place) → SaysThing others place (broken_output Cause) broken
        → FirstInTick site ticks timeline tick (Some (breach_in tick broken))
    finds_baseless outputs others place broken is other_is scans says =
        let first =
        baseless_first site timeline operations ticks tick judge due unfounded after outputs (outputs_are outputs is) faces are scan.heard place acyclic
        stands.heard scans in
        said outputs others scan.outputs.items place (broken_output Cause) broken is other_is says first.0 first.1
        (first_cause site ticks timeline tick answer (indication hidden) (output dark) (zone uncaused) (breach_in tick (broken_output Cause first.0)) first.2)

    pub finds_none : (outputs : List Numbered) → outputs ≡ scan.outputs.items
        → ScansBaseless site outputs judge.causes judge.joined faces scan.heard None → FirstInTick site ticks timeline tick None
    finds_none outputs is scans =
        none_at_all site ticks timeline tick answer (indication hidden) (output dark) (zone uncaused)
        (baseless_none site timeline operations ticks tick judge due unfounded after outputs (outputs_are outputs is) faces are scan.heard acyclic
        stands.heard scans)
