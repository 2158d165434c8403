-- What is found after a tick of a record is the first breach of each rule.
use Rattle.std.proofs.Common.{◌≡◌, ◌∙◌, ℕ, Bool, List, sym, subst, length, Option, Some, None, slice_get}
use Rattle.site_types.specs.declared.site.Site.{Site}
use Rattle.site_types.specs.Done.{Done}
use Rattle.cause_effect.specs.Cycles.{HasNoCycle}
use Rattle.face_text.specs.declared.face.Face.{Face}
use Rattle.face_text.specs.declared.timeline.Timeline.{Timeline}
use Rattle.panel_rules.specs.Moments.{Moment, TickBlock, moments, tick_of, up_to}
use Rattle.run_text.proofs.TickTimes.{tick_moments}
use Rattle.audit_rules.specs.declared.audit_rule.AuditRule.TheVariants.{Indication, Output, Zone, Cause}
use Rattle.audit_rules.specs.Breaches.{done_by_text, kept_by_text}
use Rattle.audit_rules.specs.Shown.{faces_after}
use Rattle.asked_markers.specs.declared.asked_markers.AskedMarkers.{AskedMarkers}
use Rattle.blocked_points.specs.declared.done_operation.DoneOperation.{DoneOperation}
use Rattle.blocked_points.specs.Operations.{done_newest_first}
use Rattle.due_zones.specs.declared.due_zones.DueZones.{DueZones}
use Rattle.tick_events.specs.Told.{ticks_until}
use Rattle.panel_audit.specs.declared.found.Found.{Found}
use Rattle.panel_audit.specs.declared.judge.Judge.{Judge}
use Rattle.panel_audit.specs.declared.numbered.Numbered.{Numbered}
use Rattle.panel_audit.specs.Breaking.{breach_in, broken_output, broken_zone}
use Rattle.panel_audit.specs.Broken.{IsBaseless, IsDark, IsHidden, IsUncaused}
use Rattle.panel_audit.specs.Numbers.{AreOutputNumbers, AreZoneNumbers}
use Rattle.panel_audit.specs.Places.{FirstFound, FirstPlace}
use Rattle.panel_audit.specs.Scanning.{IsScannedAfter}
use Rattle.panel_audit.specs.Scans.{AreFacesAfter, HeardSolved, ScansBaseless, ScansDark, ScansHidden, ScansUncaused}
use Rattle.panel_audit.specs.ShownSteps.{ReadsUpTo}
use Rattle.panel_audit.proofs.OutputRules.{output_first, output_none}
use Rattle.panel_audit.proofs.RulesMet.{baseless_breaks, broken_baseless, broken_dark, broken_hides, broken_uncaused, dark_breaks, hidden_breaks, uncaused_breaks}
use Rattle.panel_audit.proofs.TicksUntil.{until_counted, up_to_until}
use Rattle.panel_audit.proofs.ZoneRules.{zone_first, zone_none}
use Rattle.panel_audit.proofs.RuleBreaches.{FirstOfRule}

module _ (site : Site) (timeline : Timeline) (operations : List DoneOperation) (ticks : List TickBlock) (tick : ℕ) (judge : Judge) (due : List DueZones)
    (unfounded : Bool) (after : IsScannedAfter site timeline operations ticks tick judge due unfounded) where
  abbrev past : List TickBlock
  past = ticks_until tick ticks

  abbrev before : List Moment
  before = moments past

  abbrev done : List Done
  done = done_by_text site ticks timeline

  until : up_to tick (moments ticks) ≡ before
  until = up_to_until ticks tick after.within

  now : tick_of before ≡ tick
  now = tick_moments past ∙ until_counted ticks tick after.within

  -- the faces that were read are those after the tick
  pub faces_then : (faces : List Face) → ((t : ℕ) → ReadsUpTo timeline.steps t judge.shown.steps → faces ≡ faces_after t timeline.opened timeline.steps)
      → AreFacesAfter timeline (length past) faces
  faces_then faces are = are (length past) after.judged.shown

  module _ (zones : List Numbered) (numbers : AreZoneNumbers site.zones zones) (faces : List Face) (are : AreFacesAfter timeline (length past) faces) where
    hidden : (found : Option Found) → length due ≡ 8 → ScansHidden site zones due faces found
        → FirstFound zones (IsHidden site (kept_by_text site ticks timeline) done timeline before) site.panels found
    hidden found eight scans =
        subst (λ d. FirstFound zones (IsHidden site (kept_by_text site ticks timeline) d timeline before) site.panels found) after.done
        (scans (kept_by_text site ticks timeline) (done_newest_first operations) timeline before numbers eight after.are_due
        (subst (λ n. AreFacesAfter timeline n faces) (sym (tick_moments past)) are))

    pub hidden_none : length due ≡ 8 → ScansHidden site zones due faces None → FirstOfRule site ticks timeline Indication tick None
    hidden_none eight scans =
        zone_none site ticks timeline zones numbers Indication tick (IsHidden site (kept_by_text site ticks timeline) done timeline before)
        (hidden_breaks site ticks timeline tick before until now) (broken_hides site ticks timeline tick before until now) (hidden None eight scans)

    pub hidden_first : (found : Found) → length due ≡ 8 → ScansHidden site zones due faces (Some found)
        → (zone : Numbered) × (slice_get zones found.place ≡ Some zone)
        × FirstOfRule site ticks timeline Indication tick (Some (breach_in tick (broken_zone Indication found.panel zone)))
    hidden_first found eight scans =
        let first = hidden (Some found) eight scans in (
          first.first.thing,
          first.first.is,
          zone_first site ticks timeline zones numbers Indication tick (IsHidden site (kept_by_text site ticks timeline) done timeline before)
              (hidden_breaks site ticks timeline tick before until now) (broken_hides site ticks timeline tick before until now) found first,
        )

    uncaused : (found : Option Found) → ScansUncaused site zones judge.causes judge.joined faces found
        → FirstFound zones (IsUncaused site (kept_by_text site ticks timeline) done timeline before) site.panels found
    uncaused found scans =
        subst (λ d. FirstFound zones (IsUncaused site (kept_by_text site ticks timeline) d timeline before) site.panels found) after.done
        (scans (kept_by_text site ticks timeline) operations timeline past numbers after.judged.causes after.judged.joined are)

    pub uncaused_none : ScansUncaused site zones judge.causes judge.joined faces None → FirstOfRule site ticks timeline Zone tick None
    uncaused_none scans =
        zone_none site ticks timeline zones numbers Zone tick (IsUncaused site (kept_by_text site ticks timeline) done timeline before)
        (uncaused_breaks site ticks timeline tick before until now) (broken_uncaused site ticks timeline tick before until now) (uncaused None scans)

    pub uncaused_first : (found : Found) → ScansUncaused site zones judge.causes judge.joined faces (Some found)
        → (zone : Numbered) × (slice_get zones found.place ≡ Some zone)
        × FirstOfRule site ticks timeline Zone tick (Some (breach_in tick (broken_zone Zone found.panel zone)))
    uncaused_first found scans =
        let first = uncaused (Some found) scans in (
          first.first.thing,
          first.first.is,
          zone_first site ticks timeline zones numbers Zone tick (IsUncaused site (kept_by_text site ticks timeline) done timeline before)
              (uncaused_breaks site ticks timeline tick before until now) (broken_uncaused site ticks timeline tick before until now) found first,
        )

  module _ (outputs : List Numbered) (numbers : AreOutputNumbers site.outputs outputs) (faces : List Face) (are : AreFacesAfter timeline (length past) faces) where
    dark : (found : Option ℕ) → ScansDark site outputs judge.dues judge.excused faces found
        → FirstPlace outputs (IsDark site (kept_by_text site ticks timeline) done timeline before) found
    dark found scans =
        subst (λ d. FirstPlace outputs (IsDark site (kept_by_text site ticks timeline) d timeline before) found) after.done
        (scans (kept_by_text site ticks timeline) operations timeline past numbers after.judged.dues after.judged.excused are)

    pub dark_none : ScansDark site outputs judge.dues judge.excused faces None → FirstOfRule site ticks timeline Output tick None
    dark_none scans =
        output_none site ticks timeline outputs numbers Output tick (IsDark site (kept_by_text site ticks timeline) done timeline before)
        (dark_breaks site ticks timeline tick before until now) (broken_dark site ticks timeline tick before until now) (dark None scans)

    pub dark_first : (place : ℕ) → ScansDark site outputs judge.dues judge.excused faces (Some place)
        → (output : Numbered) × (slice_get outputs place ≡ Some output)
        × FirstOfRule site ticks timeline Output tick (Some (breach_in tick (broken_output Output output)))
    dark_first place scans =
        let first = dark (Some place) scans in (
          first.thing,
          first.is,
          output_first site ticks timeline outputs numbers Output tick (IsDark site (kept_by_text site ticks timeline) done timeline before)
              (dark_breaks site ticks timeline tick before until now) (broken_dark site ticks timeline tick before until now) place first,
        )

    baseless : (heard : List AskedMarkers) (found : Option ℕ) → HasNoCycle site → HeardSolved site heard
        → ScansBaseless site outputs judge.causes judge.joined faces heard found
        → FirstPlace outputs (IsBaseless site (kept_by_text site ticks timeline) done timeline before) found
    baseless heard found acyclic solved scans =
        subst (λ d. FirstPlace outputs (IsBaseless site (kept_by_text site ticks timeline) d timeline before) found) after.done
        (scans (kept_by_text site ticks timeline) operations timeline past acyclic solved numbers after.judged.causes after.judged.joined are)

    pub baseless_none : (heard : List AskedMarkers) → HasNoCycle site → HeardSolved site heard
        → ScansBaseless site outputs judge.causes judge.joined faces heard None → FirstOfRule site ticks timeline Cause tick None
    baseless_none heard acyclic solved scans =
        output_none site ticks timeline outputs numbers Cause tick (IsBaseless site (kept_by_text site ticks timeline) done timeline before)
        (baseless_breaks site ticks timeline tick before until now) (broken_baseless site ticks timeline tick before until now)
        (baseless heard None acyclic solved scans)

    pub baseless_first : (heard : List AskedMarkers) (place : ℕ) → HasNoCycle site → HeardSolved site heard
        → ScansBaseless site outputs judge.causes judge.joined faces heard (Some place) → (output : Numbered) × (slice_get outputs place ≡ Some output)
        × FirstOfRule site ticks timeline Cause tick (Some (breach_in tick (broken_output Cause output)))
    baseless_first heard place acyclic solved scans =
        let first = baseless heard (Some place) acyclic solved scans in (
          first.thing,
          first.is,
          output_first site ticks timeline outputs numbers Cause tick (IsBaseless site (kept_by_text site ticks timeline) done timeline before)
              (baseless_breaks site ticks timeline tick before until now) (broken_baseless site ticks timeline tick before until now) place first,
        )
