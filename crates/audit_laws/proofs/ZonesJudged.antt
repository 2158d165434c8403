-- A run's text breaks no rule on zones.
use Rattle.std.proofs.Common.{◌≡◌, ℕ, ◌≤◌, Bool, true, false, List, [], ◌∷◌, length, Some, slice_get, inl, inr, sym, ◌∙◌, ap, subst}
use Rattle.std.proofs.Common.{arith}
use Rattle.std.proofs.lemmas.Bool.Decides.{eqb_tells, leb_tells}
use Rattle.site_types.specs.declared.retained.Retained.{Retained}
use Rattle.site_types.specs.declared.site.Site.{Site}
use Rattle.site_types.specs.declared.zone.Zone.{Zone}
use Rattle.site_types.specs.Valid.{IsValid}
use Rattle.face_text.specs.declared.face.Face.{Face}
use Rattle.face_text.specs.declared.group.Group.TheVariants.{Zones}
use Rattle.face_text.specs.declared.timeline.Timeline.{Timeline}
use Rattle.face_text.specs.Slots.{shows}
use Rattle.panel_rules.specs.Batches.{kept_after}
use Rattle.panel_rules.specs.Caused.{IsCausedAt}
use Rattle.panel_rules.specs.CausedOutputs.{shown_at}
use Rattle.panel_rules.specs.Faces.{face_with}
use Rattle.panel_rules.specs.Kept.{heard}
use Rattle.panel_rules.specs.Moments.{HaveAllTurned, IsPanel, IsRun, Moment, TickBlock, moments, tick_of, up_to}
use Rattle.panel_rules.specs.Records.{AreOrdered}
use Rattle.panel_rules.specs.Timeline.{timeline_of}
use Rattle.panel_rules.specs.Zones.{panel_of_zone}
use Rattle.panel_rules.proofs.RecordRuns.{records_are_runs}
use Rattle.panel_laws.specs.FaceLaws.{HasEnded, shows_zone}
use Rattle.panel_laws.proofs.FacesShow.{due_zone_shown, of_plan, plan_panel, shown_zone_caused}
use Rattle.panel_laws.proofs.Steps.{up_to_tick}
use Rattle.run_text.specs.Failures.{as_recorded}
use Rattle.run_text.proofs.FailuresCounted.{are_the_same}
use Rattle.run_text.proofs.TickTimes.{tick_moments, up_to_earlier, whole_up_to}
use Rattle.audit_rules.specs.Breaches.{BreaksIndication, BreaksZone}
use Rattle.audit_rules.specs.CanCause.{CanBeShown, own, told}
use Rattle.audit_rules.specs.Shown.{text_tells_zone}
use Rattle.audit_rules.proofs.HeardStamps.{heard_may_be}
use Rattle.audit_laws.specs.AlikeZones.{Account, AreAlikeForZones}
use Rattle.audit_laws.specs.ZonesJudged.{TellsOfZones, ZoneRulesAreKept, account_of_run, account_of_text}
use Rattle.audit_laws.proofs.AlikeZones.{zones_alike}
use Rattle.audit_laws.proofs.FacesTold.{face_told}
use Rattle.audit_laws.proofs.MomentsTold.{records_told}

-- what befell up to a tick of a run is a run that has ended its tick
pub ended_at : (panels : ℕ) (ticks : List TickBlock) (tick : ℕ) → AreOrdered panels ticks → tick ≤ length ticks
    → IsRun panels (up_to tick (moments ticks)) × HaveAllTurned panels (up_to tick (moments ticks))
ended_at panels [] tick ordered by = records_are_runs panels [] tt
ended_at panels (block ∷ ticks) tick ordered by =
    elim (leb_tells tick (length ticks)) [
      | inl h ↦ subst (λ (m : List Moment). IsRun panels m × HaveAllTurned panels m) (sym (up_to_earlier block ticks tick h.1))
          (ended_at panels ticks tick ordered.0 h.1)
      | inr h ↦ (let past = h.1 in
          let last : length (block ∷ ticks) ≡ tick = omega (arith, by, past) in
          subst (λ (m : List Moment). IsRun panels m × HaveAllTurned panels m)
          (sym (ap (λ t. up_to t (moments (block ∷ ticks))) (sym last) ∙ whole_up_to (block ∷ ticks)))
          (records_are_runs panels (block ∷ ticks) ordered))
    ]

module _ (site : Site) (kept : Retained) (ticks : List TickBlock) (valid : IsValid site) (ordered : AreOrdered site.panels ticks)
    (tells : TellsOfZones site kept ticks) (tick : ℕ) (by : tick ≤ length ticks) (panel place : ℕ) (plan : Zone) (p : IsPanel site.panels panel)
    (is : slice_get site.zones place ≡ Some plan) where
  abbrev text : Timeline
  text = timeline_of site kept (moments ticks)

  abbrev told_by : Account
  told_by = account_of_text site (as_recorded ticks) (timeline_of site kept (moments ticks))

  abbrev told_then : List Moment
  told_then = up_to tick (moments (as_recorded ticks))

  after : HasEnded site told_then
  after =
      let same = are_the_same site.panels ticks in
      let long = same.0 in
      let ends = ended_at site.panels (as_recorded ticks) tick (same.1.1 ordered) (omega (arith, by, long)) in
      record { valid = valid; run = ends.0; ended = ends.1 }

  -- the text shows the zone exactly where a face by its own account does
  shown_is : text_tells_zone text panel plan tick
      ≡ shows_zone (face_with site told_by.kept told_by.done kept panel told_then) plan
  shown_is =
      let ticks_on = tick_moments ticks in
      let stamp : tick_of (up_to tick (moments ticks)) ≡ tick = up_to_tick tick (moments ticks) (omega (arith, by, ticks_on)) in
      ap (λ (face : Face). shows face (Zones plan.panel) plan.number) (face_told site kept ticks tick panel by p)
      ∙ sym
      (ap (λ (m : List Moment). shows_zone (face_with site told_by.kept told_by.done kept panel m) plan) (records_told ticks tick)
      ∙ zones_alike site told_by (account_of_run site kept (up_to tick (moments ticks))) kept (kept_after site kept (up_to tick (moments ticks)))
      (up_to tick (moments ticks)) panel place plan valid is
      (subst (AreAlikeForZones site told_by (account_of_run site kept (up_to tick (moments ticks)))) (sym stamp) (tells.each tick by)))

  can_be : IsCausedAt site told_by.kept told_by.done told_then place (shown_at site panel place told_then)
      → CanBeShown site text told_by.kept told_by.done told_then panel place
  can_be cause =
      elim (eqb_tells panel (panel_of_zone site place)) [
        | inl t ↦ own t.1 (rw t.0 at cause)
        | inr t ↦ told t.1
            (record {
              stamp = heard site.panels panel (panel_of_zone site place) told_then;
              heard =
                  heard_may_be site told_then panel (panel_of_zone site place) valid after.run after.ended p
                  (subst (IsPanel site.panels) (sym (of_plan site told_by.kept told_by.done valid place plan is))
                  (plan_panel site told_by.kept told_by.done valid place plan is));
              cause = rw t.0 at cause;
            })
      ]

pub differ : (b : Bool) → b ≡ true → b ≡ false → ⊥
differ true e f = cc
differ false e f = cc

pub zone_rules_kept : ZoneRulesAreKept
zone_rules_kept site kept ticks breach valid ordered tells by = (hidden, uncaused)
  where
    hidden : ¬ BreaksIndication site (as_recorded ticks) (timeline_of site kept (moments ticks)) breach
    hidden b =
        let said = account_of_text site (as_recorded ticks) (timeline_of site kept (moments ticks)) in
        let alike = shown_is site kept ticks valid ordered tells breach.tick by breach.panel b.place b.plan b.names.panel b.names.plan_is in
        let ends = after site kept ticks valid ordered tells breach.tick by breach.panel b.place b.plan b.names.panel b.names.plan_is in
        differ (text_tells_zone (timeline_of site kept (moments ticks)) breach.panel b.plan breach.tick)
        (alike
        ∙ due_zone_shown site said.kept said.done kept (up_to breach.tick (moments (as_recorded ticks))) b.place b.plan breach.panel ends
        b.names.panel b.names.plan_is b.due) b.hidden

    uncaused : ¬ BreaksZone site (as_recorded ticks) (timeline_of site kept (moments ticks)) breach
    uncaused b =
        let said = account_of_text site (as_recorded ticks) (timeline_of site kept (moments ticks)) in
        let alike = shown_is site kept ticks valid ordered tells breach.tick by breach.panel b.place b.plan b.names.panel b.names.plan_is in
        let ends = after site kept ticks valid ordered tells breach.tick by breach.panel b.place b.plan b.names.panel b.names.plan_is in
        b.uncaused
        (can_be site kept ticks valid ordered tells breach.tick by breach.panel b.place b.plan b.names.panel b.names.plan_is
        (shown_zone_caused site said.kept said.done kept (up_to breach.tick (moments (as_recorded ticks))) b.place b.plan breach.panel ends
        b.names.panel b.names.plan_is (sym alike ∙ b.shown)))
