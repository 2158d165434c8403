-- Judging one tick after another.
use Rattle.std.proofs.Common.{◌≡◌, ◌∙◌, ◌+◌, ◌-◌, ◌≤◌, ◌↔◌, ◌==◌, ℕ, Bool, true, false, List, [], ◌∷◌, ◌++◌, refl, sym, ap, subst, arith, length, Option, Some, None, option_map}
use Rattle.std.proofs.Common.{slice_get, inl, inr}
use Rattle.std.proofs.lemmas.Bool.Decides.{leb_tells, eqb_tells}
use Rattle.tick_units.specs.declared.tick.Tick.{Tick}
use Rattle.site_types.specs.declared.event.Event.{Event}
use Rattle.site_types.specs.declared.site.Site.{Site}
use Rattle.face_text.specs.declared.step.Step.{Step}
use Rattle.face_text.specs.declared.timeline.Timeline.{Timeline}
use Rattle.panel_rules.specs.Moments.{TickBlock, moments}
use Rattle.panel_rules.specs.Records.{AreOrdered}
use Rattle.audit_rules.specs.declared.audit_rule.AuditRule.TheVariants.{Answer}
use Rattle.audit_rules.specs.Answering.{HasUnfounded}
use Rattle.audit_rules.specs.Breaches.{asked_in_record, kept_by_text}
use Rattle.blocked_points.specs.declared.done_operation.DoneOperation.{DoneOperation}
use Rattle.blocked_points.specs.Operations.{done_newest_first}
use Rattle.due_zones.specs.declared.due_zones.DueZones.{DueZones}
use Rattle.due_zones.specs.Telling.{AreDueAtEach}
use Rattle.shown_causes.specs.Faults.{DoStepsRise}
use Rattle.tick_events.specs.declared.tick_events.TickEvents.{TickEvents}
use Rattle.tick_events.specs.Told.{TellsEventsOfTick, ticks_until}
use Rattle.told_operations.specs.Founding.{IsFirstUnfounded}
use Rattle.panel_audit.specs.declared.broken.Broken.{Broken}
use Rattle.panel_audit.specs.declared.judge.Judge.{Judge}
use Rattle.panel_audit.specs.declared.scan.Scan.{Scan}
use Rattle.panel_audit.specs.Breaking.{breach_in}
use Rattle.panel_audit.specs.Firsts.{FirstInTick}
use Rattle.panel_audit.specs.Judging.{JudgeStands, TakesTick}
use Rattle.panel_audit.specs.Scanning.{FindsFirst, IsScannedAfter, ScanStands}
use Rattle.panel_audit.specs.Ticks.{IsCase, is_at}
use Rattle.panel_audit.proofs.Orders.{until_ordered}
use Rattle.panel_audit.proofs.TicksUntil.{until_counted}
use Rattle.panel_audit.proofs.RuleBreaches.{FirstByTick}

-- so many ticks were judged, and none breaks a rule
pub record IsJudgedTo (site : Site) (timeline : Timeline) (operations : List DoneOperation) (ticks : List TickBlock) (place : ℕ) (judge : Judge)
    (scan : Scan) : Type 0 where
  pub stands : JudgeStands site (kept_by_text site ticks timeline) timeline operations (ticks_until place ticks) judge
  pub scanned : ScanStands site scan
  pub none : FirstByTick site ticks timeline place None

-- no answer comes before tick 1
there : (before : List Step) (step : Step) (after : List Step) → slice_get (before ++ step ∷ after) (length before) ≡ Some step
there [] step after = refl
there (first ∷ before) step after = there before step after

from_one : (timeline : Timeline) → DoStepsRise timeline.steps → (site : Site) (ticks : List TickBlock) (tick : ℕ)
    → HasUnfounded (asked_in_record site ticks timeline) timeline.steps tick → 1 ≤ tick
from_one timeline rise site ticks tick has =
    let first = rise.from_one (length has.before) has.step (ap (λ steps. slice_get steps (length has.before)) has.splits ∙ there has.before has.step has.after) in
    subst (λ n. 1 ≤ n) has.in_tick first

-- where no tick before has an unfounded answer, this one has where it is the first
module _ (site : Site) (timeline : Timeline) (ticks : List TickBlock) (place : ℕ) (rise : DoStepsRise timeline.steps)
    (none : FirstByTick site ticks timeline place None) where
  not_earlier : (tick : ℕ) → tick ≤ place → HasUnfounded (asked_in_record site ticks timeline) timeline.steps tick → ⊥
  not_earlier tick by has =
      none (record { tick = tick; rule = Answer; panel = 0; owner = 0; number = 0 })
      (record {
        begins = from_one timeline rise site ticks tick has;
        by = by;
        breaks = record { panel = refl; owner = refl; number = refl; unfounded = has };
      })

  pub answers_at : (unfounded : Option Tick) → IsFirstUnfounded site (moments ticks) timeline.steps (option_map (λ (t : Tick). t.0) unfounded)
      → (is_at unfounded (place + 1) ≡ true) ↔ HasUnfounded (asked_in_record site ticks timeline) timeline.steps (place + 1)
  answers_at None first = (λ h. absurd (never h), λ has. absurd (first.none refl (place + 1) has))
    where
      never : false ≡ true → ⊥
      never e = cc
  answers_at (Some tick) first = (
    λ h. (let same = is h in subst (HasUnfounded (asked_in_record site ticks timeline) timeline.steps) same (first.some tick.0 refl)),
    λ has. (
        let least = first.least tick.0 (place + 1) refl has in
        elim (leb_tells tick.0 place) [
          | inl h ↦ absurd (not_earlier tick.0 h.1 (first.some tick.0 refl))
          | inr h ↦ (let far = h.1 in let same : tick.0 ≡ place + 1 = omega (arith, least, far) in yes same)
        ]),
  )
    where
      is : (tick.0 == place + 1) ≡ true → tick.0 ≡ place + 1
      is h = elim (eqb_tells tick.0 (place + 1)) [
        | inl e ↦ e.1
        | inr e ↦ absurd (never (sym h ∙ e.0))
      ]
        where
          never : true ≡ false → ⊥
          never e = cc

      yes : tick.0 ≡ place + 1 → (tick.0 == place + 1) ≡ true
      yes same = elim (eqb_tells tick.0 (place + 1)) [
        | inl e ↦ e.0
        | inr e ↦ absurd (e.1 same)
      ]

-- one more tick is taken
module _ (site : Site) (timeline : Timeline) (operations : List DoneOperation) (told : TickEvents) (unfounded : Option Tick) (ticks : List TickBlock)
    (known : IsCase site timeline operations told unfounded ticks) (place : ℕ) (within : place + 1 ≤ length ticks) where
  pub tick_taken : (now : ℕ) (events : List Event) (due : List DueZones) (old new : Judge) → now ≡ place + 1 → TellsEventsOfTick ticks (place + 1) events
      → TakesTick site timeline operations now events due old new
      → JudgeStands site (kept_by_text site ticks timeline) timeline operations (ticks_until place ticks) old
      → JudgeStands site (kept_by_text site ticks timeline) timeline operations (ticks_until (place + 1) ticks) new
      × AreDueAtEach site (kept_by_text site ticks timeline) (done_newest_first operations) (moments (ticks_until (place + 1) ticks)) due
  tick_taken now events due old new is tells takes stands =
      let back : place + 1 - 1 ≡ place = omega arith in
      let past = ticks_until place ticks in
      let newest : ticks_until (place + 1) ticks ≡ tells.block ∷ past = tells.is_newest ∙ ap (λ n. tells.block ∷ ticks_until n ticks) back in
      let counted = until_counted ticks place (omega (arith, within)) in
      let ordered = subst (AreOrdered site.panels) newest (until_ordered site.panels (place + 1) ticks known.ordered) in
      let taken = takes (kept_by_text site ticks timeline) past tells.block known.acyclic ordered known.rise (omega (arith, is, counted), tells.events_are) stands in (
        subst (λ ts. JudgeStands site (kept_by_text site ticks timeline) timeline operations ts new) (sym newest) taken.0,
        subst (λ ts. AreDueAtEach site (kept_by_text site ticks timeline) (done_newest_first operations) (moments ts) due) (sym newest) taken.1,
      )

  -- what is known then
  known_after : (judge : Judge) (due : List DueZones) (at : Bool) → at ≡ is_at unfounded (place + 1)
      → JudgeStands site (kept_by_text site ticks timeline) timeline operations (ticks_until (place + 1) ticks) judge
      → AreDueAtEach site (kept_by_text site ticks timeline) (done_newest_first operations) (moments (ticks_until (place + 1) ticks)) due
      → FirstByTick site ticks timeline place None → IsScannedAfter site timeline operations ticks (place + 1) judge due at
  known_after judge due at at_is judged are_due none =
      let answers = answers_at site timeline ticks place known.rise none unfounded known.answers in
      record {
        within = within;
        done = known.done;
        judged = judged;
        are_due = are_due;
        answers = (λ h. answers.0 (sym at_is ∙ h), λ has. at_is ∙ answers.1 has);
      }

  -- with the tick the auditor stands, and its first breach is found
  pub tick_judged : (now : ℕ) (events : List Event) (due : List DueZones) (old new : Judge) (at : Bool) (scan : Scan) (found : Option Broken)
      → now ≡ place + 1 → TellsEventsOfTick ticks (place + 1) events → TakesTick site timeline operations now events due old new
      → at ≡ is_at unfounded (place + 1) → FindsFirst site timeline operations new due at scan found → IsJudgedTo site timeline operations ticks place old scan
      → JudgeStands site (kept_by_text site ticks timeline) timeline operations (ticks_until (place + 1) ticks) new
      × FirstInTick site ticks timeline (place + 1) (option_map (breach_in (place + 1)) found)
  tick_judged now events due old new at scan found is tells takes at_is finds before =
      let taken = tick_taken now events due old new is tells takes before.stands in
      (taken.0, finds ticks (place + 1) known.acyclic before.scanned (known_after new due at at_is taken.0 taken.1 before.none))
