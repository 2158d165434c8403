-- What an operation makes of a panel that was done in the tick that ends: it changes nothing of the findings and of the
-- turns that were made, and the parts stand for it too.
use Rattle.std.proofs.Common.{◌≡◌, ◌≢◌, ℕ, ◌≤◌, List, [], ◌∷◌, drop, refl, sym, ◌∙◌, ap, subst, arith, true}
use Rattle.tick_units.specs.declared.task.Task.TheVariants.{Hold}
use Rattle.site_types.specs.declared.retained.Retained.{Retained}
use Rattle.site_types.specs.declared.site.Site.{Site}
use Rattle.site_types.specs.Done.{Done}
use Rattle.site_types.specs.Events.{has_operands}
use Rattle.site_types.proofs.LaterDone.{AreFrom}
use Rattle.coincidence_rules.specs.Applied.{MayBeDone}
use Rattle.coincidence_rules.proofs.Elsewhere.{elsewhere}
use Rattle.coincidence_rules.proofs.Later.{findings-later}
use Rattle.coincidence_rules.proofs.Seconds.{AreUpTo}
use Rattle.coincidence.specs.declared.decide.Decide.{Decide as DecidePart}
use Rattle.coincidence.specs.Premises.{MayApply as DecideMayApply}
use Rattle.coincidence.specs.Stands.{DecidesFor}
use Rattle.coincidence.proofs.Elsewhere.{stands_elsewhere}
use Rattle.panel_conditions.specs.declared.hold.Hold.{Hold as HoldPart}
use Rattle.panel_conditions.specs.Stands.{HoldsFor, MayApply as HoldMayApply, MayNote}
use Rattle.panel_conditions.specs.Turns.{latest_tick}
use Rattle.panel_rules.specs.Moments.{Moment, tick_of}
use Rattle.panel_rules.specs.Answers.{answers}
use Rattle.panel_rules.specs.Counts.{taken_by_decide, taken_by_hold}
use Rattle.panel_rules.proofs.Lags.{stamped_by}
use Rattle.panel_rules.proofs.Places.{take_get}
use Rattle.panel_laws.proofs.LaterDone.{turn_in_time}
use Rattle.panel_parts.specs.declared.parts.Parts.{Parts}
use Rattle.panel_parts.specs.Applied.{MayBeApplied}
use Rattle.hold_calls.specs.Lanes.{decided, finding_lane, found}
use Rattle.panel_parts.specs.Stands.{AgreeBefore, PanelStands}
use Rattle.hold_calls.specs.Told.{Told}
use Rattle.hold_calls.specs.Turns.{hold_turns}
use Rattle.hold_calls.proofs.TurnsMade.{turns_tick}
use Rattle.panel_parts.proofs.Later.{effects_later, outputs_later, turns_same}
use Rattle.hold_calls.proofs.Steps.{lane_is}

module _ (site : Site) (kept : Retained) (done : List Done) (d : Done) (panel : ℕ) where
  -- what Decide has taken is stamped by now
  pub decided_late : (before : List Moment) → AreUpTo (tick_of before) (decided site panel before)
  decided_late before k a is = stamped_by site panel before k a (take_get (taken_by_decide site panel before) (answers site panel before) k a is).1

  found_same : (before : List Moment) → tick_of before ≤ d.tick → found site kept done panel before ≡ found site kept (d ∷ done) panel before
  found_same before late =
      sym
      (findings-later site kept (d ∷ []) done d.tick (omega arith, tt) panel [] (decided site panel before) (λ k a is. cc)
      (λ k a is. let stamp = decided_late before k a is in omega (arith, stamp, late)))

  pub lane_same : (before : List Moment) → tick_of before ≤ d.tick → finding_lane site kept done panel before ≡ finding_lane site kept (d ∷ done) panel before
  lane_same before late = lane_is _ _ _ _ _ _ (ap (drop (taken_by_hold site panel before)) (found_same before late)) refl refl

  -- as more is done, here this operation
  one_more : AreFrom d.tick (d ∷ [])
  one_more = (omega arith, tt)

  turned_before : (told : Told) (before : List Moment) → latest_tick (hold_turns site kept done told panel before) ≤ tick_of before
  turned_before told before =
      (let last = turns_tick site kept done told panel before in let time = turn_in_time panel Hold before in omega (arith, last, time))

  -- as it is applied to the panel's own parts
  abbrev own_done : Done
  own_done = record { tick = d.tick; panel = panel; operation = d.operation }

  module _ (told : Told) (before : List Moment) (parts : Parts) (h : PanelStands site kept done told panel before parts) (may : MayBeApplied site before done d) where
    -- one of this panel may be applied to its parts
    pub decide_may : d.panel ≡ panel → DecideMayApply site panel done (decided site panel before) d.operation d.tick
    decide_may own = record {
      own = subst (λ p. has_operands site p d.operation ≡ true) own may.has;
      next = subst (λ p. MayBeDone p done d.operation d.tick) own may.next;
      late = λ k a is. let stamp = decided_late before k a is in let now = may.now in omega (arith, stamp, now);
    }

    pub hold_may : d.panel ≡ panel → HoldMayApply panel done (hold_turns site kept done told panel before) d.operation d.tick
    hold_may own = record {
      next = subst (λ p. MayBeDone p done d.operation d.tick) own may.next;
      turned = (let last = turned_before told before in let now = may.now in omega (arith, last, now));
    }

    pub hold_notes : d.panel ≢ panel → MayNote site panel (hold_turns site kept done told panel before) d
    hold_notes apart = record {
      wired = h.decides.wired;
      apart = apart;
      has = may.has;
      turned = (let last = turned_before told before in let now = may.now in omega (arith, last, now));
    }

    -- what is told may then be told otherwise, but not to the turns that were made
    module _ (other : Told) (agree : AgreeBefore before told other) where
      pub stands_with : (decide : DecidePart) (hold : HoldPart) → DecidesFor site kept panel (d ∷ done) (decided site panel before) decide
          → HoldsFor site kept panel (d ∷ done) (hold_turns site kept done told panel before) hold
          → PanelStands site kept (d ∷ done) other panel before (record parts { decide = decide; hold = hold })
      stands_with decide hold decides holds =
          let now = may.now in
          let late : tick_of before ≤ d.tick = omega (arith, now) in
          record {
            member = h.member;
            polls = h.polls;
            answers = h.answers;
            decides = decides;
            findings = h.findings ∙ lane_same before late;
            holds =
                subst (λ ts. HoldsFor site kept panel (d ∷ done) ts hold)
                (turns_same site kept (d ∷ []) done told other panel d.tick one_more lane_same before agree late) holds;
            supplies = h.supplies;
            effects = effects_later site kept (d ∷ []) done told other before agree d.tick one_more late panel parts.effects h.effects;
            drives = outputs_later site kept (d ∷ []) done told other before agree d.tick one_more late panel parts.drive h.drives;
          }

      -- one of this panel was applied to both
      pub stands_own : d.panel ≡ panel → (decide : DecidePart) (hold : HoldPart)
          → DecidesFor site kept panel (own_done ∷ done) (decided site panel before) decide
          → HoldsFor site kept panel (own_done ∷ done) (hold_turns site kept done told panel before) hold
          → PanelStands site kept (d ∷ done) other panel before (record parts { decide = decide; hold = hold })
      stands_own own decide hold decides holds =
          let same : own_done ≡ d = ap (λ p. (let o : Done = record { tick = d.tick; panel = p; operation = d.operation } in o)) (sym own) in
          stands_with decide hold (subst (λ o. DecidesFor site kept panel (o ∷ done) (decided site panel before) decide) same decides)
          (subst (λ o. HoldsFor site kept panel (o ∷ done) (hold_turns site kept done told panel before) hold) same holds)

      -- one of another panel leaves what Decide stands for
      pub stands_noted : (hold : HoldPart) → d.panel ≢ panel → HoldsFor site kept panel (d ∷ done) (hold_turns site kept done told panel before) hold
          → PanelStands site kept (d ∷ done) other panel before (record parts { hold = hold })
      stands_noted hold apart holds =
          stands_with parts.decide hold
          (stands_elsewhere site kept panel done d (elsewhere site panel d.tick d.panel apart d.operation may.has) (decided site panel before)
          parts.decide h.decides) holds

-- a panel stands for all that tell the same to the turns that were made
pub stands_alike : (site : Site) (kept : Retained) (done : List Done) (one other : Told) (panel : ℕ) (before : List Moment) (parts : Parts)
    → AgreeBefore before one other → PanelStands site kept done one panel before parts → PanelStands site kept done other panel before parts
stands_alike site kept done one other panel before parts agree h = record {
  member = h.member;
  polls = h.polls;
  answers = h.answers;
  decides = h.decides;
  findings = h.findings;
  holds =
      subst (λ ts. HoldsFor site kept panel done ts parts.hold)
      (turns_same site kept [] done one other panel (tick_of before) tt (λ past late. refl) before agree (omega arith)) h.holds;
  supplies = h.supplies;
  effects = effects_later site kept [] done one other before agree (tick_of before) tt (omega arith) panel parts.effects h.effects;
  drives = outputs_later site kept [] done one other before agree (tick_of before) tt (omega arith) panel parts.drive h.drives;
}
