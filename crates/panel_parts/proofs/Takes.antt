-- What a turn of Decide takes.
use Rattle.std.proofs.Common.{◌≡◌, ◌≤◌, ℕ, zero, suc, ◌+◌, List, inl, inr, false, [], ◌∷◌, ◌++◌, drop, Some, slice_get, sym, ◌∙◌, ap, subst, arith}
use Rattle.std.proofs.lemmas.Bool.Decides.{leb_tells}
use Rattle.tick_units.specs.Lane.{LaneState, with_put, after_turn, turn_count}
use Rattle.tick_units.specs.declared.task.Task.TheVariants.{Decide}
use Rattle.site_types.specs.declared.answer.Answer.{Answer}
use Rattle.site_types.specs.declared.retained.Retained.{Retained}
use Rattle.site_types.specs.declared.site.Site.{Site}
use Rattle.site_types.specs.Done.{Done, AreBy}
use Rattle.coincidence_rules.specs.declared.finding.Finding.{Finding}
use Rattle.coincidence_rules.specs.Findings.{findings_after}
use Rattle.coincidence_rules.specs.InOrder.{AreInOrder}
use Rattle.coincidence.specs.declared.decide.Decide.{Decide as DecidePart}
use Rattle.coincidence.specs.Premises.{MayTake}
use Rattle.coincidence.specs.Stands.{DecidesFor, CanTake, taken_by}
use Rattle.panel_rules.specs.Moments.{Moment, Turned, IsRun, IsPanel, has_turned, present, tick_of}
use Rattle.panel_rules.specs.Answers.{answers}
use Rattle.panel_rules.specs.Counts.{taken_by_decide}
use Rattle.panel_rules.proofs.Places.{take_get}
use Rattle.panel_rules.proofs.AnswersTell.{told_by}
use Rattle.panel_rules.proofs.Lags.{decide_has}
use Rattle.panel_rules.proofs.Order.{answers_in_order}
use Rattle.panel_rules.proofs.Turns.{turn_lag}
use Rattle.panel_parts.specs.declared.parts.Parts.{Parts}
use Rattle.hold_calls.specs.Lanes.{answer_lane, decided}
use Rattle.panel_parts.specs.Stands.{AreBefore, PanelStands}
use Rattle.panel_parts.proofs.Panels.{facts_left, outputs_left}
use Rattle.hold_calls.specs.Told.{Told}
use Rattle.hold_calls.proofs.Fronts.{front_more, order_front}
use Rattle.hold_calls.proofs.Steps.{decided_answers, decided_more, decided_findings}

drop_get : {X : Type 0} (d : ℕ) (xs : List X) (k : ℕ) (x : X) → slice_get (drop d xs) k ≡ Some x → slice_get xs (d + k) ≡ Some x
drop_get zero xs k x h = let e : k ≡ 0 + k = omega arith in subst (λ n. slice_get xs n ≡ Some x) e h
drop_get (suc d) [] k x h = cc
drop_get (suc d) (y ∷ xs) k x h = let e : suc (d + k) ≡ suc d + k = omega arith in subst (λ n. slice_get (y ∷ xs) n ≡ Some x) e (drop_get d xs k x h)

-- before Decide's turn the oldest answer that it hasn't taken is stamped in this tick or the one before
lately : (site : Site) (panel : ℕ) (before : List Moment) (k : ℕ) (a : Answer) → IsPanel site.panels panel → IsRun site.panels before
    → has_turned panel Decide before ≡ false → slice_get (answers site panel before) k ≡ Some a → taken_by_decide site panel before ≤ k
    → tick_of before ≤ a.stamp.0 + 1
lately site panel before k a p run owed is fresh =
    elim (leb_tells (tick_of before) (a.stamp.0 + 1)) [
      | inl l ↦ l.1
      | inr l ↦
          (let late = l.1 in
          let lag = rw owed at (turn_lag site.panels panel Decide before p tt run) in
          let had = decide_has site site.panels panel before k a p run is (omega (arith, lag, late)) in
          absurd (omega (arith, had, fresh)))
    ]

by_stamp : (stamp tick : ℕ) (done : List Done) → tick ≤ stamp + 1 → AreBefore tick done → AreBy stamp done
by_stamp stamp tick [] near past = tt
by_stamp stamp tick (d ∷ done) near past = (let l = past.0 in omega (arith, near, l), by_stamp stamp tick done near past.1)

-- what lies before Decide may be taken
pub may_take : (site : Site) (done : List Done) (panel : ℕ) (before : List Moment) → IsPanel site.panels panel
    → IsRun site.panels (Turned panel Decide ∷ before) → AreBefore (tick_of before) done
    → MayTake site panel done (decided site panel before) (taken_by (answer_lane site panel before))
may_take site done panel before p (run, owed) past =
    let d = taken_by_decide site panel before in
    let n = turn_count (answer_lane site panel before) in
    record {
      own = λ k answer is. (
          let got = take_get n (drop d (answers site panel before)) k answer is in
          let tells = told_by site site.panels panel before before (d + k) answer run present (drop_get d (answers site panel before) k answer got.1)
          in
          record { point = tells.plan; is = tells.is; at = tells.of_panel });
      order =
          subst AreInOrder (sym (front_more d n (answers site panel before)))
          (order_front (d + n) (answers site panel before) (answers_in_order site site.panels panel before p run));
      since = λ k answer is. (
          let got = take_get n (drop d (answers site panel before)) k answer is in
          by_stamp answer.stamp.0 (tick_of before) done
          (lately site panel before (d + k) answer p run owed (drop_get d (answers site panel before) k answer got.1) (omega arith)) past);
    }

pub can_take : (site : Site) (kept : Retained) (done : List Done) (told : Told) (panel : ℕ) (before : List Moment) (parts : Parts)
    → PanelStands site kept done told panel before parts → IsRun site.panels (Turned panel Decide ∷ before) → AreBefore (tick_of before) done → CanTake parts.decide (taken_by parts.answers)
can_take site kept done told panel before parts h run past =
    record {
      site = site;
      kept = kept;
      panel = panel;
      done = done;
      taken = decided site panel before;
      stands = h.decides;
      may = subst (λ (l : LaneState Answer). MayTake site panel done (decided site panel before) (taken_by l)) (sym h.answers) (may_take site done panel before h.member run past);
    }

pub after_decide : (site : Site) (kept : Retained) (done : List Done) (told : Told) (panel : ℕ) (before : List Moment) (parts : Parts) (decide : DecidePart) (answers' :
    LaneState Answer) (findings' : LaneState Finding) → PanelStands site kept done told panel before parts
    → IsRun site.panels (Turned panel Decide ∷ before) → AreBefore (tick_of before) done → answers' ≡ after_turn parts.answers
    → (DecidesFor site kept panel done (decided site panel before) parts.decide
    → MayTake site panel done (decided site panel before) (taken_by parts.answers)
    → DecidesFor site kept panel done (decided site panel before ++ taken_by parts.answers) decide)
    → (DecidesFor site kept panel done (decided site panel before) parts.decide
    → MayTake site panel done (decided site panel before) (taken_by parts.answers)
    → findings' ≡ with_put parts.findings (findings_after site kept panel done (decided site panel before) (taken_by parts.answers)))
    → PanelStands site kept done told panel (Turned panel Decide ∷ before) (record {
      poller = parts.poller;
      decide = decide;
      hold = parts.hold;
      answers =
          answers';
      findings = findings';
      supply = parts.supply;
      effects = parts.effects;
      drive = parts.drive;
    })
after_decide site kept done told panel before parts decide answers' findings' h run past taken stands found =
    let may =
    subst (λ (l : LaneState Answer). MayTake site panel done (decided site panel before) (taken_by l)) (sym h.answers)
    (may_take site done panel before h.member run past) in
    record {
      member = h.member;
      polls = h.polls;
      answers = taken ∙ ap after_turn h.answers ∙ decided_answers site panel before;
      decides =
          subst (λ xs. DecidesFor site kept panel done xs decide)
          (ap (λ (l : LaneState Answer). decided site panel before ++ taken_by l) h.answers ∙ decided_more site panel before)
          (stands h.decides may);
      findings =
          found h.decides may
          ∙ ap (λ (l : LaneState Answer). with_put parts.findings (findings_after site kept panel done (decided site panel before) (taken_by l)))
          h.answers
          ∙ ap (λ l. with_put l (findings_after site kept panel done (decided site panel before) (taken_by (answer_lane site panel before)))) h.findings
          ∙ decided_findings site kept done panel before;
      holds = h.holds;
      supplies = h.supplies;
      effects = facts_left site kept done told panel before Decide parts.effects (λ e. cc) h.effects;
      drives = outputs_left site kept done told panel before Decide parts.drive (λ e. cc) h.drives;
    }
