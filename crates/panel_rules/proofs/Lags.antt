-- How long an answer may lie before Decide and Hold have taken it.
use Rattle.std.proofs.Common.{◌≡◌, ℕ, ◌+◌, ◌≤◌, ◌<◌, List, [], ◌∷◌, Some, slice_get, inl, inr, arith, length-append}
use Rattle.std.proofs.lemmas.Bool.Decides.{eqb_tells}
use Rattle.std.proofs.lemmas.Option.{slice_get_within}
use Rattle.tick_units.specs.declared.task.Task.TheVariants.{Poll, Decide, Hold}
use Rattle.site_types.specs.declared.site.Site.{Site}
use Rattle.site_types.specs.declared.answer.Answer.{Answer}
use Rattle.panel_rules.specs.Moments.{Moment, Began, Happened, Turned, Kept, IsRun, IsPanel, tick_of, latest_turn}
use Rattle.panel_rules.specs.Answers.{answers, asked}
use Rattle.panel_rules.specs.Counts.{answer_count, taken_by_decide, taken_by_hold}
use Rattle.panel_rules.specs.Lanes.{put_by_poll, put_by_decide}
use Rattle.panel_rules.proofs.Places.{get_either}
use Rattle.panel_rules.proofs.Asked.{asked_now}
use Rattle.panel_rules.proofs.Turns.{turn_lag}
use Rattle.panel_rules.proofs.Counts.{decide_behind, hold_behind, answers_lie, findings_lie, of_panel}

-- no answer is stamped later than now
pub stamped_by : (site : Site) (panel : ℕ) (before : List Moment) (k : ℕ) (a : Answer) → slice_get (answers site panel before) k ≡ Some a
    → a.stamp.0 ≤ tick_of before
stamped_by site panel [] k a h = cc
stamped_by site panel (Began ∷ before) k a h = omega (arith, stamped_by site panel before k a h)
stamped_by site panel (Happened event ∷ before) k a h = stamped_by site panel before k a h
stamped_by site panel (Turned other Poll ∷ before) k a h =
    elim (eqb_tells other panel) [
      | inl t ↦
          (let h' = rw t.0 at h in
          elim (get_either (answers site panel before) (asked site panel before) k a h') [
            | inl g ↦ stamped_by site panel before k a g
            | inr g ↦ omega (arith, asked_now site panel before g.place a g.is)
          ])
      | inr t ↦ (let h' = rw t.0 at h in stamped_by site panel before k a h')
    ]
stamped_by site panel (Turned other task ∷ before) k a h = stamped_by site panel before k a h
stamped_by site panel (Kept failed ∷ before) k a h = stamped_by site panel before k a h

-- what was asked before this tick lies in front of what was put in it
pub old_answer : (site : Site) (panel : ℕ) (before : List Moment) (k : ℕ) (a : Answer) → slice_get (answers site panel before) k ≡ Some a
    → a.stamp.0 < tick_of before → k + put_by_poll site panel before < answer_count site panel before
old_answer site panel [] k a h l = cc
old_answer site panel (Began ∷ before) k a h l = omega (arith, slice_get_within (answers site panel before) k a h)
old_answer site panel (Happened event ∷ before) k a h l = old_answer site panel before k a h l
old_answer site panel (Turned other Poll ∷ before) k a h l =
    elim (eqb_tells other panel) [
      | inl t ↦
          (let h' = rw t.0 at h in
          elim (get_either (answers site panel before) (asked site panel before) k a h') [
            | inl g ↦
                rw t.0 (omega (arith, old_answer site panel before k a g l, length-append (answers site panel before) (asked site panel before)))
            | inr g ↦ absurd (omega (arith, l, asked_now site panel before g.place a g.is))
          ])
      | inr t ↦ (let h' = rw t.0 at h in rw t.0 (old_answer site panel before k a h' l))
    ]
old_answer site panel (Turned other task ∷ before) k a h l = old_answer site panel before k a h l
old_answer site panel (Kept failed ∷ before) k a h l = old_answer site panel before k a h l

-- an answer from before the tick of Decide's latest turn, Decide has taken
pub decide_has : (site : Site) (panels panel : ℕ) (before : List Moment) (k : ℕ) (a : Answer) → IsPanel panels panel → IsRun panels before
    → slice_get (answers site panel before) k ≡ Some a → a.stamp.0 + 1 ≤ latest_turn panel Decide before → k < taken_by_decide site panel before
decide_has site panels panel [] k a p run h l = cc
decide_has site panels panel (Began ∷ before) k a p run h l = decide_has site panels panel before k a p run.0 h l
decide_has site panels panel (Happened event ∷ before) k a p run h l = decide_has site panels panel before k a p run.0 h l
decide_has site panels panel (Turned other Poll ∷ before) k a p run h l =
    elim (eqb_tells other panel) [
      | inl t ↦
          (let h' = rw t.0 at h in
          elim (get_either (answers site panel before) (asked site panel before) k a h') [
            | inl g ↦ decide_has site panels panel before k a p run.0 g l
            | inr g ↦ absurd (omega (arith, l, asked_now site panel before g.place a g.is, decided_by panels panel before p run.0))
          ])
      | inr t ↦ (let h' = rw t.0 at h in decide_has site panels panel before k a p run.0 h' l)
    ]
  where
    decided_by : (panels panel : ℕ) (before : List Moment) → IsPanel panels panel → IsRun panels before
        → latest_turn panel Decide before ≤ tick_of before
    decided_by panels panel before p run = omega (arith, turn_lag panels panel Decide before p tt run)
decide_has site panels panel (Turned other Decide ∷ before) k a p run h l =
    elim (eqb_tells other panel) [
      | inl t ↦
          (let l' : a.stamp.0 + 1 ≤ tick_of before = rw t.0 at l in
          let lie = answers_lie site panels panel before p run.0 in
          let lies = rw (of_panel other panel Decide before t.1 run.1) at lie.lies in
          let old = old_answer site panel before k a h (omega (arith, l')) in
          rw t.0 (omega (arith, lies, old)))
      | inr t ↦ (let l' = rw t.0 at l in rw t.0 (decide_has site panels panel before k a p run.0 h l'))
    ]
decide_has site panels panel (Turned other task ∷ before) k a p run h l = decide_has site panels panel before k a p run.0 h l
decide_has site panels panel (Kept failed ∷ before) k a p run h l = decide_has site panels panel before k a p run.0 h l

-- an answer of two ticks ago was found before this tick
pub old_finding : (site : Site) (panels panel : ℕ) (before : List Moment) (k : ℕ) (a : Answer) → IsPanel panels panel → IsRun panels before
    → slice_get (answers site panel before) k ≡ Some a → a.stamp.0 + 2 ≤ tick_of before
    → k + put_by_decide site panel before < taken_by_decide site panel before
old_finding site panels panel [] k a p run h l = cc
old_finding site panels panel (Began ∷ before) k a p run h l =
    let lag = rw (run.1.each panel Decide p tt) at (turn_lag panels panel Decide before p tt run.0) in
    omega (arith, decide_has site panels panel before k a p run.0 h (omega (arith, lag, l)))
old_finding site panels panel (Happened event ∷ before) k a p run h l = old_finding site panels panel before k a p run.0 h l
old_finding site panels panel (Turned other Poll ∷ before) k a p run h l =
    elim (eqb_tells other panel) [
      | inl t ↦
          (let h' = rw t.0 at h in
          elim (get_either (answers site panel before) (asked site panel before) k a h') [
            | inl g ↦ old_finding site panels panel before k a p run.0 g l
            | inr g ↦ absurd (omega (arith, l, asked_now site panel before g.place a g.is))
          ])
      | inr t ↦ (let h' = rw t.0 at h in old_finding site panels panel before k a p run.0 h' l)
    ]
old_finding site panels panel (Turned other Decide ∷ before) k a p run h l =
    let ih = old_finding site panels panel before k a p run.0 h l in
    elim (eqb_tells other panel) [
      | inl t ↦ rw t.0 (omega (arith, ih, decide_behind site panel before))
      | inr t ↦ rw t.0 ih
    ]
old_finding site panels panel (Turned other task ∷ before) k a p run h l = old_finding site panels panel before k a p run.0 h l
old_finding site panels panel (Kept failed ∷ before) k a p run h l = old_finding site panels panel before k a p run.0 h l

-- an answer of two ticks before Hold's latest turn, Hold has taken
pub hold_has : (site : Site) (panels panel : ℕ) (before : List Moment) (k : ℕ) (a : Answer) → IsPanel panels panel → IsRun panels before
    → slice_get (answers site panel before) k ≡ Some a → a.stamp.0 + 2 ≤ latest_turn panel Hold before → k < taken_by_hold site panel before
hold_has site panels panel [] k a p run h l = cc
hold_has site panels panel (Began ∷ before) k a p run h l = hold_has site panels panel before k a p run.0 h l
hold_has site panels panel (Happened event ∷ before) k a p run h l = hold_has site panels panel before k a p run.0 h l
hold_has site panels panel (Turned other Poll ∷ before) k a p run h l =
    elim (eqb_tells other panel) [
      | inl t ↦
          (let h' = rw t.0 at h in
          elim (get_either (answers site panel before) (asked site panel before) k a h') [
            | inl g ↦ hold_has site panels panel before k a p run.0 g l
            | inr g ↦ absurd (omega (arith, l, asked_now site panel before g.place a g.is, turn_lag panels panel Hold before p tt run.0))
          ])
      | inr t ↦ (let h' = rw t.0 at h in hold_has site panels panel before k a p run.0 h' l)
    ]
hold_has site panels panel (Turned other Hold ∷ before) k a p run h l =
    elim (eqb_tells other panel) [
      | inl t ↦
          (let l' : a.stamp.0 + 2 ≤ tick_of before = rw t.0 at l in
          let lie = findings_lie site panels panel before p run.0 in
          let lies = rw (of_panel other panel Hold before t.1 run.1) at lie.lies in
          let old = old_finding site panels panel before k a p run.0 h l' in
          rw t.0 (omega (arith, lies, old)))
      | inr t ↦ (let l' = rw t.0 at l in rw t.0 (hold_has site panels panel before k a p run.0 h l'))
    ]
hold_has site panels panel (Turned other task ∷ before) k a p run h l = hold_has site panels panel before k a p run.0 h l
hold_has site panels panel (Kept failed ∷ before) k a p run h l = hold_has site panels panel before k a p run.0 h l

-- what Hold has taken was asked by the tick of its latest turn
pub held_past : (site : Site) (panel : ℕ) (before : List Moment) (k : ℕ) (a : Answer) → slice_get (answers site panel before) k ≡ Some a
    → k < taken_by_hold site panel before → a.stamp.0 ≤ latest_turn panel Hold before
held_past site panel [] k a h l = cc
held_past site panel (Began ∷ before) k a h l = held_past site panel before k a h l
held_past site panel (Happened event ∷ before) k a h l = held_past site panel before k a h l
held_past site panel (Turned other Poll ∷ before) k a h l =
    elim (eqb_tells other panel) [
      | inl t ↦
          (let h' = rw t.0 at h in
          elim (get_either (answers site panel before) (asked site panel before) k a h') [
            | inl g ↦ held_past site panel before k a g l
            | inr g ↦ absurd (omega (arith, l, g.far, hold_behind site panel before, decide_behind site panel before))
          ])
      | inr t ↦ (let h' = rw t.0 at h in held_past site panel before k a h' l)
    ]
held_past site panel (Turned other Hold ∷ before) k a h l =
    elim (eqb_tells other panel) [
      | inl t ↦ rw t.0 (stamped_by site panel before k a h)
      | inr t ↦ (let l' = rw t.0 at l in rw t.0 (held_past site panel before k a h l'))
    ]
held_past site panel (Turned other task ∷ before) k a h l = held_past site panel before k a h l
held_past site panel (Kept failed ∷ before) k a h l = held_past site panel before k a h l
