-- How many answers and findings lie between the tasks of a panel.
use Rattle.std.proofs.Common.{◌≡◌, ℕ, ◌+◌, ◌*◌, ◌≤◌, List, [], ◌∷◌, inl, inr, Bool, true, false, if◌then◌else◌, subst, arith, length-append}
use Rattle.std.proofs.lemmas.Bool.Decides.{eqb_tells}
use Rattle.tick_units.specs.declared.task.Task.{Task}
use Rattle.tick_units.specs.declared.task.Task.TheVariants.{Poll, Decide, Hold}
use Rattle.site_types.specs.declared.site.Site.{Site}
use Rattle.panel_rules.specs.Moments.{Moment, Began, Happened, Turned, Kept, IsRun, IsPanel, has_turned, tick_of}
use Rattle.panel_rules.specs.Answers.{answers, asked}
use Rattle.panel_rules.specs.Counts.{answer_count, taken_by_decide, taken_by_hold}
use Rattle.panel_rules.specs.Lanes.{put_by_poll, put_by_decide}
use Rattle.panel_rules.proofs.Asked.{asked_at_most}

pub decide_behind : (site : Site) (panel : ℕ) (before : List Moment) → taken_by_decide site panel before ≤ answer_count site panel before
decide_behind site panel [] = omega arith
decide_behind site panel (Began ∷ before) = decide_behind site panel before
decide_behind site panel (Happened event ∷ before) = decide_behind site panel before
decide_behind site panel (Turned other Poll ∷ before) =
    elim (eqb_tells other panel) [
      | inl h ↦ rw h.0 (omega (arith, decide_behind site panel before, length-append (answers site panel before) (asked site panel before)))
      | inr h ↦ rw h.0 (decide_behind site panel before)
    ]
decide_behind site panel (Turned other Decide ∷ before) =
    elim (eqb_tells other panel) [
      | inl h ↦ rw h.0 (omega arith)
      | inr h ↦ rw h.0 (decide_behind site panel before)
    ]
decide_behind site panel (Turned other task ∷ before) = decide_behind site panel before
decide_behind site panel (Kept failed ∷ before) = decide_behind site panel before

pub hold_behind : (site : Site) (panel : ℕ) (before : List Moment) → taken_by_hold site panel before ≤ taken_by_decide site panel before
hold_behind site panel [] = omega arith
hold_behind site panel (Began ∷ before) = hold_behind site panel before
hold_behind site panel (Happened event ∷ before) = hold_behind site panel before
hold_behind site panel (Turned other Decide ∷ before) =
    elim (eqb_tells other panel) [
      | inl h ↦ rw h.0 (omega (arith, hold_behind site panel before, decide_behind site panel before))
      | inr h ↦ rw h.0 (hold_behind site panel before)
    ]
hold_behind site panel (Turned other Hold ∷ before) =
    elim (eqb_tells other panel) [
      | inl h ↦ rw h.0 (omega arith)
      | inr h ↦ rw h.0 (hold_behind site panel before)
    ]
hold_behind site panel (Turned other task ∷ before) = hold_behind site panel before
hold_behind site panel (Kept failed ∷ before) = hold_behind site panel before

-- what a task may yet take in the tick that began last
abbrev pub owed : Bool → ℕ
owed turned = if turned then 0 else 32

-- What lies in a lane was put in this tick, or may yet be taken in it.
pub record Lies (put taken now : ℕ) (giver taker : Bool) : Type 0 where
  pub lies : put ≤ taken + owed taker + now
  pub few : now + owed giver ≤ 32

-- the turn of a panel that has another name
pub of_panel : (other panel : ℕ) (task : Task) (before : List Moment) → other ≡ panel → has_turned other task before ≡ false
    → has_turned panel task before ≡ false
of_panel other panel task before e h = subst (λ p. has_turned p task before ≡ false) e h

pub answers_lie : (site : Site) (panels panel : ℕ) (before : List Moment) → IsPanel panels panel → IsRun panels before
    → Lies (answer_count site panel before) (taken_by_decide site panel before) (put_by_poll site panel before) (has_turned panel Poll before)
    (has_turned panel Decide before)
answers_lie site panels panel [] p run = record { lies = omega arith; few = omega arith }
answers_lie site panels panel (Began ∷ before) p run =
    let ih = answers_lie site panels panel before p run.0 in
    let l = rw (run.1.each panel Decide p tt) at ih.lies in
    let f = rw (run.1.each panel Poll p tt) at ih.few in
    record { lies = omega (arith, l, f); few = omega arith }
answers_lie site panels panel (Happened event ∷ before) p run = answers_lie site panels panel before p run.0
answers_lie site panels panel (Turned other Poll ∷ before) p run =
    let ih = answers_lie site panels panel before p run.0 in
    let l = ih.lies in
    elim (eqb_tells other panel) [
      | inl h ↦
          (let f = rw (of_panel other panel Poll before h.1 run.1) at ih.few in
          let n = asked_at_most site panel before in
          rw h.0 (record { lies = omega (arith, l, length-append (answers site panel before) (asked site panel before)); few = omega (arith, f, n) }))
      | inr h ↦ rw h.0 ih
    ]
answers_lie site panels panel (Turned other Decide ∷ before) p run =
    let ih = answers_lie site panels panel before p run.0 in
    elim (eqb_tells other panel) [
      | inl h ↦
          (let l = rw (of_panel other panel Decide before h.1 run.1) at ih.lies in
          rw h.0 (record { lies = omega (arith, l); few = ih.few }))
      | inr h ↦ rw h.0 ih
    ]
answers_lie site panels panel (Turned other task ∷ before) p run = answers_lie site panels panel before p run.0
answers_lie site panels panel (Kept failed ∷ before) p run = answers_lie site panels panel before p run.0

pub findings_lie : (site : Site) (panels panel : ℕ) (before : List Moment) → IsPanel panels panel → IsRun panels before
    → Lies (taken_by_decide site panel before) (taken_by_hold site panel before) (put_by_decide site panel before) (has_turned panel Decide before)
    (has_turned panel Hold before)
findings_lie site panels panel [] p run = record { lies = omega arith; few = omega arith }
findings_lie site panels panel (Began ∷ before) p run =
    let ih = findings_lie site panels panel before p run.0 in
    let l = rw (run.1.each panel Hold p tt) at ih.lies in
    let f = rw (run.1.each panel Decide p tt) at ih.few in
    record { lies = omega (arith, l, f); few = omega arith }
findings_lie site panels panel (Happened event ∷ before) p run = findings_lie site panels panel before p run.0
findings_lie site panels panel (Turned other Decide ∷ before) p run =
    let ih = findings_lie site panels panel before p run.0 in
    let l = ih.lies in
    let behind = decide_behind site panel before in
    elim (eqb_tells other panel) [
      | inl h ↦
          (let f = rw (of_panel other panel Decide before h.1 run.1) at ih.few in
          rw h.0 (record { lies = omega (arith, l, behind); few = omega (arith, f) }))
      | inr h ↦ rw h.0 ih
    ]
findings_lie site panels panel (Turned other Hold ∷ before) p run =
    let ih = findings_lie site panels panel before p run.0 in
    elim (eqb_tells other panel) [
      | inl h ↦
          (let l = rw (of_panel other panel Hold before h.1 run.1) at ih.lies in
          rw h.0 (record { lies = omega (arith, l); few = ih.few }))
      | inr h ↦ rw h.0 ih
    ]
findings_lie site panels panel (Turned other task ∷ before) p run = findings_lie site panels panel before p run.0
findings_lie site panels panel (Kept failed ∷ before) p run = findings_lie site panels panel before p run.0

-- at most 32 answers a tick
pub answers_few : (site : Site) (panels panel : ℕ) (before : List Moment) → IsPanel panels panel → IsRun panels before
    → answer_count site panel before + owed (has_turned panel Poll before) ≤ 32 * tick_of before
answers_few site panels panel [] p run = omega arith
answers_few site panels panel (Began ∷ before) p run = let ih = rw (run.1.each panel Poll p tt) at (answers_few site panels panel before p run.0) in
    omega (arith, ih)
answers_few site panels panel (Happened event ∷ before) p run = answers_few site panels panel before p run.0
answers_few site panels panel (Turned other Poll ∷ before) p run =
    elim (eqb_tells other panel) [
      | inl h ↦
          (let ih = rw (of_panel other panel Poll before h.1 run.1) at (answers_few site panels panel before p run.0) in
          rw h.0 (omega (arith, ih, length-append (answers site panel before) (asked site panel before), asked_at_most site panel before)))
      | inr h ↦ rw h.0 (answers_few site panels panel before p run.0)
    ]
answers_few site panels panel (Turned other task ∷ before) p run = answers_few site panels panel before p run.0
answers_few site panels panel (Kept failed ∷ before) p run = answers_few site panels panel before p run.0

-- a lane holds at most what one tick puts and another may put
pub lies_few : (put taken now : ℕ) (giver taker : Bool) → Lies put taken now giver taker → put ≤ taken + 64
lies_few put taken now giver true h = let l = h.lies in let f = h.few in omega (arith, l, f)
lies_few put taken now giver false h = let l = h.lies in let f = h.few in omega (arith, l, f)
