-- The answers of a panel that count are those of points that are asked while they signal.
use Rattle.std.proofs.Common.{◌≡◌, ℕ, ◌+◌, ◌≤◌, List, [], ◌∷◌, Some, slice_get, inl, inr, Bool, true, false, not, if◌then◌else◌, refl, sym, ◌∙◌, ap, subst, arith}
use Rattle.std.proofs.lemmas.Bool.Decides.{eqb_tells}
use Rattle.tick_units.specs.declared.task.Task.{Task}
use Rattle.tick_units.specs.declared.task.Task.TheVariants.{Poll}
use Rattle.site_types.specs.declared.answer.Answer.{Answer}
use Rattle.site_types.specs.declared.point.Point.{Point}
use Rattle.site_types.specs.declared.point_state.PointState.{PointState}
use Rattle.site_types.specs.declared.point_state.PointState.TheVariants.{Quiet, Alarm, Gone}
use Rattle.site_types.specs.declared.retained.Retained.{Retained}
use Rattle.site_types.specs.declared.site.Site.{Site}
use Rattle.site_types.specs.Done.{Done, is_blocked}
use Rattle.site_types.specs.Valid.{IsValid}
use Rattle.loop_poller.specs.Asked.{heard_of}
use Rattle.coincidence_rules.specs.Counted.{is_alarm, is_counted}
use Rattle.panel_rules.specs.Answers.{answers, asked}
use Rattle.panel_rules.specs.Due.{SignalsAt, reached_at}
use Rattle.panel_rules.specs.Moments.{Moment, Began, Happened, Turned, Kept, tick_of, has_turned, is_turn, IsPanel, IsRun, HaveAllTurned, present, up_to}
use Rattle.panel_rules.specs.States.{state_of}
use Rattle.panel_rules.proofs.AnswersTell.{IsAnswered, polled, told_by, turn_in}
use Rattle.panel_rules.proofs.Asked.{asked_now}
use Rattle.panel_rules.proofs.Bools.{not_false, parts}
use Rattle.panel_rules.proofs.Held.{signal_counts}
use Rattle.panel_rules.proofs.Lags.{stamped_by}
use Rattle.panel_rules.proofs.Places.{get_either}
use Rattle.panel_rules.proofs.Turns.{owed_turn}
use Rattle.panel_rules.proofs.ValidLayout.{laid_out}
use Rattle.caused_zones.specs.Counting.{CountsAt, IsAskedAt}

-- a turn that is owed is owed in some tick
owed_tick : (panel : ℕ) (task : Task) (moments : List Moment) → has_turned panel task moments ≡ false → 1 ≤ tick_of moments
owed_tick panel task [] h = absurd cc
owed_tick panel task (Began ∷ before) h = omega arith
owed_tick panel task (Happened event ∷ before) h = owed_tick panel task before h
owed_tick panel task (Turned other_panel other ∷ before) h = go (is_turn panel task other_panel other) h (owed_tick panel task before)
  where
    go : (b : Bool) → (if b then true else has_turned panel task before) ≡ false → (has_turned panel task before ≡ false → 1 ≤ tick_of before)
        → 1 ≤ tick_of before
    go true e ih = absurd cc
    go false e ih = ih e
owed_tick panel task (Kept failed ∷ before) h = owed_tick panel task before h

-- no answer is stamped with tick 0
pub stamped_from_one : (site : Site) (panels panel : ℕ) (moments : List Moment) (k : ℕ) (a : Answer) → IsRun panels moments
    → slice_get (answers site panel moments) k ≡ Some a → 1 ≤ a.stamp.0
stamped_from_one site panels panel [] k a run h = absurd cc
stamped_from_one site panels panel (Began ∷ before) k a run h = stamped_from_one site panels panel before k a run.0 h
stamped_from_one site panels panel (Happened event ∷ before) k a run h = stamped_from_one site panels panel before k a run.0 h
stamped_from_one site panels panel (Turned other Poll ∷ before) k a run h =
    elim (eqb_tells other panel) [
      | inl t ↦
          (let h' = rw t.0 at h in
          elim (get_either (answers site panel before) (asked site panel before) k a h') [
            | inl g ↦ stamped_from_one site panels panel before k a run.0 g
            | inr g ↦ (let now = asked_now site panel before g.place a g.is in let some = owed_tick other Poll before run.1 in omega (arith, now, some))
          ])
      | inr t ↦ (let h' = rw t.0 at h in stamped_from_one site panels panel before k a run.0 h')
    ]
stamped_from_one site panels panel (Turned other task ∷ before) k a run h = stamped_from_one site panels panel before k a run.0 h
stamped_from_one site panels panel (Kept failed ∷ before) k a run h = stamped_from_one site panels panel before k a run.0 h

-- only an alarm that is reached is heard as one
heard_alarm : (state : PointState) (reached : Bool) → is_alarm (heard_of state reached) ≡ true → (state ≡ Alarm) × (reached ≡ true)
heard_alarm Alarm true h = (refl, refl)
heard_alarm Alarm false h = absurd cc
heard_alarm Quiet true h = absurd cc
heard_alarm Quiet false h = absurd cc
heard_alarm Gone true h = absurd cc
heard_alarm Gone false h = absurd cc

-- an answer that counts, of a point in a tick
pub record IsCountedIn (site : Site) (kept : Retained) (done : List Done) (xs : List Answer) (point tick : ℕ) : Type 0 where
  pub place : ℕ
  pub answer : Answer
  pub is : slice_get xs place ≡ Some answer
  pub point_is : answer.point ≡ point
  pub stamp_is : answer.stamp.0 ≡ tick
  pub counts : is_counted site kept done answer ≡ true

module _ (site : Site) (kept : Retained) (done : List Done) (moments : List Moment) (valid : IsValid site) (run : IsRun site.panels moments) (ended :
    HaveAllTurned site.panels moments) where
  pub asked_is : (panel k : ℕ) (a : Answer) → slice_get (answers site panel moments) k ≡ Some a → IsAskedAt site a.point a.stamp.0
  asked_is panel k a h =
      let tells = told_by site site.panels panel moments moments k a run present h in record { plan = tells.plan; is = tells.is; asked = tells.asked }

  pub counted_is : (panel k : ℕ) (a : Answer) → slice_get (answers site panel moments) k ≡ Some a → is_counted site kept done a ≡ true
      → CountsAt site kept done moments a.point a.stamp.0
  counted_is panel k a h c =
      let tells = told_by site site.panels panel moments moments k a run present h in
      let both = parts (is_alarm a.heard) (not (is_blocked site kept done a.point a.stamp.0)) c in
      let alarm = heard_alarm (state_of a.point (up_to a.stamp.0 moments)) (reached_at site a.point (up_to a.stamp.0 moments))
      (ap is_alarm (sym tells.heard) ∙ both.0) in
      record {
        begins = stamped_from_one site site.panels panel moments k a run h;
        past = stamped_by site panel moments k a h;
        asked = asked_is panel k a h;
        signals = record { alarm = alarm.0; reached = alarm.1; free = not_false _ both.1 };
      }

  pub answered : (panel point tick : ℕ) (plan : Point) → slice_get site.points point ≡ Some plan → plan.panel ≡ panel → 1 ≤ tick
      → tick ≤ tick_of moments → IsAskedAt site point tick → IsAnswered (answers site panel moments) point tick
  answered panel point tick plan is of_panel one past asks =
      let lies = (laid_out site valid).points point asks.plan asks.is in
      let same : asks.plan ≡ plan = same_plan asks.plan plan (sym asks.is ∙ is) in
      let at : asks.plan.panel ≡ panel = ap (λ (p : Point). p.panel) same ∙ of_panel in
      let in_site : IsPanel site.panels panel = subst (IsPanel site.panels) at lies.panel in
      let turned = ended.each panel Poll in_site tt in
      polled site site.panels panel moments point asks.plan tick lies at
      (turn_in site.panels panel Poll moments tick in_site tt run one (owed_none (has_turned panel Poll moments) turned)) asks.asked
    where
      same_plan : (a b : Point) → Some a ≡ Some b → a ≡ b
      same_plan a b e = cc

      owed_none : (b : Bool) → b ≡ true → tick + owed_turn b ≤ tick_of moments
      owed_none true e = omega (arith, past)
      owed_none false e = absurd cc

  pub counted_in : (panel point tick : ℕ) (plan : Point) → slice_get site.points point ≡ Some plan → plan.panel ≡ panel
      → CountsAt site kept done moments point tick → IsCountedIn site kept done (answers site panel moments) point tick
  counted_in panel point tick plan is of_panel c =
      let found = answered panel point tick plan is of_panel c.begins c.past c.asked in
      let tells = told_by site site.panels panel moments moments found.place found.answer run present found.is in
      let same : SignalsAt site kept done moments found.answer.point found.answer.stamp.0 =
      subst (λ q. SignalsAt site kept done moments q found.answer.stamp.0) (sym found.point_is)
      (subst (λ t. SignalsAt site kept done moments point t) (sym found.stamp_is) c.signals) in
      record {
        place = found.place;
        answer = found.answer;
        is = found.is;
        point_is = found.point_is;
        stamp_is = found.stamp_is;
        counts = signal_counts site kept done panel moments found.answer tells same;
      }

  -- an answer of a point that signals counts
  pub counted_by : (panel k : ℕ) (a : Answer) → slice_get (answers site panel moments) k ≡ Some a
      → SignalsAt site kept done moments a.point a.stamp.0 → is_counted site kept done a ≡ true
  counted_by panel k a h s = signal_counts site kept done panel moments a (told_by site site.panels panel moments moments k a run present h) s
