-- What a panel holds of its zones is caused.
use Rattle.std.proofs.Common.{◌≡◌, ℕ, ◌≤◌, ◌<◌, ◌&&◌, List, [], ◌∷◌, ◌++◌, take, Some, slice_get, inl, inr, Bool, true, false, not, if◌then◌else◌, max, refl, sym, ◌∙◌, ap, arith}
use Rattle.std.specs.Prelude.{nat_le, nat_lt}
use Rattle.std.proofs.lemmas.Bool.Decides.{eqb_tells}
use Rattle.std.proofs.lemmas.List.{take-append-le}
use Rattle.tick_units.specs.declared.task.Task.TheVariants.{Poll, Hold}
use Rattle.site_types.specs.declared.site.Site.{Site}
use Rattle.site_types.specs.declared.answer.Answer.{Answer}
use Rattle.site_types.specs.declared.retained.Retained.{Retained}
use Rattle.site_types.specs.Done.{Done, latest_before, moves_floor}
use Rattle.coincidence_rules.specs.Confirmed.{confirms}
use Rattle.coincidence_rules.specs.Alarm.{since_floor, calls, releases}
use Rattle.panel_rules.specs.Moments.{Moment, Began, Happened, Turned, Kept, IsPanel, IsRun, IsPast, present, later, latest_turn}
use Rattle.panel_rules.specs.Answers.{answers, asked}
use Rattle.panel_rules.specs.Counts.{answer_count, taken_by_hold}
use Rattle.panel_rules.specs.Zones.{held_answers, panel_of_zone, holds_alarm, holds_by_hand, holds_released}
use Rattle.panel_rules.specs.Due.{none_in}
use Rattle.panel_rules.specs.Caused.{IsCausedBy, IsCausedAt, IsCausedByHand, IsCausedOut}
use Rattle.panel_rules.proofs.Bools.{both, parts, any_at, at_any}
use Rattle.panel_rules.proofs.Places.{take_get}
use Rattle.panel_rules.proofs.Floors.{lt_from, le_from}
use Rattle.panel_rules.proofs.Counts.{decide_behind, hold_behind}
use Rattle.panel_rules.proofs.Lags.{held_past}
use Rattle.panel_rules.proofs.AnswersTell.{eq_true}
use Rattle.panel_rules.proofs.Order.{answers_in_order}
use Rattle.panel_rules.proofs.ConfirmedByFronts.{confirms_grows, releases_grows}

-- one that was done in a span is not missed
inside : (test : Done → Bool) (first last : ℕ) (d : Done) (ds : List Done) → latest_before test last (d ∷ ds) < first
    → (test d && (nat_le first d.tick && nat_lt d.tick last)) ≡ true → ⊥
inside test first last d ds l h =
    let p = parts (test d) (nat_le first d.tick && nat_lt d.tick last) h in
    let q = parts (nat_le first d.tick) (nat_lt d.tick last) p.1 in
    go (test d && nat_lt d.tick last) (both (test d) (nat_lt d.tick last) p.0 q.1) (le_from first d.tick q.0) l
  where
    go : (b : Bool) → b ≡ true → first ≤ d.tick → (if b then max d.tick (latest_before test last ds) else latest_before test last ds) < first → ⊥
    go true e f l' = omega (arith, f, l')
    go false e f l' = cc

rest_before : (test : Done → Bool) (last : ℕ) (d : Done) (ds : List Done) (first : ℕ) → latest_before test last (d ∷ ds) < first
    → latest_before test last ds < first
rest_before test last d ds first l = go (test d && nat_lt d.tick last) l
  where
    go : (b : Bool) → (if b then max d.tick (latest_before test last ds) else latest_before test last ds) < first → latest_before test last ds < first
    go true l' = omega (arith, l')
    go false l' = l'

-- where the last one lies before a span, none was done in it
pub none_from : (test : Done → Bool) (first last : ℕ) (done : List Done) → latest_before test last done < first → none_in test first last done ≡ true
none_from test first last [] l = refl
none_from test first last (d ∷ ds) l =
    both _ _ (go (test d && (nat_le first d.tick && nat_lt d.tick last)) refl) (none_from test first last ds (rest_before test last d ds first l))
  where
    go : (b : Bool) → (test d && (nat_le first d.tick && nat_lt d.tick last)) ≡ b → not b ≡ true
    go true e = absurd (inside test first last d ds l e)
    go false e = refl

-- answers are only added
pub record Grows (front whole : List Answer) : Type 0 where
  pub more : List Answer
  pub is : whole ≡ front ++ more

append_none : (xs : List Answer) → xs ≡ xs ++ []
append_none [] = refl
append_none (x ∷ xs) = ap (λ ys. x ∷ ys) (append_none xs)

append_on : (xs ys zs : List Answer) → (xs ++ ys) ++ zs ≡ xs ++ (ys ++ zs)
append_on [] ys zs = refl
append_on (x ∷ xs) ys zs = ap (λ ws. x ∷ ws) (append_on xs ys zs)

grows_next : (site : Site) (panel : ℕ) (moment : Moment) (before : List Moment) (front : List Answer) → Grows front (answers site panel before)
    → Grows front (answers site panel (moment ∷ before))
grows_next site panel Began before front h = h
grows_next site panel (Happened event) before front h = h
grows_next site panel (Turned other Poll) before front h =
    elim (eqb_tells other panel) [
      | inl t ↦
          rw t.0 (record {
            more = h.more ++ asked site panel before;
            is =
                ap (λ xs. xs ++ asked site panel before) h.is ∙ append_on front h.more (asked site panel before);
          })
      | inr t ↦ rw t.0 h
    ]
grows_next site panel (Turned other task) before front h = h
grows_next site panel (Kept failed) before front h = h

pub answers_grow : (site : Site) (panel : ℕ) (past moments : List Moment) → IsPast past moments
    → Grows (answers site panel past) (answers site panel moments)
answers_grow site panel past moments present = record { more = []; is = append_none (answers site panel past) }
answers_grow site panel past moments (later moment before h) =
    grows_next site panel moment before (answers site panel past) (answers_grow site panel past before h)

-- what Hold had taken is a front of all answers
pub held_front : (site : Site) (panel : ℕ) (past moments : List Moment) → IsPast past moments
    → held_answers site panel past ≡ take (taken_by_hold site panel past) (answers site panel moments)
held_front site panel past moments h =
    let g = answers_grow site panel past moments h in
    let few : taken_by_hold site panel past ≤ answer_count site panel past =
    omega (arith, decide_behind site panel past, hold_behind site panel past) in
    sym (ap (take (taken_by_hold site panel past)) g.is ∙ take-append-le (taken_by_hold site panel past) (answers site panel past) g.more few)

module _ (site : Site) (kept : Retained) (done : List Done) (moments past : List Moment) (zone : ℕ) (run : IsRun site.panels moments) (before :
    IsPast past moments) (p : IsPanel site.panels (panel_of_zone site zone)) where
  -- an answer of those that Hold had taken, after the floor, is a cause
  caused_by : (test whole : Answer → Bool) → ((k : ℕ) (a : Answer) → slice_get (held_answers site (panel_of_zone site zone) past) k ≡ Some a
      → test a ≡ true → whole a ≡ true)
      → since_floor site done (held_answers site (panel_of_zone site zone) past) zone (latest_turn (panel_of_zone site zone) Hold past) test ≡ true
      → IsCausedBy site done moments zone (latest_turn (panel_of_zone site zone) Hold past) whole
  caused_by test whole grows h =
      let panel = panel_of_zone site zone in
      let late = latest_turn panel Hold past in
      let g = at_any _ (held_answers site panel past) h in
      let q = parts _ _ g.passes in
      let here = take_get (taken_by_hold site panel past) (answers site panel past) g.place g.item g.is in
      let whole_is =
      take_get (taken_by_hold site panel past) (answers site panel moments) g.place g.item
      (sym (ap (λ xs. slice_get xs g.place) (held_front site panel past moments before)) ∙ g.is) in
      record {
        stamp = g.item.stamp.0;
        past = held_past site panel past g.place g.item here.1 here.0;
        given =
            any_at _ (answers site panel moments) g.place g.item whole_is.1
            (both _ _ (eq_true g.item.stamp.0 g.item.stamp.0 refl) (grows g.place g.item g.is q.1));
        floor = none_from (moves_floor site zone) g.item.stamp.0 late done (lt_from _ _ q.0);
      }

  front_is : (k : ℕ) (a : Answer) → slice_get (held_answers site (panel_of_zone site zone) past) k ≡ Some a
      → slice_get (take (taken_by_hold site (panel_of_zone site zone) past) (answers site (panel_of_zone site zone) moments)) k ≡ Some a
  front_is k a h = sym (ap (λ xs. slice_get xs k) (held_front site (panel_of_zone site zone) past moments before)) ∙ h

  pub alarm_caused : holds_alarm site kept done (panel_of_zone site zone) past zone ≡ true
      → IsCausedAt site kept done moments zone (latest_turn (panel_of_zone site zone) Hold past)
  alarm_caused h =
      let panel = panel_of_zone site zone in
      caused_by (confirms site kept done (held_answers site panel past) zone) (confirms site kept done (answers site panel moments) zone)
      (λ k a is t. confirms_grows site kept done (answers site panel moments) (answers_in_order site site.panels panel moments p run)
      (taken_by_hold site panel past) k a (front_is k a is) zone
      (sym (ap (λ xs. confirms site kept done xs zone a) (held_front site panel past moments before)) ∙ t))
      h

  pub hand_caused : holds_by_hand site kept done (panel_of_zone site zone) past zone ≡ true
      → IsCausedByHand site kept done moments zone (latest_turn (panel_of_zone site zone) Hold past)
  hand_caused h = caused_by (calls site kept done zone) (calls site kept done zone) (λ k a is t. t) h

  pub released_caused : holds_released site kept done (panel_of_zone site zone) past zone ≡ true
      → IsCausedOut site kept done moments zone (latest_turn (panel_of_zone site zone) Hold past)
  released_caused h =
      let panel = panel_of_zone site zone in
      caused_by (releases site kept done (held_answers site panel past) zone) (releases site kept done (answers site panel moments) zone)
      (λ k a is t. releases_grows site kept done (answers site panel moments) (answers_in_order site site.panels panel moments p run)
      (taken_by_hold site panel past) k a (front_is k a is) zone
      (sym (ap (λ xs. releases site kept done xs zone a) (held_front site panel past moments before)) ∙ t))
      h
