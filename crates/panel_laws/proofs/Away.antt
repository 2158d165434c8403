-- A point that was away for long enough is shown as missing.
use Rattle.std.proofs.Common.{◌≡◌, ℕ, zero, suc, ◌+◌, ◌-◌, ◌/◌, ◌%◌, ◌≤◌, ◌<◌, ◌==◌, ◌&&◌, not, List, [], ◌∷◌, Some, slice_get, ◌⊎◌, inl, inr, Bool, true, false, refl, sym, ◌∙◌, ap, subst, arith}
use Rattle.std.specs.Prelude.{nat_le, slice_index, slice_index_or}
use Rattle.std.proofs.lemmas.Bool.Decides.{leb_tells}
use Rattle.tick_units.specs.declared.task.Task.TheVariants.{Poll, Hold}
use Rattle.site_types.specs.declared.answer.Answer.{Answer}
use Rattle.site_types.specs.declared.point.Point.{Point}
use Rattle.site_types.specs.declared.point_state.PointState.{PointState}
use Rattle.site_types.specs.declared.point_state.PointState.TheVariants.{Quiet, Alarm, Gone}
use Rattle.site_types.specs.declared.site.Site.{Site}
use Rattle.site_types.specs.Bits.{has_bit, has_point}
use Rattle.site_types.specs.Profile.{round_of}
use Rattle.site_types.specs.Valid.{IsValid}
use Rattle.site_types.proofs.Masks.{has_bit-mask}
use Rattle.site_types.proofs.ValidSites.{point_at, point_numbers}
use Rattle.coincidence_rules.specs.Counted.{is_silent}
use Rattle.coincidence_rules.specs.Missing.{is_missing}
use Rattle.loop_poller.specs.Asked.{heard_of}
use Rattle.panel_conditions.specs.Points.{is_addressed, addressed, on_point, addresses_where, points_where}
use Rattle.panel_conditions.specs.Missing.{is_off}
use Rattle.panel_rules.specs.Moments.{Moment, tick_of, has_turned, IsPanel, IsRun, up_to, latest_turn}
use Rattle.panel_rules.specs.States.{state_of}
use Rattle.panel_rules.specs.Answers.{answers}
use Rattle.panel_rules.specs.Counts.{taken_by_hold}
use Rattle.panel_rules.specs.Zones.{held_answers}
use Rattle.panel_rules.specs.Kept.{made_at}
use Rattle.panel_rules.specs.Due.{reached_at}
use Rattle.panel_rules.proofs.SiteLayout.{PointLies}
use Rattle.panel_laws.specs.FaceLaws.{HasEnded}
use Rattle.panel_laws.specs.OtherDeadlines.{IsAway, AwayIsMissing}
use Rattle.panel_rules.proofs.Bools.{both, parts, not_true}
use Rattle.panel_rules.proofs.Floors.{le_to}
use Rattle.panel_rules.proofs.Places.{get_take, take_get}
use Rattle.panel_rules.proofs.Turns.{run_tail, owed_turn}
use Rattle.panel_rules.proofs.AnswersTell.{eq_true, turn_in, polled, told_by}
use Rattle.panel_rules.proofs.Lags.{stamped_by, hold_has}
use Rattle.panel_rules.proofs.Rounds.{asking}
use Rattle.panel_rules.proofs.Order.{answers_in_order}
use Rattle.panel_rules.proofs.KeptWords.{made_is}
use Rattle.panel_rules.proofs.ValidLayout.{laid_out, position_unique}
use Rattle.panel_rules.proofs.Joined.{was_made}
use Rattle.panel_laws.proofs.AnswerLaws.{eq_is}
use Rattle.panel_laws.proofs.OwnTick.{made_now}
use Rattle.panel_laws.proofs.LastAnswers.{three_places, missing_by}

silent_if : (s : PointState) (r : Bool) → (s ≡ Gone) ⊎ (r ≡ false) → is_silent (heard_of s r) ≡ true
silent_if Gone r h = refl
silent_if Quiet false h = refl
silent_if Quiet true (inl e) = absurd cc
silent_if Quiet true (inr e) = absurd cc
silent_if Alarm false h = refl
silent_if Alarm true (inl e) = absurd cc
silent_if Alarm true (inr e) = absurd cc

-- ---- the place of a point in a set

three : (a b c d e f : ℕ) → a ≡ d → b ≡ e → c ≡ f → ◌≡◌ {A = List ℕ} (a ∷ b ∷ c ∷ []) (d ∷ e ∷ f ∷ [])
three a b c d e f p q r = cc

module _ (site : Site) (valid : IsValid site) (point : ℕ) (plan : Point) (is : slice_get site.points point ≡ Some plan) (test : ℕ → Bool) where
  addressed_is : addressed site plan.panel plan.line plan.address ≡ Some point
  addressed_is =
      position_unique (is_addressed plan.panel plan.line plan.address) site.points point plan is
      (both _ _ (eq_true plan.panel plan.panel refl) (both _ _ (eq_true plan.line plan.line refl) (eq_true plan.address plan.address refl)))
      (λ j q at t. (let g = parts (q.panel == plan.panel) ((q.line == plan.line) && (q.address == plan.address)) t in
      let h = parts (q.line == plan.line) (q.address == plan.address) g.1 in
      valid.twins.points j point q plan at is (three q.panel q.line q.address plan.panel plan.line plan.address (eq_is q.panel plan.panel g.0)
      (eq_is q.line plan.line h.0) (eq_is q.address plan.address h.1))))

  in_half : (line past : ℕ) → plan.line ≡ line → past + (plan.address - 1) % 96 + 1 ≡ plan.address
      → has_bit (addresses_where site plan.panel test line past) ((plan.address - 1) % 96) ≡ test point
  unfolding addresses_where
  in_half line past l e =
      has_bit-mask 96 (λ k. on_point test (addressed site plan.panel line (past + k + 1))) ((plan.address - 1) % 96) (omega arith)
      ∙ ap (λ a. on_point test (addressed site plan.panel line a)) e
      ∙ ap (λ x. on_point test (addressed site plan.panel x plan.address)) (sym l)
      ∙ ap (on_point test) addressed_is

  on_line : (line : ℕ) → plan.line ≡ line → (half : ℕ) → (plan.address - 1) / 96 ≡ half → half < 2
      → has_bit (slice_index (addresses_where site plan.panel test line 0 ∷ addresses_where site plan.panel test line 96 ∷ []) half)
      ((plan.address - 1) % 96) ≡ test point
  on_line line l zero h few = let n = point_numbers site valid point plan is in in_half line 0 l (let a = n.2 in omega (arith, h, a.2))
  on_line line l (suc zero) h few = in_half line 96 l (omega (arith, h))
  on_line line l (suc (suc half)) h few = absurd (omega (arith, few))

  half_few : (plan.address - 1) / 96 < 2
  half_few = let n = point_numbers site valid point plan is in let a = n.2 in omega (arith, a.3)

  pub point_bit : has_point (points_where site plan.panel test) plan.line plan.address ≡ test point
  unfolding points_where
  point_bit = by (plan.line - 1) (let n = point_numbers site valid point plan is in let a = n.2 in omega (arith, a.0)) (let n =
      point_numbers site valid point plan is in let a = n.2 in omega (arith, a.0, a.1))
    where
      by : (place : ℕ) → plan.line ≡ place + 1 → place < 4
          → has_bit
          (slice_index
          (slice_index_or
          ((addresses_where site plan.panel test 1 0 ∷ addresses_where site plan.panel test 1 96 ∷ [])
          ∷ (addresses_where site plan.panel test 2 0 ∷ addresses_where site plan.panel test 2 96 ∷ [])
          ∷ (addresses_where site plan.panel test 3 0 ∷ addresses_where site plan.panel test 3 96 ∷ [])
          ∷ (addresses_where site plan.panel test 4 0 ∷ addresses_where site plan.panel test 4 96 ∷ [])
          ∷ []) place []) ((plan.address - 1) / 96)) ((plan.address - 1) % 96)
          ≡ test point
      by zero l few = on_line 1 l ((plan.address - 1) / 96) refl half_few
      by (suc zero) l few = on_line 2 l ((plan.address - 1) / 96) refl half_few
      by (suc (suc zero)) l few = on_line 3 l ((plan.address - 1) / 96) refl half_few
      by (suc (suc (suc zero))) l few = on_line 4 l ((plan.address - 1) / 96) refl half_few
      by (suc (suc (suc (suc place)))) l few = absurd (omega (arith, few))

-- ---- its answers

-- an answer of the point in what Hold had taken
record IsHeld (xs : List Answer) (point tick : ℕ) : Type 0 where
  place : ℕ
  answer : Answer
  is : slice_get xs place ≡ Some answer
  point_is : answer.point ≡ point
  stamp_is : answer.stamp.0 ≡ tick

module _ (site : Site) (m : List Moment) (point first : ℕ) (plan : Point) (after : HasEnded site m) (is : slice_get site.points point ≡ Some plan)
    (away : IsAway site m point first) where
  p_is : IsPanel site.panels plan.panel
  p_is = (point_at site after.valid point plan is).panel

  lies : PointLies site point plan
  lies = (laid_out site after.valid).points point plan is

  word_run : IsRun site.panels (made_at plan.panel m)
  word_run = run_tail site.panels (made_at plan.panel m) m (made_is plan.panel m).past after.run

  word_tick : tick_of (made_at plan.panel m) ≡ tick_of m
  word_tick = made_now site m after plan.panel p_is

  word_stamp : latest_turn plan.panel Hold (made_at plan.panel m) ≡ tick_of m
  word_stamp = was_made plan.panel (made_at plan.panel m) (made_is plan.panel m).made ∙ word_tick

  -- an asking that is old enough
  held : (tick : ℕ) → 1 ≤ tick → tick + 2 ≤ tick_of m → tick % round_of site.format ≡ (plan.address - 1) / 8
      → IsHeld (held_answers site plan.panel (made_at plan.panel m)) point tick
  held tick begins late asks =
      let t = word_tick in
      let s = word_stamp in
      let turn =
      turn_in site.panels plan.panel Poll (made_at plan.panel m) tick p_is tt word_run begins
      (owed (has_turned plan.panel Poll (made_at plan.panel m)) (omega (arith, t, late))) in
      let found =
      polled site site.panels plan.panel (made_at plan.panel m) point plan tick lies refl turn
      (eq_true (tick % round_of site.format) ((plan.address - 1) / 8) asks) in
      let at = found.stamp_is in
      let has =
      hold_has site site.panels plan.panel (made_at plan.panel m) found.place found.answer p_is word_run found.is (omega (arith, at, s, late)) in
      record {
        place = found.place;
        answer = found.answer;
        is = get_take (taken_by_hold site plan.panel (made_at plan.panel m)) (answers site plan.panel (made_at plan.panel m)) found.place found.answer
            has found.is;
        point_is = found.point_is;
        stamp_is = found.stamp_is;
      }
    where
      owed : (b : Bool) → tick + 2 ≤ tick_of (made_at plan.panel m) → tick + owed_turn b ≤ tick_of (made_at plan.panel m)
      owed true l = omega (arith, l)
      owed false l = omega (arith, l)

  order : (i j : ℕ) (a b : Answer) → i ≤ j → slice_get (held_answers site plan.panel (made_at plan.panel m)) i ≡ Some a
      → slice_get (held_answers site plan.panel (made_at plan.panel m)) j ≡ Some b → a.stamp.0 ≤ b.stamp.0
  order i j a b l e f =
      let g = take_get (taken_by_hold site plan.panel (made_at plan.panel m)) (answers site plan.panel (made_at plan.panel m)) i a e in
      let h = take_get (taken_by_hold site plan.panel (made_at plan.panel m)) (answers site plan.panel (made_at plan.panel m)) j b f in
      (answers_in_order site site.panels plan.panel (made_at plan.panel m) p_is word_run).rising i j a b l g.1 h.1

  silent : (k : ℕ) (a : Answer) → slice_get (held_answers site plan.panel (made_at plan.panel m)) k ≡ Some a → a.point ≡ point → first ≤ a.stamp.0
      → is_silent a.heard ≡ true
  silent k a e of from =
      let g = take_get (taken_by_hold site plan.panel (made_at plan.panel m)) (answers site plan.panel (made_at plan.panel m)) k a e in
      let tells = told_by site site.panels plan.panel m (made_at plan.panel m) k a after.run (made_is plan.panel m).past g.1 in
      let by = stamped_by site plan.panel (made_at plan.panel m) k a g.1 in
      let t = word_tick in
      let is_away = away.away a.stamp.0 from (omega (arith, by, t)) in
      ap is_silent tells.heard
      ∙ subst (λ q. is_silent (heard_of (state_of q (up_to a.stamp.0 m)) (reached_at site q (up_to a.stamp.0 m))) ≡ true) (sym of)
      (silent_if (state_of point (up_to a.stamp.0 m)) (reached_at site point (up_to a.stamp.0 m)) is_away)

  later : {s t : ℕ} (one : IsHeld (held_answers site plan.panel (made_at plan.panel m)) point s) (other :
      IsHeld (held_answers site plan.panel (made_at plan.panel m)) point t) → s < t → one.place < other.place
  later one other l =
      elim (leb_tells other.place one.place) [
        | inl h ↦ (let r = order other.place one.place other.answer one.answer h.1 other.is one.is in let a = one.stamp_is in let b =
            other.stamp_is in absurd (omega (arith, r, a, b, l)))
        | inr h ↦ h.1
      ]

  passes : {s : ℕ} (one : IsHeld (held_answers site plan.panel (made_at plan.panel m)) point s) → first ≤ s
      → ((one.answer.point == point) && nat_le first one.answer.stamp.0) ≡ true
  passes one l = let a = one.stamp_is in both _ _ (eq_true one.answer.point point one.point_is) (le_to first one.answer.stamp.0 (omega (arith, a, l)))

  pub is_missing_now : is_missing (held_answers site plan.panel (made_at plan.panel m)) point ≡ true
  is_missing_now =
      let format = (laid_out site after.valid).format in
      let small : (plan.address - 1) / 8 < round_of site.format = (let a = lies.address in omega (arith, a.0, a.1)) in
      let r = round_of site.format in
      let one = asking site.format ((plan.address - 1) / 8) first format small in
      let two = asking site.format ((plan.address - 1) / 8) (first + round_of site.format) format small in
      let third = asking site.format ((plan.address - 1) / 8) (first + round_of site.format + round_of site.format) format small in
      let begins = away.begins in
      let long = away.long in
      let f = format.0 in
      let a = held one.tick (let x = one.from in omega (arith, x, begins)) (let x = one.by in omega (arith, x, long, f)) one.asks in
      let b = held two.tick (let x = two.from in omega (arith, x, begins)) (let x = two.by in omega (arith, x, long, f)) two.asks in
      let c = held third.tick (let x = third.from in omega (arith, x, begins)) (let x = third.by in omega (arith, x, long, f)) third.asks in
      missing_by first point (held_answers site plan.panel (made_at plan.panel m)) order silent
      (three_places (λ (y : Answer). (y.point == point) && nat_le first y.stamp.0) (held_answers site plan.panel (made_at plan.panel m)) a.place
      b.place c.place a.answer b.answer c.answer
      (later a b (let x = one.by in let y = two.from in omega (arith, x, y)))
      (later b c (let x = two.by in let y = third.from in omega (arith, x, y))) a.is b.is c.is
      (passes a one.from) (passes b (let y = two.from in omega (arith, y))) (passes c (let y = third.from in omega (arith, y))))

pub away_is_missing : AwayIsMissing
away_is_missing site kept done stored m point first plan after is away free =
    let t = word_tick site m point first plan after is away in
    point_bit site after.valid point plan is (λ place. is_missing (held_answers site plan.panel (made_at plan.panel m)) place
    && not (is_off site kept done place (tick_of (made_at plan.panel m))))
    ∙ both _ _ (is_missing_now site m point first plan after is away) (not_true _ (ap (λ x. is_off site kept done point x) t ∙ free))
