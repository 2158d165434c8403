-- The alarms of a run that go on are told of part by part, one for each zone.
use Rattle.std.proofs.Common.{◌≡◌, ℕ, ◌+◌, ◌-◌, ◌<◌, ◌≤◌, ◌++◌, ◌⊎◌, inl, inr, nat_lt, Bool, map, min, true, false, refl, sym, ◌∙◌, ap, subst, arith}
use Rattle.std.specs.List.{range_with_len}
use Rattle.tick_units.specs.Lane.{HasRoom, LaneState, with_put}
use Rattle.site_types.specs.Bits.{has_bit}
use Rattle.site_types.proofs.Done.{lt_tells}
use Rattle.coincidence_rules.specs.declared.finding.Finding.{Finding}
use Rattle.answer_lanes.specs.declared.answer_group.AnswerGroup.{AnswerGroup}
use Rattle.answer_lanes.specs.declared.finding_group.FindingGroup.{FindingGroup}
use Rattle.answer_lanes.specs.declared.run.Run.{Run}
use Rattle.answer_lanes.specs.Points.{answer_at, finding_at}
use Rattle.answer_lanes.specs.Runs.{items_of, rest_of}
use Rattle.answer_lanes.proofs.Moving.{length_run, run_parts}
use Rattle.coincidence.specs.declared.decide.Decide.{Decide}
use Rattle.coincidence.specs.declared.zone_part.ZonePart.{ZonePart}
use Rattle.coincidence.specs.Changes.{PutsFindings, TakesAnswers, TakesAnswerRun}
use Rattle.coincidence.specs.GoingOn.{ConfirmsPart, telling_of}
use Rattle.coincidence.specs.Resting.{TellsChanging}
use Rattle.coincidence.specs.Stands.{CanTake}
use Rattle.coincidence.proofs.Passed.{going_part}
use Rattle.coincidence.proofs.RunItems.{all_before, before, none_before}
use Rattle.coincidence.proofs.Turned.{can_front, puts_none, room_behind, takes_none}

-- the answers of a run before a place are told of, and of the bits that tell which may change what is kept those behind it are left
pub record AreTold (decide : Decide) (run : Run AnswerGroup) (lane held : LaneState Finding) (changing left place : ℕ) : Type 0 where
  pub taken : TakesAnswers decide (before run place) decide
  pub put : PutsFindings decide (before run place) lane held
  pub least : run.taken ≤ place
  pub most : place ≤ run.taken + run.count
  pub among : (k : ℕ) → has_bit left k ≡ true → has_bit changing k ≡ true
  pub behind_those : (k : ℕ) → has_bit left k ≡ true → place ≤ run.taken + k
  pub all : (k : ℕ) → place ≤ run.taken + k → has_bit changing k ≡ true → has_bit left k ≡ true
  pub ends : left ≡ 0 → place ≡ run.taken + run.count

pub none_told : (decide : Decide) (run : Run AnswerGroup) (lane : LaneState Finding) (changing : ℕ) → 0 < changing
    → AreTold decide run lane lane changing changing run.taken
none_told decide run lane changing some = record {
  taken = subst (λ xs. TakesAnswers decide xs decide) (sym (none_before run)) (takes_none decide);
  put = subst (λ xs. PutsFindings decide xs lane lane) (sym (none_before run)) (puts_none decide lane);
  least = omega arith;
  most = omega arith;
  among = λ k is. is;
  behind_those = λ k is. omega arith;
  all = λ k from is. is;
  ends = λ none. omega (arith, none, some);
}

-- where a part ends: at the lowest of the bits behind it, and with the run where there are none
pub record EndsPart (count behind end : ℕ) : Type 0 where
  pub set : 0 < behind → has_bit behind end ≡ true
  pub none : (k : ℕ) → k < end → has_bit behind k ≡ false
  pub otherwise : behind ≡ 0 → end ≡ count

module _ {decide : Decide} {run : Run AnswerGroup} {lane held : LaneState Finding} {changing left place : ℕ}
    (h : AreTold decide run lane held changing left place) where
  -- there is room for the findings of a part
  pub room_for_part : CanTake decide (items_of answer_at run) → HasRoom lane run.count → (end : ℕ) → end ≤ run.taken + run.count
      → HasRoom held (end - place)
  room_for_part can room end to =
      let least = h.least in
      let most = h.most in
      let so_far = place - run.taken in
      let least_of : min run.count so_far ≡ so_far = omega (arith, least, most) in
      let behind = items_of answer_at (rest_of (min run.count so_far) run) in
      let parts = run_parts answer_at run so_far ∙ ap (λ n. map (answer_at run.first) (range_with_len run.taken n) ++ behind) least_of in
      let size = length_run answer_at (record { first = run.first; taken = run.taken; count = so_far }) in
      room_behind decide (before run place) lane held run.count (end - place)
      (can_front decide (before run place) behind (subst (CanTake decide) parts can)) h.put room (omega (arith, size, least, most, to))

  -- behind the last part all are taken
  pub all_told : left ≡ 0 → TakesAnswerRun decide run lane decide held
  all_told none =
      let all = all_before run place (h.ends none) in
      record {
        taken = subst (λ xs. TakesAnswers decide xs decide) all h.taken;
        put = subst (λ xs. PutsFindings decide xs lane held) all h.put;
      }

  module _ (tells : TellsChanging decide run changing) (part : ZonePart) (confirms : ConfirmsPart decide run left part) (end : ℕ)
      (ends : EndsPart run.count part.behind end) where
    -- the part ends behind the place where it begins, and within the run
    pub part_within : (place ≤ run.taken + end) × (run.taken + end ≤ run.taken + run.count)
    part_within = by (lt_tells 0 part.behind)
      where
        by : ((nat_lt 0 part.behind ≡ true) × (0 < part.behind)) ⊎ ((nat_lt 0 part.behind ≡ false) × (part.behind ≤ 0))
            → (place ≤ run.taken + end) × (run.taken + end ≤ run.taken + run.count)
        by (inl some) =
            let was = confirms.tail.among end (ends.set some.1) in
            let small = tells.within end (h.among end was) in
            (h.behind_those end was, omega (arith, small))
        by (inr none) =
            let least = none.1 in
            let is = ends.otherwise (omega (arith, least)) in
            let most = h.most in
            (omega (arith, is, most), omega (arith, is))

    not_below : (k : ℕ) → has_bit part.behind k ≡ true → end ≤ k
    not_below k has = elim (lt_tells k end) [
      | inl under ↦ absurd (let clear = ends.none k under.1 in cc)
      | inr above ↦ above.1
    ]

    -- a bit that is left and no longer behind lies before the end
    before_end : (k : ℕ) → has_bit left k ≡ true → has_bit part.behind k ≡ false → k < end
    before_end k is gone = by (lt_tells 0 part.behind)
      where
        by : ((nat_lt 0 part.behind ≡ true) × (0 < part.behind)) ⊎ ((nat_lt 0 part.behind ≡ false) × (part.behind ≤ 0)) → k < end
        by (inl some) = confirms.tail.before_them k end is gone (ends.set some.1)
        by (inr none) =
            let least = none.1 in
            let at = ends.otherwise (omega (arith, least)) in
            let small = tells.within k (h.among k is) in
            omega (arith, at, small)

    pub part_told : (first : FindingGroup) → ((k : ℕ) → finding_at first k ≡ telling_of part.zones (answer_at run.first k)) → (after : LaneState Finding)
        → after ≡ with_put held (map (finding_at first) (range_with_len place (run.taken + end - place)))
        → AreTold decide run lane after changing part.behind (run.taken + end)
    part_told first told_is after put =
        let within = part_within in
        let least = h.least in
        let from = within.0 in
        let done = going_part decide run lane held after first changing place (run.taken + end) part.zones told_is tells least from within.1
        (λ k start to is. confirms.again k (h.all k start is) (ends.none k (omega (arith, to)))) h.taken h.put put in
        record {
          taken = done.0;
          put = done.1;
          least = omega arith;
          most = within.1;
          among = λ k is. h.among k (confirms.tail.among k is);
          behind_those = λ k is. let past = not_below k is in omega (arith, past);
          all = λ k past is. kept k past (h.all k (omega (arith, past, from)) is) (has_bit part.behind k) refl;
          ends = λ none. let at = ends.otherwise none in omega (arith, at);
        }
      where
        kept : (k : ℕ) → run.taken + end ≤ run.taken + k → has_bit left k ≡ true → (b : Bool) → has_bit part.behind k ≡ b → has_bit part.behind k ≡ true
        kept k past is true at = at
        kept k past is false at = absurd (let less = before_end k is at in omega (arith, less, past))
