-- What some answer confirms after a tick is confirmed at that answer's stamp.
use Rattle.std.proofs.Common.{◌≡◌, ℕ, ◌<◌, ◌==◌, ◌&&◌, nat_lt, Bool, true, List, [], ◌∷◌, inl, inr, refl, arith}
use Rattle.std.specs.List.{list_any}
use Rattle.std.proofs.lemmas.Bool.{eqb-true}
use Rattle.std.proofs.lemmas.Bool.Decides.{eqb_tells}
use Rattle.site_types.specs.declared.answer.Answer.{Answer}
use Rattle.site_types.specs.Done.{floor_before}
use Rattle.site_types.proofs.Done.{lt_tells, lt_true}
use Rattle.coincidence_rules.specs.Alarm.{InAlarmWhereConfirmed}
use Rattle.coincidence_rules.specs.Confirmed.{confirms}
use Rattle.coincidence_rules.proofs.Lists.{and_both, both_and, or_either, or_left, or_right}

module _ (floor : ℕ) (test : Answer → Bool) where
  stamp_from : (answers : List Answer) → list_any (λ answer. nat_lt floor answer.stamp.0 && test answer) answers ≡ true
      → (stamp : ℕ) × (floor < stamp) × (list_any (λ answer. (answer.stamp.0 == stamp) && test answer) answers ≡ true)
  stamp_from [] h = cc
  stamp_from (x ∷ xs) h =
      elim (or_either (nat_lt floor x.stamp.0 && test x) (list_any (λ answer. nat_lt floor answer.stamp.0 && test answer) xs) h) [
        | inl here ↦
            (let both = and_both (nat_lt floor x.stamp.0) (test x) here in
            (x.stamp.0, above both.0, or_left _ _ (both_and _ _ (itself x.stamp.0) both.1)))
        | inr later ↦ (let rest = stamp_from xs later in (rest.0, rest.1, or_right _ _ rest.2))
      ]
    where
      above : nat_lt floor x.stamp.0 ≡ true → floor < x.stamp.0
      above h = elim (lt_tells floor x.stamp.0) [ inl t ↦ t.1 | inr t ↦ (let e = t.0 in cc) ]

      itself : (n : ℕ) → (n == n) ≡ true
      itself n = elim (eqb_tells n n) [ inl t ↦ t.0 | inr t ↦ absurd (t.1 refl) ]

  from_stamp : (answers : List Answer) (stamp : ℕ) → floor < stamp → list_any (λ answer. (answer.stamp.0 == stamp) && test answer) answers ≡ true
      → list_any (λ answer. nat_lt floor answer.stamp.0 && test answer) answers ≡ true
  from_stamp [] stamp above h = cc
  from_stamp (x ∷ xs) stamp above h =
      elim (or_either ((x.stamp.0 == stamp) && test x) (list_any (λ answer. (answer.stamp.0 == stamp) && test answer) xs) h) [
        | inl here ↦
            (let both = and_both (x.stamp.0 == stamp) (test x) here in
            let same = eqb-true x.stamp.0 stamp both.0 in
            or_left _ _ (both_and _ _ (lt_true floor x.stamp.0 (omega (arith, same, above))) both.1))
        | inr later ↦ or_right _ _ (from_stamp xs stamp above later)
      ]

pub in_alarm_where_confirmed : InAlarmWhereConfirmed
in_alarm_where_confirmed = record {
  confirmed = λ site kept done answers zone tick h. stamp_from (floor_before site zone tick done) (confirms site kept done answers zone) answers h;
  in_alarm = λ site kept done answers zone tick stamp above h. from_stamp (floor_before site zone tick done) (confirms site kept done answers zone)
      answers stamp above h;
}
