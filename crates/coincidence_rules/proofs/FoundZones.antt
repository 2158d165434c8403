-- A zone is confirmed and released by all answers exactly where one of them, with those taken up to it,
-- confirms or releases it.
use Rattle.std.proofs.Common.{◌≡◌, ◌⊎◌, inl, inr, ℕ, suc, ◌+◌, ◌<◌, ◌≤◌, Bool, true, false, not, List, [], take}
use Rattle.std.proofs.Common.{Option, Some, None, slice_get, ◌==◌, ◌&&◌, ◌||◌, nat_lt, nat_le, refl, sym, subst}
use Rattle.std.proofs.Common.{arith}
use Rattle.std.specs.List.{list_any}
use Rattle.std.proofs.lemmas.Bool.{eqb-true}
use Rattle.std.proofs.lemmas.Bool.Decides.{nat_tests}
use Rattle.site_types.specs.declared.site.Site.{Site}
use Rattle.site_types.specs.declared.answer.Answer.{Answer}
use Rattle.site_types.specs.declared.rule.Rule.{Rule}
use Rattle.site_types.specs.declared.rule.Rule.TheVariants.{Plain, A, B, C}
use Rattle.site_types.specs.declared.retained.Retained.{Retained}
use Rattle.site_types.specs.Done.{Done, floor_before}
use Rattle.coincidence_rules.specs.Places.{is_of, is_detector, rule_of, pairs_up}
use Rattle.coincidence_rules.specs.Counted.{is_counted}
use Rattle.coincidence_rules.specs.Confirmed.{is_second, is_near, is_uncancelled, is_between, is_first_of_run, counts_throughout, is_verified, coincides, is_by_call_point, confirms}
use Rattle.coincidence_rules.specs.Alarm.{calls, has_second, releases_by, releases}
use Rattle.coincidence_rules.specs.InOrder.{AreInOrder}
use Rattle.coincidence_rules.proofs.Lists.{order_of, and_both, both_and, or_either, or_left, or_right, same_test, any_place, place_any, all_place, place_all, get_take, take_get}
use Rattle.coincidence_rules.proofs.Found.{passes_from, from_passes, AreLinked, turned_link, pair_from, from_link}
use Rattle.coincidence_rules.proofs.Found.{Paired, paired, pairing_second, pairing_near, pairing_uncancelled}
use Rattle.coincidence_rules.proofs.Found.{detected, any_found}

-- an answer of a stamp that passes a test with those up to it
pub record PassesAt (test : List Answer → Answer → Bool) (answers : List Answer) (stamp : ℕ) : Type 0 where
  pub place : ℕ
  pub answer : Answer
  pub is : slice_get answers place ≡ Some answer
  pub at : answer.stamp.0 ≡ stamp
  pub passes : test (take (suc place) answers) answer ≡ true

-- a test that finds answer by answer what it says of all
pub record IsFoundBy (test : List Answer → Answer → Bool) (answers : List Answer) : Type 0 where
  pub more : (k : ℕ) (a : Answer) → slice_get answers k ≡ Some a → test (take (suc k) answers) a ≡ true → test answers a ≡ true
  pub found : (k : ℕ) (a : Answer) → slice_get answers k ≡ Some a → test answers a ≡ true → PassesAt test answers a.stamp.0

pub found_is : (test : List Answer → Answer → Bool) (answers : List Answer) (stamps : ℕ → Bool) → IsFoundBy test answers
    → any_found (λ front a. stamps a.stamp.0 && test front a) [] answers ≡ list_any (λ a. stamps a.stamp.0 && test answers a) answers
found_is test answers stamps by' =
    same_test (any_found (λ front a. stamps a.stamp.0 && test front a) [] answers) (list_any (λ a. stamps a.stamp.0 && test answers a) answers)
    (λ h.
    let p = passes_from (λ front a. stamps a.stamp.0 && test front a) answers h in
    let both = and_both (stamps p.answer.stamp.0) (test (take (suc p.place) answers) p.answer) p.passes in
    place_any (λ a. stamps a.stamp.0 && test answers a) answers p.place p.answer p.is (both_and _ _ both.0 (by'.more p.place p.answer p.is both.1)))
    (λ h.
    let r = any_place (λ a. stamps a.stamp.0 && test answers a) answers h in
    let both = and_both (stamps r.1.stamp.0) (test answers r.1) r.3 in
    let f = by'.found r.0 r.1 r.2 both.1 in
    from_passes (λ front a. stamps a.stamp.0 && test front a) answers
    (record { place = f.place; answer = f.answer; is = f.is; passes = both_and _ _ (subst (λ s. stamps s ≡ true) (sym f.at) both.0) f.passes }))

module _ (site : Site) (kept : Retained) (done : List Done) (answers : List Answer) (order : AreInOrder answers) (zone : ℕ) where
  le_is : (a b : ℕ) → nat_le a b ≡ true → a ≤ b
  le_is a b h = grind (arith, nat_tests)

  abbrev front : ℕ → List Answer
  front k = take (suc k) answers

  in_front : (k j : ℕ) (o : Answer) → j ≤ k → slice_get answers j ≡ Some o → slice_get (front k) j ≡ Some o
  in_front k j o le at = take_get (suc k) j answers o (omega (arith, le)) at

  any_more : (test : Answer → Bool) (k : ℕ) → list_any test (front k) ≡ true → list_any test answers ≡ true
  any_more test k h = let r = any_place test (front k) h in place_any test answers r.0 r.1 (get_take (suc k) r.0 answers r.1 r.2).1 r.3

  abbrev first_test : ℕ → List Answer → Answer → Answer → Bool
  first_test verify all answer first = is_first_of_run site kept done verify zone answer first
      && counts_throughout site kept done all answer.point first.stamp.0 answer.stamp.0

  outside : (p f l c : Bool) → (p ≡ true → l ≡ true → ⊥) → (not (p && (f && l)) || c) ≡ true
  outside false f l c h = refl
  outside true false l c h = refl
  outside true true false c h = refl
  outside true true true c h = absurd (h refl refl)

  -- no later answer of the point has its stamp
  alone : (k j : ℕ) (a o : Answer) → slice_get answers k ≡ Some a → slice_get answers j ≡ Some o → k < j → o.point ≡ a.point → o.stamp.0 ≤ a.stamp.0
      → ⊥
  alone k j a o is at later same le =
      let up = order.rising k j a o (omega (arith, later)) is at in
      let one = order.once k j a o is at (sym same) (omega (arith, up, le)) in
      absurd (omega (arith, one, later))

  verified_more : (verify k : ℕ) (a : Answer) → slice_get answers k ≡ Some a → is_verified site kept done (front k) verify zone a ≡ true
      → is_verified site kept done answers verify zone a ≡ true
  verified_more verify k a is h =
      let r = any_place (first_test verify (front k) a) (front k) h in
      let both =
      and_both (is_first_of_run site kept done verify zone a r.1) (counts_throughout site kept done (front k) a.point r.1.stamp.0 a.stamp.0) r.3
      in
      place_any (first_test verify answers a) answers r.0 r.1 (get_take (suc k) r.0 answers r.1 r.2).1
      (both_and _ _ both.0
      (place_all (λ other. not (is_between a.point r.1.stamp.0 a.stamp.0 other) || is_counted site kept done other) answers
      (λ j o at. go r.1 j o at both.1 (order_of j k))))
    where
      go : (first : Answer) (j : ℕ) (o : Answer) → slice_get answers j ≡ Some o
          → counts_throughout site kept done (front k) a.point first.stamp.0 a.stamp.0 ≡ true → (j ≤ k) ⊎ (k < j)
          → (not (is_between a.point first.stamp.0 a.stamp.0 o) || is_counted site kept done o) ≡ true
      go first j o at all (inl before) =
          all_place (λ other. not (is_between a.point first.stamp.0 a.stamp.0 other) || is_counted site kept done other) (front k) all j o
          (in_front k j o before at)
      go first j o at all (inr later) =
          outside (o.point == a.point) (nat_le first.stamp.0 o.stamp.0) (nat_le o.stamp.0 a.stamp.0) (is_counted site kept done o)
          (λ p l. alone k j a o is at later (eqb-true o.point a.point p) (le_is o.stamp.0 a.stamp.0 l))

  verified_found : (verify k : ℕ) (a : Answer) → slice_get answers k ≡ Some a → is_verified site kept done answers verify zone a ≡ true
      → is_verified site kept done (front k) verify zone a ≡ true
  verified_found verify k a is h =
      let r = any_place (first_test verify answers a) answers h in
      let both = and_both (is_first_of_run site kept done verify zone a r.1) (counts_throughout site kept done answers a.point r.1.stamp.0 a.stamp.0)
      r.3 in
      go r.0 r.1 r.2 both.0 both.1 (order_of r.0 k)
    where
      go : (j : ℕ) (first : Answer) → slice_get answers j ≡ Some first → is_first_of_run site kept done verify zone a first ≡ true
          → counts_throughout site kept done answers a.point first.stamp.0 a.stamp.0 ≡ true → (j ≤ k) ⊎ (k < j)
          → is_verified site kept done (front k) verify zone a ≡ true
      go j first at begins all (inl before) =
          place_any (first_test verify (front k) a) (front k) j first (in_front k j first before at)
          (both_and _ _ begins
          (place_all (λ other. not (is_between a.point first.stamp.0 a.stamp.0 other) || is_counted site kept done other) (front k)
          (λ i o on. all_place (λ other. not (is_between a.point first.stamp.0 a.stamp.0 other) || is_counted site kept done other) answers all i o
          (get_take (suc k) i answers o on).1)))
      go j first at begins all (inr later) =
          let both = and_both ((first.point == a.point) && is_counted site kept done first) _ begins in
          let own = and_both (first.point == a.point) (is_counted site kept done first) both.0 in
          let long = le_is (first.stamp.0 + verify) a.stamp.0 (and_both (nat_lt (floor_before site zone a.stamp.0 done) first.stamp.0) _ both.1).1 in
          absurd (alone k j a first is at later (eqb-true first.point a.point own.0) (omega (arith, long)))

  -- the pairs for the zone among those up to an answer are pairs among all
  pairs_more : (test : ℕ → Answer → Answer → Bool) (k : ℕ) (a : Answer) → pairs_up site zone a.point (λ z. list_any (test z a) (front k)) ≡ true
      → pairs_up site zone a.point (λ z. list_any (test z a) answers) ≡ true
  pairs_more test k a h =
      let p = pair_from site kept done zone a.point (λ z. list_any (test z a) (front k)) h in
      from_link site kept done zone a.point p.one p.other (λ z. list_any (test z a) answers) p.linked p.of_one
      (any_more (test p.other a) k p.has_other)

  coincides_more : (rule : Option Rule) (k : ℕ) (a : Answer) → slice_get answers k ≡ Some a → coincides site kept done (front k) zone rule a ≡ true
      → coincides site kept done answers zone rule a ≡ true
  coincides_more None k a is h = h
  coincides_more (Some Plain) k a is h = h
  coincides_more (Some (A verify within)) k a is h =
      let both =
      and_both (is_of site zone a.point) (is_verified site kept done (front k) verify zone a
      || list_any (is_near site kept done within zone a) (front k)) h in
      both_and _ _ both.0
      (elim (or_either (is_verified site kept done (front k) verify zone a) (list_any (is_near site kept done within zone a) (front k)) both.1) [
        | inl one ↦ or_left _ _ (verified_more verify k a is one)
        | inr two ↦ or_right (is_verified site kept done answers verify zone a) _ (any_more (is_near site kept done within zone a) k two)
      ])
  coincides_more (Some (B within)) k a is h = pairs_more (λ z x o. is_uncancelled site kept done within z x o) k a h
  coincides_more (Some C) k a is h = h

  abbrev confirms_by : Option Rule → List Answer → Answer → Bool
  confirms_by rule all a =
      is_counted site kept done a && (is_by_call_point site zone a.point || (is_detector site a.point && coincides site kept done all zone rule a))

  confirms_more : (rule : Option Rule) (k : ℕ) (a : Answer) → slice_get answers k ≡ Some a → confirms_by rule (front k) a ≡ true
      → confirms_by rule answers a ≡ true
  confirms_more rule k a is h =
      let both = and_both (is_counted site kept done a) _ h in
      both_and _ _ both.0
      (elim (or_either (is_by_call_point site zone a.point) (is_detector site a.point && coincides site kept done (front k) zone rule a) both.1) [
        | inl hand ↦ or_left _ _ hand
        | inr rest ↦ (let own = and_both (is_detector site a.point) (coincides site kept done (front k) zone rule a) rest in
            or_right (is_by_call_point site zone a.point) _ (both_and _ _ own.0 (coincides_more rule k a is own.1)))
      ])

  -- what an answer makes by itself is found with it
  by_itself : (rule : Option Rule) (k : ℕ) (a : Answer) → slice_get answers k ≡ Some a → is_counted site kept done a ≡ true
      → (is_by_call_point site zone a.point || (is_detector site a.point && coincides site kept done (front k) zone rule a)) ≡ true
      → PassesAt (confirms_by rule) answers a.stamp.0
  by_itself rule k a is counts h = record { place = k; answer = a; is = is; at = refl; passes = both_and _ _ counts h }

  from_pair : (passes : List Answer → Answer → Bool) (fits : Answer → Bool) (test : ℕ → Answer → Answer → Bool) (links : ℕ → ℕ → Type 0) (stamp : ℕ)
      → Paired site kept done fits test links answers stamp
      → ((k : ℕ) (a : Answer) → fits a ≡ true → (one other : ℕ) → links one other → is_of site one a.point ≡ true
      → list_any (test other a) (front k) ≡ true → passes (front k) a ≡ true) → PassesAt passes answers stamp
  from_pair passes fits test links stamp p confirmed =
      record {
        place = p.place;
        answer = p.answer;
        is = p.is;
        at = p.at;
        passes =
            confirmed p.place p.answer p.fit p.one p.other p.linked p.of_one p.has_other;
      }

  fit_parts : (a : Answer) → detected site kept done a ≡ true → (is_counted site kept done a ≡ true) × (is_detector site a.point ≡ true)
  fit_parts a h = and_both (is_counted site kept done a) (is_detector site a.point) h

  abbrev both_of : ℕ → ℕ → Type 0
  both_of one other = (one ≡ zone) × (other ≡ zone)

  near_confirms : (verify within k : ℕ) (a : Answer) → detected site kept done a ≡ true → (one other : ℕ) → both_of one other
      → is_of site one a.point ≡ true → list_any (is_near site kept done within other a) (front k) ≡ true
      → confirms_by (Some (A verify within)) (front k) a ≡ true
  near_confirms verify within k a fit one other linked of has =
      let parts = fit_parts a fit in
      let own = subst (λ z. is_of site z a.point ≡ true) linked.0 of in
      let near = subst (λ z. list_any (is_near site kept done within z a) (front k) ≡ true) linked.1 has in
      both_and _ _ parts.0
      (or_right (is_by_call_point site zone a.point) _
      (both_and _ _ parts.1 (both_and _ _ own (or_right (is_verified site kept done (front k) verify zone a) _ near))))

  pair_confirms : (within k : ℕ) (a : Answer) → detected site kept done a ≡ true → (one other : ℕ) → AreLinked site kept done zone one other
      → is_of site one a.point ≡ true → list_any (is_uncancelled site kept done within other a) (front k) ≡ true
      → confirms_by (Some (B within)) (front k) a ≡ true
  pair_confirms within k a fit one other linked of has =
      let parts = fit_parts a fit in
      both_and _ _ parts.0
      (or_right (is_by_call_point site zone a.point) _
      (both_and _ _ parts.1 (from_link site kept done zone a.point one other (λ z. list_any (is_uncancelled site kept done within z a) (front k))
      linked of has)))

  coincides_found : (rule : Option Rule) (k : ℕ) (a : Answer) → slice_get answers k ≡ Some a → is_counted site kept done a ≡ true
      → is_detector site a.point ≡ true → coincides site kept done answers zone rule a ≡ true
      → PassesAt (confirms_by rule) answers a.stamp.0
  coincides_found None k a is counts detector h = cc
  coincides_found (Some Plain) k a is counts detector h =
      by_itself (Some Plain) k a is counts (or_right (is_by_call_point site zone a.point) _ (both_and _ _ detector h))
  coincides_found (Some C) k a is counts detector h =
      by_itself (Some C) k a is counts (or_right (is_by_call_point site zone a.point) _ (both_and _ _ detector h))
  coincides_found (Some (A verify within)) k a is counts detector h =
      let both =
      and_both (is_of site zone a.point) (is_verified site kept done answers verify zone a
      || list_any (is_near site kept done within zone a) answers) h in
      elim (or_either (is_verified site kept done answers verify zone a) (list_any (is_near site kept done within zone a) answers) both.1) [
        | inl one ↦
            by_itself (Some (A verify within)) k a is counts
            (or_right (is_by_call_point site zone a.point) _
            (both_and _ _ detector (both_and _ _ both.0 (or_left _ _ (verified_found verify k a is one)))))
        | inr two ↦ from_pair (confirms_by (Some (A verify within))) (detected site kept done) (λ z x o. is_near site kept done within z x o) both_of
            a.stamp.0
            (paired site kept done (detected site kept done) (λ z x o. is_near site kept done within z x o) both_of (λ x y l. (l.1, l.0)) answers k a
            (pairing_near site kept done within) order is (both_and _ _ counts detector) zone zone (refl, refl) both.0 two)
            (λ j b fit one other linked of has. near_confirms verify within j b fit one other linked of has)
      ]
  coincides_found (Some (B within)) k a is counts detector h =
      let p = pair_from site kept done zone a.point (λ z. list_any (is_uncancelled site kept done within z a) answers) h in
      from_pair (confirms_by (Some (B within))) (detected site kept done) (λ z x o. is_uncancelled site kept done within z x o)
      (AreLinked site kept done zone) a.stamp.0
      (paired site kept done (detected site kept done) (λ z x o. is_uncancelled site kept done within z x o) (AreLinked site kept done zone)
      (turned_link site kept done zone) answers k a (pairing_uncancelled site kept done within) order is (both_and _ _ counts detector) p.one
      p.other p.linked p.of_one p.has_other)
      (λ j b fit one other linked of has. pair_confirms within j b fit one other linked of has)

  confirms_found : (rule : Option Rule) (k : ℕ) (a : Answer) → slice_get answers k ≡ Some a → confirms_by rule answers a ≡ true
      → PassesAt (confirms_by rule) answers a.stamp.0
  confirms_found rule k a is h =
      let both = and_both (is_counted site kept done a) _ h in
      elim (or_either (is_by_call_point site zone a.point) (is_detector site a.point && coincides site kept done answers zone rule a) both.1) [
        | inl hand ↦ by_itself rule k a is both.0 (or_left _ _ hand)
        | inr rest ↦ (let own = and_both (is_detector site a.point) (coincides site kept done answers zone rule a) rest in
            coincides_found rule k a is both.0 own.0 own.1)
      ]

  pub confirms_is_found : IsFoundBy (λ all a. confirms site kept done all zone a) answers
  confirms_is_found = record {
    more = λ k a is h. confirms_more (rule_of (slice_get site.zones zone)) k a is h;
    found = λ k a is h. confirms_found (rule_of (slice_get site.zones zone)) k a is h;
  }

  abbrev releases_to : Option Rule → List Answer → Answer → Bool
  releases_to rule all a = releases_by site kept done all zone rule a

  second_more : (k : ℕ) (a : Answer) → has_second site kept done (front k) zone a ≡ true → has_second site kept done answers zone a ≡ true
  second_more k a h =
      let both = and_both (is_counted site kept done a) (pairs_up site zone a.point (λ z. list_any (is_second site kept done z a) (front k))) h in
      both_and _ _ both.0 (pairs_more (λ z x o. is_second site kept done z x o) k a both.1)

  second_releases : (k : ℕ) (a : Answer) → is_counted site kept done a ≡ true → (one other : ℕ) → AreLinked site kept done zone one other
      → is_of site one a.point ≡ true → list_any (is_second site kept done other a) (front k) ≡ true
      → releases_to (Some C) (front k) a ≡ true
  second_releases k a counts one other linked of has =
      or_right (calls site kept done zone a) _
      (both_and _ _ counts (from_link site kept done zone a.point one other (λ z. list_any (is_second site kept done z a) (front k)) linked of
      has))

  releases_more : (rule : Option Rule) (k : ℕ) (a : Answer) → slice_get answers k ≡ Some a → releases_to rule (front k) a ≡ true
      → releases_to rule answers a ≡ true
  releases_more None k a is h = confirms_is_found.more k a is h
  releases_more (Some Plain) k a is h = confirms_is_found.more k a is h
  releases_more (Some (A verify within)) k a is h = confirms_is_found.more k a is h
  releases_more (Some (B within)) k a is h = confirms_is_found.more k a is h
  releases_more (Some C) k a is h = elim (or_either (calls site kept done zone a) (has_second site kept done (front k) zone a) h) [
    | inl hand ↦ or_left _ _ hand
    | inr two ↦ or_right (calls site kept done zone a) _ (second_more k a two)
  ]

  releases_found : (rule : Option Rule) (k : ℕ) (a : Answer) → slice_get answers k ≡ Some a → releases_to rule answers a ≡ true
      → PassesAt (releases_to rule) answers a.stamp.0
  releases_found None k a is h = let f = confirms_is_found.found k a is h in
      record { place = f.place; answer = f.answer; is = f.is; at = f.at; passes = f.passes }
  releases_found (Some Plain) k a is h = let f = confirms_is_found.found k a is h in
      record { place = f.place; answer = f.answer; is = f.is; at = f.at; passes = f.passes }
  releases_found (Some (A verify within)) k a is h = let f = confirms_is_found.found k a is h in
      record { place = f.place; answer = f.answer; is = f.is; at = f.at; passes = f.passes }
  releases_found (Some (B within)) k a is h = let f = confirms_is_found.found k a is h in
      record { place = f.place; answer = f.answer; is = f.is; at = f.at; passes = f.passes }
  releases_found (Some C) k a is h = elim (or_either (calls site kept done zone a) (has_second site kept done answers zone a) h) [
    | inl hand ↦ record { place = k; answer = a; is = is; at = refl; passes = or_left _ _ hand }
    | inr two ↦
        (let both = and_both (is_counted site kept done a) (pairs_up site zone a.point (λ z. list_any (is_second site kept done z a) answers)) two in
        let p = pair_from site kept done zone a.point (λ z. list_any (is_second site kept done z a) answers) both.1 in
        from_pair (releases_to (Some C)) (is_counted site kept done) (λ z x o. is_second site kept done z x o) (AreLinked site kept done zone)
        a.stamp.0
        (paired site kept done (is_counted site kept done) (λ z x o. is_second site kept done z x o) (AreLinked site kept done zone)
        (turned_link site kept done zone) answers k a (pairing_second site kept done) order is both.0 p.one p.other p.linked p.of_one p.has_other)
        (λ j b fit one other linked of has. second_releases j b fit one other linked of has))
  ]

  pub releases_is_found : IsFoundBy (λ all a. releases site kept done all zone a) answers
  releases_is_found = record {
    more = λ k a is h. releases_more (rule_of (slice_get site.zones zone)) k a is h;
    found = λ k a is h. releases_found (rule_of (slice_get site.zones zone)) k a is h;
  }
