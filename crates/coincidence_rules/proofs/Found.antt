-- What is found answer by answer is what the definition says of all answers.
use Rattle.std.proofs.Common.{◌≡◌, ◌≢◌, ◌⊎◌, inl, inr, ℕ, zero, suc, ◌<◌, ◌≤◌, Bool, true, false, not, List, [], ◌∷◌}
use Rattle.std.proofs.Common.{◌++◌, take, Option, Some, None, slice_get, ◌==◌, ◌&&◌, ◌||◌, nat_lt, nat_le, refl, sym}
use Rattle.std.proofs.Common.{◌∙◌, ap, subst, arith, append_assoc}
use Rattle.std.specs.List.{list_any}
use Rattle.std.proofs.lemmas.Bool.Decides.{nat_tests}
use Rattle.site_types.specs.declared.site.Site.{Site}
use Rattle.site_types.specs.declared.answer.Answer.{Answer}
use Rattle.site_types.specs.declared.retained.Retained.{Retained}
use Rattle.site_types.specs.Done.{Done, floor_before, cancelled_before, cancels}
use Rattle.site_types.proofs.Done.{floor_below, latest_below}
use Rattle.coincidence_rules.specs.Places.{is_of, is_detector, partner_of, on_zone, on_partner, pairs_up}
use Rattle.coincidence_rules.specs.Counted.{is_counted}
use Rattle.coincidence_rules.specs.Confirmed.{is_second, is_near, is_uncancelled}
use Rattle.coincidence_rules.specs.InOrder.{AreInOrder}
use Rattle.coincidence_rules.proofs.Lists.{order_of, and_both, both_and, or_either, or_left, or_right, any_place, place_any, take_get}

-- some answer passes a test with those taken up to it, itself the last
abbrev pub any_found : (List Answer → Answer → Bool) → List Answer → List Answer → Bool
any_found test before [] = false
any_found test before (answer ∷ answers) = test (before ++ answer ∷ []) answer || any_found test (before ++ answer ∷ []) answers

-- an answer at a place, which passes a test with those up to it
pub record Passes (test : List Answer → Answer → Bool) (answers : List Answer) : Type 0 where
  pub place : ℕ
  pub answer : Answer
  pub is : slice_get answers place ≡ Some answer
  pub passes : test (take (suc place) answers) answer ≡ true

found_from : (test : List Answer → Answer → Bool) (before xs : List Answer) → any_found test before xs ≡ true
    → (k : ℕ) × (a : Answer) × (slice_get xs k ≡ Some a) × (test (before ++ take (suc k) xs) a ≡ true)
found_from test before [] h = cc
found_from test before (x ∷ xs) h = elim (or_either (test (before ++ x ∷ []) x) (any_found test (before ++ x ∷ []) xs) h) [
  | inl here ↦ (0, x, refl, subst (λ l. test (before ++ x ∷ l) x ≡ true) (sym (none_taken xs)) here)
  | inr later ↦ (let r = found_from test (before ++ x ∷ []) xs later in
      (suc r.0, r.1, r.2, subst (λ l. test l r.1 ≡ true) (joined before x (take (suc r.0) xs)) r.3))
]
  where
    none_taken : (ys : List Answer) → take 0 ys ≡ []
    none_taken [] = refl
    none_taken (y ∷ ys) = refl

    joined : (one : List Answer) (y : Answer) (more : List Answer) → (one ++ y ∷ []) ++ more ≡ one ++ y ∷ more
    joined one y more = rw append_assoc refl

from_found : (test : List Answer → Answer → Bool) (before xs : List Answer) (k : ℕ) (a : Answer) → slice_get xs k ≡ Some a
    → test (before ++ take (suc k) xs) a ≡ true → any_found test before xs ≡ true
from_found test before [] k a at h = cc
from_found test before (x ∷ xs) zero a at h =
    let e : x ≡ a = cc in
    or_left (test (before ++ x ∷ []) x) (any_found test (before ++ x ∷ []) xs)
    (subst (λ y. test (before ++ x ∷ []) y ≡ true) (sym e) (subst (λ l. test (before ++ x ∷ l) a ≡ true) (none_taken xs) h))
  where
    none_taken : (ys : List Answer) → take 0 ys ≡ []
    none_taken [] = refl
    none_taken (y ∷ ys) = refl
from_found test before (x ∷ xs) (suc k) a at h =
    or_right (test (before ++ x ∷ []) x) (any_found test (before ++ x ∷ []) xs)
    (from_found test (before ++ x ∷ []) xs k a at (subst (λ l. test l a ≡ true) (sym (joined before x (take (suc k) xs))) h))
  where
    joined : (one : List Answer) (y : Answer) (more : List Answer) → (one ++ y ∷ []) ++ more ≡ one ++ y ∷ more
    joined one y more = rw append_assoc refl

pub passes_from : (test : List Answer → Answer → Bool) (answers : List Answer) → any_found test [] answers ≡ true → Passes test answers
passes_from test answers h = let r = found_from test [] answers h in record { place = r.0; answer = r.1; is = r.2; passes = r.3 }

pub from_passes : (test : List Answer → Answer → Bool) (answers : List Answer) → Passes test answers → any_found test [] answers ≡ true
from_passes test answers p = from_found test [] answers p.place p.answer p.is p.passes

module _ (site : Site) (kept : Retained) (done : List Done) where
  abbrev pub counted : Answer → Bool
  counted = is_counted site kept done

  -- the zones of the two answers of a pair for a zone
  abbrev pub IsPartner : ℕ → ℕ → Type 0
  IsPartner zone other = partner_of (slice_get site.zones zone) ≡ Some other

  abbrev pub AreLinked : ℕ → ℕ → ℕ → Type 0
  AreLinked zone one other = ((one ≡ zone) × (other ≡ zone)) ⊎ (((one ≡ zone) × IsPartner zone other) ⊎ (IsPartner zone one × (other ≡ zone)))

  pub turned_link : (zone one other : ℕ) → AreLinked zone one other → AreLinked zone other one
  turned_link zone one other (inl both) = inl (both.1, both.0)
  turned_link zone one other (inr (inl far)) = inr (inr (far.1, far.0))
  turned_link zone one other (inr (inr far)) = inr (inl (far.1, far.0))

  on_zone_is : (test : ℕ → Bool) (o : Option ℕ) → on_zone test o ≡ true → (z : ℕ) × (o ≡ Some z) × (test z ≡ true)
  on_zone_is test None h = cc
  on_zone_is test (Some z) h = (z, refl, h)

  is_on_zone : (test : ℕ → Bool) (o : Option ℕ) (z : ℕ) → o ≡ Some z → test z ≡ true → on_zone test o ≡ true
  is_on_zone test o z e h = ap (on_zone test) e ∙ h

  pub record Pair (zone point : ℕ) (second : ℕ → Bool) : Type 0 where
    pub one : ℕ
    pub other : ℕ
    pub linked : AreLinked zone one other
    pub of_one : is_of site one point ≡ true
    pub has_other : second other ≡ true

  pub pair_from : (zone point : ℕ) (second : ℕ → Bool) → pairs_up site zone point second ≡ true → Pair zone point second
  pair_from zone point second h =
      elim (or_either (is_of site zone point && (second zone || on_partner site zone second)) (on_partner site zone (λ z. is_of site z point)
      && second zone) h) [
        | inl own ↦ (let both = and_both (is_of site zone point) (second zone || on_partner site zone second) own in
            elim (or_either (second zone) (on_partner site zone second) both.1) [
              | inl near ↦ record { one = zone; other = zone; linked = inl (refl, refl); of_one = both.0; has_other = near }
              | inr far ↦ (let z = on_zone_is second (partner_of (slice_get site.zones zone)) far in
                  record { one = zone; other = z.0; linked = inr (inl (refl, z.1)); of_one = both.0; has_other = z.2 })
            ])
        | inr theirs ↦ (let both = and_both (on_partner site zone (λ z. is_of site z point)) (second zone) theirs in
            let z = on_zone_is (λ y. is_of site y point) (partner_of (slice_get site.zones zone)) both.0 in
            record { one = z.0; other = zone; linked = inr (inr (z.1, refl)); of_one = z.2; has_other = both.1 })
      ]

  pub from_link : (zone point one other : ℕ) (second : ℕ → Bool) → AreLinked zone one other → is_of site one point ≡ true → second other ≡ true
      → pairs_up site zone point second ≡ true
  from_link zone point one other second (inl both) of has =
      or_left _ _ (both_and (is_of site zone point) (second zone || on_partner site zone second) (subst (λ z. is_of site z point ≡ true) both.0 of)
      (or_left (second zone) _ (subst (λ z. second z ≡ true) both.1 has)))
  from_link zone point one other second (inr (inl far)) of has =
      or_left _ _ (both_and (is_of site zone point) (second zone || on_partner site zone second) (subst (λ z. is_of site z point ≡ true) far.0 of)
      (or_right (second zone) _ (is_on_zone second _ other far.1 has)))
  from_link zone point one other second (inr (inr far)) of has =
      or_right (is_of site zone point && (second zone || on_partner site zone second)) _
      (both_and (on_partner site zone (λ z. is_of site z point)) (second zone) (is_on_zone (λ y. is_of site y point) _ one far.0 of)
      (subst (λ z. second z ≡ true) far.1 has))

  -- a test of pairs: what passes it is of the zone, counts, was not later, and is of another point; and of
  -- two answers of one stamp each passes with the other
  pub record IsPairing (fits : Answer → Bool) (test : ℕ → Answer → Answer → Bool) : Type 0 where
    pub of_zone : (zone : ℕ) (a o : Answer) → test zone a o ≡ true → is_of site zone o.point ≡ true
    pub fits_too : (zone : ℕ) (a o : Answer) → fits a ≡ true → test zone a o ≡ true → fits o ≡ true
    pub before : (zone : ℕ) (a o : Answer) → test zone a o ≡ true → o.stamp.0 ≤ a.stamp.0
    pub another : (zone : ℕ) (a o : Answer) → test zone a o ≡ true → o.point ≢ a.point
    pub turned : (one other : ℕ) (a o : Answer) → a.stamp.0 ≡ o.stamp.0 → fits a ≡ true → is_of site one a.point ≡ true → test other a o ≡ true
        → test one o a ≡ true

  -- of a pair the one that stands later is found with the other
  pub record Paired (fits : Answer → Bool) (test : ℕ → Answer → Answer → Bool) (links : ℕ → ℕ → Type 0) (answers : List Answer) (stamp : ℕ) :
      Type 0 where
    pub place : ℕ
    pub answer : Answer
    pub is : slice_get answers place ≡ Some answer
    pub at : answer.stamp.0 ≡ stamp
    pub fit : fits answer ≡ true
    pub one : ℕ
    pub other : ℕ
    pub linked : links one other
    pub of_one : is_of site one answer.point ≡ true
    pub has_other : list_any (test other answer) (take (suc place) answers) ≡ true

  pub paired : (fits : Answer → Bool) (test : ℕ → Answer → Answer → Bool) (links : ℕ → ℕ → Type 0) → ((x y : ℕ) → links x y → links y x)
      → (answers : List Answer) (k : ℕ) (a : Answer) → IsPairing fits test → AreInOrder answers
      → slice_get answers k ≡ Some a → fits a ≡ true → (one other : ℕ) → links one other → is_of site one a.point ≡ true
      → list_any (test other a) answers ≡ true → Paired fits test links answers a.stamp.0
  paired fits test links turn answers k a pairing order is fit one other linked of has =
      let found = any_place (test other a) answers has in
      go found.0 found.1 found.2 found.3 (order_of found.0 k)
    where
      go : (j : ℕ) (o : Answer) → slice_get answers j ≡ Some o → test other a o ≡ true → (j ≤ k) ⊎ (k < j) → Paired fits test links answers a.stamp.0
      go j o at passes (inl before) = record {
        place = k;
        answer = a;
        is = is;
        at = refl;
        fit = fit;
        one = one;
        other = other;
        linked = linked;
        of_one = of;
        has_other = place_any (test other a) (take (suc k) answers) j o (take_get (suc k) j answers o (omega (arith, before)) at) passes;
      }
      go j o at passes (inr later) =
          let le = order.rising k j a o (omega (arith, later)) is at in
          let same : a.stamp.0 ≡ o.stamp.0 = omega (arith, le, pairing.before other a o passes) in
          record {
            place = j;
            answer = o;
            is = at;
            at = sym same;
            fit = pairing.fits_too other a o fit passes;
            one = other;
            other = one;
            linked = turn one other linked;
            of_one = pairing.of_zone other a o passes;
            has_other =
                place_any (test one o) (take (suc j) answers) k a (take_get (suc j) k answers a (omega (arith, later)) is)
                (pairing.turned one other a o same fit of passes);
          }

  swapped : (p q : ℕ) → not (q == p) ≡ true → not (p == q) ≡ true
  swapped p q h = grind (arith, nat_tests, h)

  le_is : (a b : ℕ) → nat_le a b ≡ true → a ≤ b
  le_is a b h = grind (arith, nat_tests)

  le_true : (a b : ℕ) → a ≤ b → nat_le a b ≡ true
  le_true a b h = grind (arith, nat_tests)

  lt_is : (a b : ℕ) → nat_lt a b ≡ true → a < b
  lt_is a b h = grind (arith, nat_tests)

  lt_true : (a b : ℕ) → a < b → nat_lt a b ≡ true
  lt_true a b h = grind (arith, nat_tests)

  not_same : (p q : ℕ) → not (p == q) ≡ true → p ≢ q
  not_same p q h e = grind (arith, nat_tests, h, e)

  -- the parts of a pair
  record Second (zone : ℕ) (a o : Answer) : Type 0 where
    of_zone : is_of site zone o.point ≡ true
    counts : counted o ≡ true
    apart : not (o.point == a.point) ≡ true
    after : floor_before site zone a.stamp.0 done < o.stamp.0
    before : o.stamp.0 ≤ a.stamp.0

  second_from : (zone : ℕ) (a o : Answer) → is_second site kept done zone a o ≡ true → Second zone a o
  second_from zone a o h =
      let both = and_both ((is_of site zone o.point && counted o) && not (o.point == a.point)) _ h in
      let left = and_both (is_of site zone o.point && counted o) _ both.0 in
      let own = and_both (is_of site zone o.point) (counted o) left.0 in
      let right = and_both (nat_lt (floor_before site zone a.stamp.0 done) o.stamp.0) _ both.1 in
      record { of_zone = own.0; counts = own.1; apart = left.1; after = lt_is _ _ right.0; before = le_is _ _ right.1 }

  from_second : (zone : ℕ) (a o : Answer) → Second zone a o → is_second site kept done zone a o ≡ true
  from_second zone a o s =
      both_and _ _ (both_and _ _ (both_and _ _ s.of_zone s.counts) s.apart) (both_and _ _ (lt_true _ _ s.after) (le_true _ _ s.before))

  -- no floor before a stamp lies at it
  floor_lies : (zone x low : ℕ) → low < x → floor_before site zone x done < x
  floor_lies zone x low less = elim (floor_below site zone x done) [ inl below ↦ below | inr none ↦ omega (arith, less, none) ]

  cancel_lies : (zone x low : ℕ) → low < x → cancelled_before zone x done < x
  cancel_lies zone x low less = elim (latest_below (cancels zone) x done) [ inl below ↦ below | inr none ↦ omega (arith, less, none) ]

  turn_second : (one other : ℕ) (a o : Answer) → a.stamp.0 ≡ o.stamp.0 → counted a ≡ true → is_of site one a.point ≡ true → Second other a o
      → Second one o a
  turn_second one other a o same counts of s =
      let here = floor_lies one o.stamp.0 (floor_before site other a.stamp.0 done) s.after in
      record {
        of_zone = of;
        counts = counts;
        apart = swapped a.point o.point s.apart;
        after = omega (arith, here, same);
        before =
            omega (arith, same);
      }

  pub pairing_second : IsPairing counted (λ zone a o. is_second site kept done zone a o)
  pairing_second = record {
    of_zone = λ zone a o h. (second_from zone a o h).of_zone;
    fits_too = λ zone a o fit h. (second_from zone a o h).counts;
    before = λ zone a o h. (second_from zone a o h).before;
    another = λ zone a o h. not_same o.point a.point (second_from zone a o h).apart;
    turned = λ one other a o same fit of h. from_second one o a (turn_second one other a o same fit of (second_from other a o h));
  }

  abbrev pub detected : Answer → Bool
  detected a = counted a && is_detector site a.point

  near_from : (within zone : ℕ) (a o : Answer) → is_near site kept done within zone a o ≡ true → Second zone a o × (is_detector site o.point ≡ true)
  near_from within zone a o h =
      let both = and_both (is_second site kept done zone a o && is_detector site o.point) _ h in
      let left = and_both (is_second site kept done zone a o) _ both.0 in
      (second_from zone a o left.0, left.1)

  from_near : (within zone : ℕ) (a o : Answer) → Second zone a o → is_detector site o.point ≡ true → a.stamp.0 ≤ o.stamp.0
      → is_near site kept done within zone a o ≡ true
  from_near within zone a o s detector le = both_and _ _ (both_and _ _ (from_second zone a o s) detector) (le_true _ _ (omega (arith, le)))

  pub pairing_near : (within : ℕ) → IsPairing detected (λ zone a o. is_near site kept done within zone a o)
  pairing_near within = record {
    of_zone = λ zone a o h. (near_from within zone a o h).0.of_zone;
    fits_too = λ zone a o fit h. both_and _ _ (near_from within zone a o h).0.counts (near_from within zone a o h).1;
    before = λ zone a o h. (near_from within zone a o h).0.before;
    another = λ zone a o h. not_same o.point a.point (near_from within zone a o h).0.apart;
    turned = λ one other a o same fit of h.
        let own = and_both (counted a) (is_detector site a.point) fit in
        from_near within one o a (turn_second one other a o same own.0 of (near_from within other a o h).0) own.1 (omega (arith, same));
  }

  pub pairing_uncancelled : (within : ℕ) → IsPairing detected (λ zone a o. is_uncancelled site kept done within zone a o)
  pairing_uncancelled within = record {
    of_zone = λ zone a o h. (near_from within zone a o (and_both _ _ h).0).0.of_zone;
    fits_too =
        λ zone a o fit h. both_and _ _ (near_from within zone a o (and_both _ _ h).0).0.counts (near_from within zone a o (and_both _ _ h).0).1;
    before = λ zone a o h. (near_from within zone a o (and_both _ _ h).0).0.before;
    another = λ zone a o h. not_same o.point a.point (near_from within zone a o (and_both _ _ h).0).0.apart;
    turned = λ one other a o same fit of h.
        let own = and_both (counted a) (is_detector site a.point) fit in
        let s = (near_from within other a o (and_both _ _ h).0).0 in
        let here = cancel_lies one o.stamp.0 (floor_before site other a.stamp.0 done) s.after in
        both_and _ _ (from_near within one o a (turn_second one other a o same own.0 of s) own.1 (omega (arith, same)))
        (lt_true _ _ (omega (arith, here, same)));
  }
