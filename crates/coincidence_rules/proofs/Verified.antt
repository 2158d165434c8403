-- What the run of a point's answers tells is what the rule for one detector asks.
use Rattle.std.proofs.Common.{◌≡◌, ◌⊎◌, inl, inr, ℕ, suc, ◌+◌, ◌<◌, ◌≤◌, Bool, true, false, not, List, [], ◌∷◌, ◌++◌}
use Rattle.std.proofs.Common.{length, Some, None, slice_get, ◌==◌, ◌&&◌, ◌||◌, nat_lt, nat_le, if◌then◌else◌, refl}
use Rattle.std.proofs.Common.{sym, ◌∙◌, ap, subst, arith, append_assoc}
use Rattle.std.specs.List.{list_any, list_all}
use Rattle.std.proofs.lemmas.Bool.{eqb-true}
use Rattle.std.proofs.lemmas.Bool.Decides.{nat_tests}
use Rattle.std.proofs.lemmas.List.Folds.{list_all-append}
use Rattle.site_types.specs.declared.site.Site.{Site}
use Rattle.site_types.specs.declared.answer.Answer.{Answer}
use Rattle.site_types.specs.declared.retained.Retained.{Retained}
use Rattle.site_types.specs.Done.{Done, floor_before}
use Rattle.site_types.proofs.Done.{lt_tells, floor_up, floor_between}
use Rattle.coincidence_rules.specs.Counted.{is_counted}
use Rattle.coincidence_rules.specs.Confirmed.{is_between, is_first_of_run, counts_throughout, is_verified}
use Rattle.coincidence_rules.specs.Kept.{run_of, is_long}
use Rattle.coincidence_rules.specs.InOrder.{AreInOrder}
use Rattle.coincidence_rules.proofs.Lists.{and_both, place_all, get_left, get_right, get_small}
use Rattle.coincidence_rules.proofs.Latest.{ordered}
use Rattle.coincidence_rules.proofs.Seconds.{AreUpTo}
use Rattle.coincidence_rules.proofs.Runs.{IsFloor, lasts, begins, run_begins}

le_true : (a b : ℕ) → a ≤ b → nat_le a b ≡ true
le_true a b h = grind (arith, nat_tests)

module _ (site : Site) (kept : Retained) (done : List Done) (verify zone : ℕ) (answer : Answer) where
  abbrev floor : ℕ → ℕ
  floor x = floor_before site zone x done

  is_floor : IsFloor floor
  is_floor = record { up = λ x y le. floor_up site zone x y done le; between = λ x y le. floor_between site zone x y done le }

  abbrev last : ℕ
  last = answer.stamp.0

  abbrev point : ℕ
  point = answer.point

  abbrev counted : Answer → Bool
  counted = is_counted site kept done

  -- the test that each answer passes where all from a stamp on count
  abbrev through : ℕ → Answer → Bool
  through first other = not (is_between point first last other) || counted other

  by_tests : (p f l c : Bool) {r s : Bool} → f ≡ true → l ≡ true → r ≡ s → ((not (p && (f && l)) || c) && r) ≡ (if p then c && s else s)
  by_tests true true true c e g h = ap (λ b. c && b) h
  by_tests false f l c e g h = h
  by_tests true false l c e g h = cc
  by_tests true true false c e g h = cc

  -- behind an answer, all from its stamp on are all
  behind_is : (first : ℕ) (xs : List Answer) → ((k : ℕ) (a : Answer) → slice_get xs k ≡ Some a → (first ≤ a.stamp.0) × (a.stamp.0 ≤ last))
      → list_all (through first) xs ≡ lasts counted floor is_floor point verify last xs
  behind_is first [] h = refl
  behind_is first (x ∷ xs) h =
      by_tests (x.point == point) (nat_le first x.stamp.0) (nat_le x.stamp.0 last) (counted x) (le_true first x.stamp.0 (h 0 x refl).0)
      (le_true x.stamp.0 last (h 0 x refl).1) (behind_is first xs (λ k a at. h (suc k) a at))

  passes : (p f l c : Bool) → (p ≡ false) ⊎ (f ≡ false) → (not (p && (f && l)) || c) ≡ true
  passes false f l c h = refl
  passes true false l c h = refl
  passes true true l c (inl h) = cc
  passes true true l c (inr h) = cc

  -- those before it don't matter
  before_is : (all before xs : List Answer) (a : Answer) → all ≡ before ++ a ∷ xs → AreInOrder all → a.point ≡ point
      → list_all (through a.stamp.0) before ≡ true
  before_is all before xs a e order same =
      place_all (through a.stamp.0) before (λ k o at. passes (o.point == point) (nat_le a.stamp.0 o.stamp.0) (nat_le o.stamp.0 last) (counted o)
      (apart k o at (o.point == point) refl (lt_tells o.stamp.0 a.stamp.0)))
    where
      here : slice_get all (length before + 0) ≡ Some a
      here = subst (λ l. slice_get l (length before + 0) ≡ Some a) (sym e) (get_right before (a ∷ xs) 0 a refl)

      there : (k : ℕ) (o : Answer) → slice_get before k ≡ Some o → slice_get all k ≡ Some o
      there k o at = subst (λ l. slice_get l k ≡ Some o) (sym e) (get_left before (a ∷ xs) k o at)

      not_le : (x y : ℕ) → x < y → nat_le y x ≡ false
      not_le x y h = grind (arith, nat_tests)

      apart : (k : ℕ) (o : Answer) → slice_get before k ≡ Some o → (p : Bool) → (o.point == point) ≡ p
          → ((nat_lt o.stamp.0 a.stamp.0 ≡ true) × (o.stamp.0 < a.stamp.0)) ⊎ ((nat_lt o.stamp.0 a.stamp.0 ≡ false) × (a.stamp.0 ≤ o.stamp.0))
          → (p ≡ false) ⊎ (nat_le a.stamp.0 o.stamp.0 ≡ false)
      apart k o at false q h = inl refl
      apart k o at true q (inl less) = inr (not_le o.stamp.0 a.stamp.0 less.1)
      apart k o at true q (inr more) =
          let small = get_small before k o at in
          let le = order.rising k (length before + 0) o a (omega (arith, small)) (there k o at) here in
          let one = order.once k (length before + 0) o a (there k o at) here (eqb-true o.point point q ∙ sym same) (omega (arith, le, more.1)) in
          absurd (omega (arith, one, small))

  and_when : (b : Bool) {r s : Bool} → (b ≡ true → r ≡ s) → (b && r) ≡ (b && s)
  and_when true h = h refl
  and_when false h = refl

  front_true : {f t r s : Bool} → f ≡ true → t ≡ true → r ≡ s → s ≡ (f && (t && r))
  front_true {f} {t} {r} {s} e g h = sym (ap (λ b. b && (t && r)) e ∙ ap (λ b. b && r) g ∙ h)

  counts_here : (b c : Bool) → c ≡ true → (not b || c) ≡ true
  counts_here true c h = h
  counts_here false c h = refl

  -- an answer of the point that counts: all from its stamp on count where those behind it do
  throughout_is : (all before xs : List Answer) (a : Answer) → all ≡ before ++ a ∷ xs → AreInOrder all → AreUpTo last all → a.point ≡ point
      → counted a ≡ true
      → lasts counted floor is_floor point verify last xs ≡ counts_throughout site kept done all point a.stamp.0 last
  throughout_is all before xs a e order late same counts =
      front_true (before_is all before xs a e order same) (counts_here (is_between point a.stamp.0 last a) (counted a) counts)
      (behind_is a.stamp.0 xs behind)
      ∙ sym (list_all-append (through a.stamp.0) before (a ∷ xs)) ∙ ap (list_all (through a.stamp.0)) (sym e)
    where
      at : (k : ℕ) (o : Answer) → slice_get (a ∷ xs) k ≡ Some o → slice_get all (length before + k) ≡ Some o
      at k o h = subst (λ l. slice_get l (length before + k) ≡ Some o) (sym e) (get_right before (a ∷ xs) k o h)

      behind : (k : ℕ) (o : Answer) → slice_get xs k ≡ Some o → (a.stamp.0 ≤ o.stamp.0) × (o.stamp.0 ≤ last)
      behind k o h = (
        order.rising (length before + 0) (length before + suc k) a o (omega arith) (at 0 a refl) (at (suc k) o h),
        late (length before + suc k) o (at (suc k) o h),
      )

  abbrev is_first : List Answer → Answer → Bool
  is_first all first = is_first_of_run site kept done verify zone answer first
      && counts_throughout site kept done all answer.point first.stamp.0 answer.stamp.0

  begins_is : (all before xs : List Answer) → all ≡ before ++ xs → AreInOrder all → AreUpTo last all
      → begins counted floor is_floor point verify last xs ≡ list_any (is_first all) xs
  begins_is all before [] e order late = refl
  begins_is all before (a ∷ xs) e order late =
      ap (λ b. b || begins counted floor is_floor point verify last xs)
      (and_when (is_first_of_run site kept done verify zone answer a)
      (λ h. let both = and_both ((a.point == point) && counted a) _ h in let own = and_both (a.point == point) (counted a) both.0 in
      throughout_is all before xs a e order late (eqb-true a.point point own.0) own.1))
      ∙ ap (λ b. is_first all a || b) (begins_is all (before ++ a ∷ []) xs (rw append_assoc e) order late)

  pub verified_by_run : (taken : List Answer) → AreInOrder taken → AreUpTo answer.stamp.0 taken
      → is_verified site kept done taken verify zone answer ≡ is_long verify (floor_before site zone answer.stamp.0 done) answer.stamp.0
      (run_of (is_counted site kept done) (λ x. floor_before site zone x done) answer.point None taken)
  verified_by_run taken order late =
      sym (begins_is taken [] taken refl order late) ∙ run_begins counted floor is_floor point verify last taken
      (ordered 0 last taken (omega arith) order (λ k a at. (omega arith, late k a at)))
