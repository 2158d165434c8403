-- One more tick changes nothing of which zones were given a cause in the ticks before it.
use Rattle.std.proofs.Common.{◌≡◌, ℕ, suc, ◌+◌, ◌<◌, ◌==◌, ◌&&◌, ◌||◌, not, Bool, true, false, List, [], ◌∷◌, ◌++◌, Option, Some, None, slice_get, inl, inr, refl, ◌∙◌, ap}
use Rattle.std.proofs.Common.{append-nil, append_assoc, arith, subst, sym}
use Rattle.std.specs.Prelude.{nat_le, nat_lt}
use Rattle.std.specs.List.{list_all, list_any}
use Rattle.std.proofs.lemmas.Bool.{eqb-true, ne_eqb}
use Rattle.std.proofs.lemmas.Bool.Decides.{eqb_tells}
use Rattle.tick_units.specs.declared.task.Task.TheVariants.{Poll}
use Rattle.site_types.specs.declared.answer.Answer.{Answer}
use Rattle.site_types.specs.declared.retained.Retained.{Retained}
use Rattle.site_types.specs.declared.rule.Rule.{Rule}
use Rattle.site_types.specs.declared.rule.Rule.TheVariants.{Plain, A, B, C}
use Rattle.site_types.specs.declared.site.Site.{Site}
use Rattle.site_types.specs.Done.{Done, floor_before}
use Rattle.coincidence_rules.specs.Confirmed.{coincides, confirms, counts_throughout, is_between, is_by_call_point, is_first_of_run, is_near, is_second, is_uncancelled, is_verified}
use Rattle.coincidence_rules.specs.Counted.{is_counted}
use Rattle.coincidence_rules.specs.Places.{is_detector, is_of, rule_of}
use Rattle.coincidence_rules.proofs.Lists.{any_same}
use Rattle.panel_rules.specs.Answers.{answers, asked}
use Rattle.panel_rules.specs.Moments.{Moment, Began, Happened, Turned, Kept, TickBlock, moments, tick_of}
use Rattle.panel_rules.proofs.Asked.{asked_now}
use Rattle.panel_rules.proofs.Floors.{le_from}
use Rattle.panel_rules.proofs.Places.{get_either}
use Rattle.panel_rules.proofs.Ticks.{at_beginning, tick_begins}
use Rattle.caused_zones.proofs.Confirming.{same_pairs}

-- the answers of a tick come behind those of the ticks before
pub record ComeBehind (front whole : List Answer) (tick : ℕ) : Type 0 where
  pub more : List Answer
  pub is : whole ≡ front ++ more
  pub stamps : (k : ℕ) (a : Answer) → slice_get more k ≡ Some a → a.stamp.0 ≡ tick

nothing_more : (front : List Answer) (tick : ℕ) → ComeBehind front front tick
nothing_more front tick = record { more = []; is = sym (append-nil front); stamps = λ k a h. absurd cc }

more_behind : (front whole more : List Answer) (tick : ℕ) → ComeBehind front whole tick
    → ((k : ℕ) (a : Answer) → slice_get more k ≡ Some a → a.stamp.0 ≡ tick) → ComeBehind front (whole ++ more) tick
more_behind front whole more tick come stamps = record {
  more = come.more ++ more;
  is = ap (λ xs. xs ++ more) come.is ∙ append_assoc front come.more more;
  stamps = λ k a h. elim (get_either come.more more k a h) [ inl g ↦ come.stamps k a g | inr g ↦ stamps g.place a g.is ];
}

tick_answers : (site : Site) (panel : ℕ) (before : List Moment)
    → ComeBehind (answers site panel (at_beginning before)) (answers site panel before) (tick_of before)
tick_answers site panel [] = nothing_more [] 0
tick_answers site panel (Began ∷ before) = nothing_more (answers site panel before) (tick_of before + 1)
tick_answers site panel (Happened event ∷ before) = tick_answers site panel before
tick_answers site panel (Turned other Poll ∷ before) =
    elim (eqb_tells other panel) [
      | inl t ↦
          rw t.0 (more_behind (answers site panel (at_beginning before)) (answers site panel before) (asked site panel before) (tick_of before)
          (tick_answers site panel before) (λ k a h. asked_now site panel before k a h))
      | inr t ↦ rw t.0 (tick_answers site panel before)
    ]
tick_answers site panel (Turned other task ∷ before) = tick_answers site panel before
tick_answers site panel (Kept failed ∷ before) = tick_answers site panel before

pub block_answers : (site : Site) (panel : ℕ) (tick : TickBlock) (ticks : List TickBlock)
    → ComeBehind (answers site panel (moments ticks)) (answers site panel (moments (tick ∷ ticks))) (tick_of (moments (tick ∷ ticks)))
block_answers site panel tick ticks =
    subst (λ m. ComeBehind (answers site panel m) (answers site panel (moments (tick ∷ ticks))) (tick_of (moments (tick ∷ ticks))))
    (tick_begins tick ticks) (tick_answers site panel (moments (tick ∷ ticks)))

-- tests that no answer of a list passes
any_front : (test : Answer → Bool) (xs more : List Answer) → ((k : ℕ) (a : Answer) → slice_get more k ≡ Some a → test a ≡ false)
    → list_any test (xs ++ more) ≡ list_any test xs
any_front test [] [] none = refl
any_front test [] (y ∷ more) none =
    ap (λ b. b || list_any test more) (none 0 y refl) ∙ any_front test [] more (λ k a h. none (suc k) a h)
any_front test (x ∷ xs) more none = ap (λ b. test x || b) (any_front test xs more none)

all_front : (test : Answer → Bool) (xs more : List Answer) → ((k : ℕ) (a : Answer) → slice_get more k ≡ Some a → test a ≡ true)
    → list_all test (xs ++ more) ≡ list_all test xs
all_front test [] [] each = refl
all_front test [] (y ∷ more) each =
    ap (λ b. b && list_all test more) (each 0 y refl) ∙ all_front test [] more (λ k a h. each (suc k) a h)
all_front test (x ∷ xs) more each = ap (λ b. test x && b) (all_front test xs more each)

late_le : (a b : ℕ) → b < a → nat_le a b ≡ false
late_le a b l = go (nat_le a b) refl
  where
    go : (x : Bool) → nat_le a b ≡ x → nat_le a b ≡ false
    go false e = e
    go true e = absurd (let h = le_from a b e in omega (arith, h, l))

and_last : (a b : Bool) → b ≡ false → (a && b) ≡ false
and_last true b h = h
and_last false b h = refl

and_first : (a b : Bool) → a ≡ false → (a && b) ≡ false
and_first false b h = refl
and_first true b h = absurd cc

not_and : (a b : Bool) → a ≡ false → (not a || b) ≡ true
not_and false b h = refl
not_and true b h = absurd cc

module _ (site : Site) (kept : Retained) (done : List Done) (xs more : List Answer) (a : Answer)
    (late : (k : ℕ) (b : Answer) → slice_get more k ≡ Some b → a.stamp.0 < b.stamp.0) where
  second_front : (zone k : ℕ) (b : Answer) → slice_get more k ≡ Some b → is_second site kept done zone a b ≡ false
  second_front zone k b h =
      and_last _ _ (and_last (nat_lt (floor_before site zone a.stamp.0 done) b.stamp.0) (nat_le b.stamp.0 a.stamp.0)
      (late_le b.stamp.0 a.stamp.0 (late k b h)))

  near_front : (within zone k : ℕ) (b : Answer) → slice_get more k ≡ Some b → is_near site kept done within zone a b ≡ false
  near_front within zone k b h = and_first _ _ (and_first _ _ (second_front zone k b h))

  uncancelled_front : (within zone k : ℕ) (b : Answer) → slice_get more k ≡ Some b → is_uncancelled site kept done within zone a b ≡ false
  uncancelled_front within zone k b h = and_first _ _ (near_front within zone k b h)

  throughout_front : (point first : ℕ) → counts_throughout site kept done (xs ++ more) point first a.stamp.0
      ≡ counts_throughout site kept done xs point first a.stamp.0
  throughout_front point first =
      all_front (λ other. not (is_between point first a.stamp.0 other) || is_counted site kept done other) xs more
      (λ k b h. not_and (is_between point first a.stamp.0 b) (is_counted site kept done b)
      (and_last _ _ (and_last (nat_le first b.stamp.0) (nat_le b.stamp.0 a.stamp.0) (late_le b.stamp.0 a.stamp.0 (late k b h)))))

  verified_front : (verify zone : ℕ) → is_verified site kept done (xs ++ more) verify zone a ≡ is_verified site kept done xs verify zone a
  verified_front verify zone =
      any_front (λ first. is_first_of_run site kept done verify zone a first
      && counts_throughout site kept done (xs ++ more) a.point first.stamp.0 a.stamp.0) xs more
      (λ k b h. and_first _ _ (and_last _ _ (and_last (nat_lt (floor_before site zone a.stamp.0 done) b.stamp.0)
      (nat_le (b.stamp.0 + verify) a.stamp.0) (late_le (b.stamp.0 + verify) a.stamp.0 (let l = late k b h in omega (arith, l))))))
      ∙ any_same _ _ xs (λ k b h. ap (λ t. is_first_of_run site kept done verify zone a b && t) (throughout_front a.point b.stamp.0))

  coincides_front : (zone : ℕ) (rule : Option Rule) → coincides site kept done (xs ++ more) zone rule a ≡ coincides site kept done xs zone rule a
  coincides_front zone None = refl
  coincides_front zone (Some Plain) = refl
  coincides_front zone (Some (A verify within)) =
      ap (λ b. is_of site zone a.point && (b || list_any (is_near site kept done within zone a) (xs ++ more))) (verified_front verify zone)
      ∙ ap (λ b. is_of site zone a.point && (is_verified site kept done xs verify zone a || b))
      (any_front (is_near site kept done within zone a) xs more (near_front within zone))
  coincides_front zone (Some (B within)) =
      let one = λ (other : ℕ). any_front (is_uncancelled site kept done within other a) xs more (uncancelled_front within other) in
      same_pairs site zone a.point (λ other. list_any (is_uncancelled site kept done within other a) (xs ++ more))
      (λ other. list_any (is_uncancelled site kept done within other a) xs) (one zone) (λ other partner. one other)
  coincides_front zone (Some C) = refl

  pub confirms_front : (zone : ℕ) → confirms site kept done (xs ++ more) zone a ≡ confirms site kept done xs zone a
  confirms_front zone =
      ap (λ b. is_counted site kept done a && (is_by_call_point site zone a.point || (is_detector site a.point && b)))
      (coincides_front zone (rule_of (slice_get site.zones zone)))

-- the tests of a stamp that lies before those of the answers behind
module _ (tests : List Answer → Answer → Bool) (front whole : List Answer) (tick : ℕ) (come : ComeBehind front whole tick)
    (same : (a : Answer) → a.stamp.0 < tick → tests (front ++ come.more) a ≡ tests front a) where
  pub given_front : (stamp : ℕ) → stamp < tick
      → list_any (λ a. (a.stamp.0 == stamp) && tests whole a) whole ≡ list_any (λ a. (a.stamp.0 == stamp) && tests front a) front
  given_front stamp early =
      ap (λ xs. list_any (λ a. (a.stamp.0 == stamp) && tests xs a) xs) come.is
      ∙ any_front (λ a. (a.stamp.0 == stamp) && tests (front ++ come.more) a) front come.more
      (λ k a h. and_first (a.stamp.0 == stamp) _ (ne_eqb a.stamp.0 stamp (let s = come.stamps k a h in omega (arith, s, early))))
      ∙ any_same _ _ front (λ k a h. at_stamp a (a.stamp.0 == stamp) refl)
    where
      at_stamp : (a : Answer) (b : Bool) → (a.stamp.0 == stamp) ≡ b → (b && tests (front ++ come.more) a) ≡ (b && tests front a)
      at_stamp a false e = refl
      at_stamp a true e = same a (let s = eqb-true a.stamp.0 stamp e in omega (arith, s, early))
