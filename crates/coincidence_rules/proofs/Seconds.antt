-- The latest answer of another point tells whether there is a second one, of each type of zone.
use Rattle.std.proofs.Common.{◌≡◌, ℕ, ◌+◌, ◌≤◌, max, Bool, true, not, List, Some, None, slice_get, is_some, ◌==◌, ◌&&◌, nat_lt, nat_le, ◌∙◌, ap, arith}
use Rattle.std.specs.List.{list_any}
use Rattle.std.proofs.lemmas.Bool.Decides.{nat_tests}
use Rattle.site_types.specs.declared.site.Site.{Site}
use Rattle.site_types.specs.declared.answer.Answer.{Answer}
use Rattle.site_types.specs.declared.rule.Rule.TheVariants.{A, B, C}
use Rattle.site_types.specs.declared.retained.Retained.{Retained}
use Rattle.site_types.specs.Done.{Done, floor_before, cancelled_before}
use Rattle.coincidence_rules.specs.Places.{is_of, is_detector}
use Rattle.coincidence_rules.specs.Counted.{is_counted}
use Rattle.coincidence_rules.specs.Confirmed.{is_second, is_near, is_uncancelled}
use Rattle.coincidence_rules.specs.Kept.{may_pair, second_of, is_within}
use Rattle.coincidence_rules.specs.InOrder.{AreInOrder}
use Rattle.coincidence_rules.proofs.Lists.{any_same}
use Rattle.coincidence_rules.proofs.Latest.{AreOrdered, ordered, Rises, latest_tells, within_after, some_after}

-- none of the answers is later than this stamp
abbrev pub AreUpTo : ℕ → List Answer → Type 0
AreUpTo last answers = (k : ℕ) (a : Answer) → slice_get answers k ≡ Some a → a.stamp.0 ≤ last

up_to : (last : ℕ) (answers : List Answer) → AreInOrder answers → AreUpTo last answers → AreOrdered 0 last answers
up_to last answers order late = ordered 0 last answers (omega arith) order (λ k a at. (omega arith, late k a at))

le_true : (a b : ℕ) → a ≤ b → nat_le a b ≡ true
le_true a b h = grind (arith, nat_tests)

rises_near : (last tick within : ℕ) → Rises last (λ s. nat_lt tick s.0 && nat_le last (s.0 + within))
rises_near last tick within = record { up = λ x y le top h. go x.0 y.0 le h }
  where
    go : (x y : ℕ) → x ≤ y → (nat_lt tick x && nat_le last (x + within)) ≡ true → (nat_lt tick y && nat_le last (y + within)) ≡ true
    go x y le h = grind (arith, nat_tests, le, h)

rises_after : (last tick : ℕ) → Rises last (λ s. nat_lt tick s.0)
rises_after last tick = record { up = λ x y le top h. go x.0 y.0 le h }
  where
    go : (x y : ℕ) → x ≤ y → nat_lt tick x ≡ true → nat_lt tick y ≡ true
    go x y le h = grind (arith, nat_tests, le, h)

as_near : (o s c d f l w : Bool) → l ≡ true → (((o && (c && d)) && not s) && (f && w)) ≡ (((((o && c) && not s) && (f && l)) && d) && w)
as_near o s c d f l w h = grind arith

as_uncancelled : (o s c d f l w k : Bool) → l ≡ true
    → (((o && (c && d)) && not s) && ((f && k) && w)) ≡ ((((((o && c) && not s) && (f && l)) && d) && w) && k)
as_uncancelled o s c d f l w k h = grind arith

as_second : (o s c f l : Bool) → l ≡ true → (((o && (c && true)) && not s) && f) ≡ (((o && c) && not s) && (f && l))
as_second o s c f l h = grind arith

after_both : (f c s : ℕ) → nat_lt (max f c) s ≡ (nat_lt f s && nat_lt c s)
after_both f c s = grind (arith, nat_tests)

-- type A: another detector of the zone, near enough
pub near_by_second : (site : Site) (kept : Retained) (done : List Done) (taken : List Answer) (verify within zone : ℕ) (answer : Answer)
    → AreInOrder taken → AreUpTo answer.stamp.0 taken
    → is_within within answer.stamp.0 (second_of site kept done taken zone (A verify within) answer)
    ≡ list_any (is_near site kept done within zone answer) taken
near_by_second site kept done taken verify within zone answer order late =
    let x = answer.stamp.0 in
    let floor = floor_before site zone x done in
    within_after within x floor _
    ∙ latest_tells (may_pair site kept done zone (A verify within)) answer.point x 0 (λ s. nat_lt floor s.0 && nat_le x (s.0 + within)) None taken
    (rises_near x floor within) tt (up_to x taken order late)
    ∙ any_same _ _ taken (λ k a at. as_near (is_of site zone a.point) (a.point == answer.point) (is_counted site kept done a)
    (is_detector site a.point) (nat_lt floor a.stamp.0) (nat_le a.stamp.0 x) (nat_le x (a.stamp.0 + within)) (le_true a.stamp.0 x (late k a at)))

-- type B: the same, which no cancelling undid
pub uncancelled_by_second : (site : Site) (kept : Retained) (done : List Done) (taken : List Answer) (own within zone : ℕ) (answer : Answer)
    → AreInOrder taken → AreUpTo answer.stamp.0 taken
    → is_within within answer.stamp.0 (second_of site kept done taken zone (B own) answer)
    ≡ list_any (is_uncancelled site kept done within zone answer) taken
uncancelled_by_second site kept done taken own within zone answer order late =
    let x = answer.stamp.0 in
    let floor = floor_before site zone x done in
    let cancelled = cancelled_before zone x done in
    within_after within x (max floor cancelled) _
    ∙ latest_tells (may_pair site kept done zone (B own)) answer.point x 0 (λ s. nat_lt (max floor cancelled) s.0 && nat_le x (s.0 + within)) None
    taken (rises_near x (max floor cancelled) within) tt (up_to x taken order late)
    ∙ any_same _ _ taken (λ k a at.
    ap (λ b. may_pair site kept done zone (B own) a && not (a.point == answer.point) && (b && nat_le x (a.stamp.0 + within)))
    (after_both floor cancelled a.stamp.0)
    ∙ as_uncancelled (is_of site zone a.point) (a.point == answer.point) (is_counted site kept done a) (is_detector site a.point)
    (nat_lt floor a.stamp.0) (nat_le a.stamp.0 x) (nat_le x (a.stamp.0 + within)) (nat_lt cancelled a.stamp.0)
    (le_true a.stamp.0 x (late k a at)))

-- type C: another point of the zone, whenever it was
pub any_by_second : (site : Site) (kept : Retained) (done : List Done) (taken : List Answer) (zone : ℕ) (answer : Answer) → AreInOrder taken
    → AreUpTo answer.stamp.0 taken
    → is_some (second_of site kept done taken zone C answer) ≡ list_any (is_second site kept done zone answer) taken
any_by_second site kept done taken zone answer order late =
    let x = answer.stamp.0 in
    let floor = floor_before site zone x done in
    some_after floor _
    ∙ latest_tells (may_pair site kept done zone C) answer.point x 0 (λ s. nat_lt floor s.0) None taken (rises_after x floor) tt
    (up_to x taken order late)
    ∙ any_same _ _ taken (λ k a at. as_second (is_of site zone a.point) (a.point == answer.point) (is_counted site kept done a)
    (nat_lt floor a.stamp.0) (nat_le a.stamp.0 x) (le_true a.stamp.0 x (late k a at)))
