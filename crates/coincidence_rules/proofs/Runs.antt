-- A run's beginning is all that is to be kept of a point's own answers.
use Rattle.std.proofs.Common.{◌≡◌, ◌⊎◌, inl, inr, ℕ, ◌+◌, ◌<◌, ◌≤◌, Bool, true, false, List, [], ◌∷◌, Option, Some, None, ◌==◌, ◌&&◌, ◌||◌, nat_lt, nat_le, if◌then◌else◌, refl, sym, ◌∙◌, ap, arith}
use Rattle.std.proofs.lemmas.Bool.Decides.{nat_tests}
use Rattle.tick_units.specs.declared.tick.Tick.{Tick}
use Rattle.site_types.specs.declared.answer.Answer.{Answer}
use Rattle.site_types.proofs.Done.{lt_tells}
use Rattle.coincidence_rules.specs.Kept.{run_then, run_of, is_long}
use Rattle.coincidence_rules.proofs.Latest.{AreOrdered, IsBy, by_later, ordered_last}

-- a floor by stamps: it rises, and one that is seen at a later stamp alone lies at or after the earlier one
pub record IsFloor (floor : ℕ → ℕ) : Type 0 where
  pub up : (x y : ℕ) → x ≤ y → floor x ≤ floor y
  pub between : (x y : ℕ) → x ≤ y → (floor y ≤ floor x) ⊎ (x ≤ floor y)

module _ (counted : Answer → Bool) (floor : ℕ → ℕ) (is_floor : IsFloor floor) (point : ℕ) (verify last : ℕ) where
  -- every answer of the point counts
  abbrev pub lasts : List Answer → Bool
  lasts [] = true
  lasts (answer ∷ answers) = if answer.point == point then counted answer && lasts answers else lasts answers

  -- a stamp lies after the floor, and long enough before the last one
  abbrev pub is_long_at : ℕ → Bool
  is_long_at first = nat_lt (floor last) first && nat_le (first + verify) last

  -- one of the answers begins a run that is long enough
  abbrev pub begins : List Answer → Bool
  begins [] = false
  begins (answer ∷ answers) = ((((answer.point == point) && counted answer) && is_long_at answer.stamp.0) && lasts answers) || begins answers

  abbrev run : Option Tick → List Answer → Option Tick
  run first answers = run_of counted floor point first answers

  abbrev long : Option Tick → Bool
  long first = is_long verify (floor last) last first

  -- what is long from an answer is long from the run that it goes on with
  long_before : (first stamp : ℕ) → first ≤ stamp → stamp ≤ last → floor stamp < first → is_long_at stamp ≡ true → is_long_at first ≡ true
  long_before first stamp le within after h =
      elim (is_floor.between stamp last within) [
        | inl same ↦ grind (arith, nat_tests, le, within, after, h, same)
        | inr moved ↦ grind (arith, nat_tests, le, within, after, h, moved)
      ]

  long_not : (first stamp : ℕ) → stamp ≤ last → first ≤ floor stamp → is_long_at first ≡ false
  long_not first stamp within before = let up = is_floor.up stamp last within in grind (arith, nat_tests, within, before, up)

  goes_on : (l y a n : Bool) → (a ≡ true → y ≡ true) → ((l && y) || ((a && l) || n)) ≡ ((l && y) || n)
  goes_on true true a n h = refl
  goes_on true false true n h = cc (h refl)
  goes_on true false false n h = refl
  goes_on false y true n h = refl
  goes_on false y false n h = refl

  anew : (l y a n : Bool) → y ≡ false → ((l && y) || ((a && l) || n)) ≡ ((l && a) || n)
  anew l y a n h = grind arith

  cut : (l n : Bool) → ((l && false) || n) ≡ n
  cut true n = refl
  cut false n = refl

  base : (b : Bool) → (b || false) ≡ b
  base true = refl
  base false = refl

  -- one answer more, by what its tests give
  step : (p c l y a n : Bool) (f : Option Tick → Bool) (first next : Option Tick) → ((l && y) || n) ≡ f first → n ≡ f None
      → ((l && y) || ((a && l) || n)) ≡ f next
      → (((if p then c && l else l) && y) || ((((p && c) && a) && l) || n)) ≡ f (if p then (if c then next else None) else first)
  step false c l y a n f first next other quiet counts = other
  step true false l y a n f first next other quiet counts = quiet
  step true true l y a n f first next other quiet counts = counts

  -- a counted answer: the run goes on, or begins anew
  counts_more : (from : ℕ) (x : Answer) (xs : List Answer) → from ≤ x.stamp.0 → x.stamp.0 ≤ last
      → ((next : Option Tick) → IsBy next x.stamp.0 → ((lasts xs && long next) || begins xs) ≡ long (run next xs))
      → (first : Option Tick) → IsBy first from
      → ((lasts xs && long first) || ((is_long_at x.stamp.0 && lasts xs) || begins xs))
      ≡ long (run (run_then true (floor x.stamp.0) x.stamp first) xs)
  counts_more from x xs le within rest None b = anew (lasts xs) false (is_long_at x.stamp.0) (begins xs) refl ∙ rest (Some x.stamp) (omega arith)
  counts_more from x xs le within rest (Some y) b = elim (lt_tells (floor x.stamp.0) y.0) [
    | inl after ↦
        rw after.0
        (goes_on (lasts xs) (is_long_at y.0) (is_long_at x.stamp.0) (begins xs) (long_before y.0 x.stamp.0 (omega (arith, b, le)) within after.1) ∙
        rest (Some y) (omega (arith, b, le)))
    | inr before ↦
        rw before.0 (anew (lasts xs) (is_long_at y.0) (is_long_at x.stamp.0) (begins xs) (long_not y.0 x.stamp.0 within before.1) ∙ rest
        (Some x.stamp) (omega arith))
  ]

  then_counts : (c : Bool) (stamp : Tick) (first : Option Tick)
      → (if c then run_then true (floor stamp.0) stamp first else None) ≡ run_then c (floor stamp.0) stamp first
  then_counts true stamp first = refl
  then_counts false stamp first = refl

  runs : (from : ℕ) (first : Option Tick) (answers : List Answer) → IsBy first from → AreOrdered from last answers
      → ((lasts answers && long first) || begins answers) ≡ long (run first answers)
  runs from first [] by' order = base (long first)
  runs from first (x ∷ xs) by' order =
      step (x.point == point) (counted x) (lasts xs) (long first) (is_long_at x.stamp.0) (begins xs) (λ o. long (run o xs)) first
      (run_then true (floor x.stamp.0) x.stamp first)
      (runs x.stamp.0 first xs (by_later first from x.stamp.0 order.0 by') order.1)
      (sym (cut (lasts xs) (begins xs)) ∙ runs x.stamp.0 None xs tt order.1)
      (counts_more from x xs order.0 (ordered_last x.stamp.0 last xs order.1) (λ next b. runs x.stamp.0 next xs b order.1) first by')
      ∙ ap (λ o. long (run (if x.point == point then o else first) xs)) (then_counts (counted x) x.stamp first)

  -- a run that is long enough began with one of the answers
  pub run_begins : (answers : List Answer) → AreOrdered 0 last answers → begins answers ≡ long (run None answers)
  run_begins answers order = sym (cut (lasts answers) (begins answers)) ∙ runs 0 None answers tt order
