-- Lists whose items are changed one after another.
use Rattle.std.proofs.Common.{◌≡◌, ℕ, zero, suc, ◌+◌, ◌≤◌, ◌<◌, ◌||◌, Bool, true, false, List, length, get_or, inl, inr, refl, sym, ◌∙◌, ap, subst, arith, add-one}
use Rattle.std.proofs.Math.ListN.{set, length-set}
use Rattle.std.proofs.lemmas.List.{get_or-set_same, get_or-set_other}
use Rattle.std.proofs.lemmas.Bool.Decides.{leb_tells}
use Rattle.std.proofs.lemmas.Option.{get_or_from_slice_get, slice_get-get_or}
use Rattle.caused_zones.specs.declared.cause.Cause.{Cause}
use Rattle.caused_zones.specs.Causes.{cause_with}
use Rattle.caused_zones.specs.Marks.{AreEachAfter, passes_below}

-- an item doesn't depend on what is read past the end
pub one_item : {X : Type 0} (xs : List X) (place : ℕ) (one other : X) → place < length xs → get_or xs place other ≡ get_or xs place one
one_item xs place one other l = get_or_from_slice_get xs place (get_or xs place one) other (slice_get-get_or xs place one l)

-- those at so many first places are changed, the others aren't
pub record AreBelow {X : Type 0} (after : ℕ → X → X) (old new : List X) (count : ℕ) : Type 0 where
  pub size : length new ≡ length old
  pub each : (place : ℕ) (other : X) → place < count → place < length old → get_or new place other ≡ after place (get_or old place other)
  pub others : (place : ℕ) (other : X) → count ≤ place → get_or new place other ≡ get_or old place other

pub none_below : {X : Type 0} (after : ℕ → X → X) (old : List X) → AreBelow after old old 0
none_below after old = record { size = refl; each = λ place other l m. absurd (omega (arith, l)); others = λ place other l. refl }

pub all_below : {X : Type 0} (after : ℕ → X → X) (old new : List X) (count : ℕ) → AreBelow after old new count → length old ≤ count
    → AreEachAfter after old new
all_below after old new count are past =
    record { size = are.size; each = λ place other l. are.each place other (omega (arith, l, past)) l }

module _ {X : Type 0} (after : ℕ → X → X) (old new : List X) (count : ℕ) (are : AreBelow after old new count) (within : count < length old) where
  inside : count < length new
  inside = let s = are.size in omega (arith, within, s)

  was : (one other : X) → get_or new count one ≡ get_or old count other
  was one other = one_item new count other one inside ∙ are.others count other (omega arith)

  pub one_changed : (one value : X) → value ≡ after count (get_or new count one) → AreBelow after old (set new count value) (count + 1)
  one_changed one value is = record {
    size = length-set new count value ∙ are.size;
    each = λ place other l m. elim (leb_tells count place) [
      | inl h ↦ (let k = h.1 in here place other (omega (arith, k, l)))
      | inr h ↦ (let k = h.1 in
          get_or-set_other new count place value other (omega (arith, k)) ∙ are.each place other k m)
    ];
    others = λ place other l.
        get_or-set_other new count place value other (omega (arith, l)) ∙ are.others place other (omega (arith, l));
  }
    where
      here : (place : ℕ) (other : X) → place ≡ count → get_or (set new count value) place other ≡ after place (get_or old place other)
      here place other e =
          subst (λ p. get_or (set new count value) p other ≡ after p (get_or old p other)) (sym e)
          (get_or-set_same new count value other inside ∙ is ∙ ap (after count) (was one other))

  pub one_same : (one : X) → after count (get_or new count one) ≡ get_or new count one → AreBelow after old new (count + 1)
  one_same one is = record {
    size = are.size;
    each = λ place other l m. elim (leb_tells count place) [
      | inl h ↦ (let k = h.1 in here place other (omega (arith, k, l)))
      | inr h ↦ are.each place other h.1 m
    ];
    others = λ place other l. are.others place other (omega (arith, l));
  }
    where
      here : (place : ℕ) (other : X) → place ≡ count → get_or new place other ≡ after place (get_or old place other)
      here place other e =
          subst (λ p. get_or new p other ≡ after p (get_or old p other)) (sym e)
          (one_item new count one other inside ∙ sym is ∙ ap (after count) (was one other))

-- one change after another
pub each_then : {X : Type 0} (first second both : ℕ → X → X) (old mid new : List X) → AreEachAfter first old mid → AreEachAfter second mid new
    → ((place : ℕ) (x : X) → second place (first place x) ≡ both place x) → AreEachAfter both old new
each_then first second both old mid new one two is = record {
  size = two.size ∙ one.size;
  each = λ place other l. (
      let s = one.size in
      two.each place other (omega (arith, l, s)) ∙ ap (second place) (one.each place other l) ∙ is place (get_or old place other));
}

pub each_same : {X : Type 0} (after : ℕ → X → X) (old : List X) → ((place : ℕ) (x : X) → x ≡ after place x) → AreEachAfter after old old
each_same after old is = record { size = refl; each = λ place other l. is place (get_or old place other) }

pub each_by : {X : Type 0} (one other : ℕ → X → X) (old new : List X) → ((place : ℕ) (x : X) → one place x ≡ other place x)
    → AreEachAfter one old new → AreEachAfter other old new
each_by one other old new is are = record { size = are.size; each = λ place item l. are.each place item l ∙ is place (get_or old place item) }

pub with_either : (a b : Bool) (cause : Cause) → cause_with b (cause_with a cause) ≡ cause_with (a || b) cause
with_either true true cause = refl
with_either true false cause = refl
with_either false b cause = refl

-- one place more
pub below_more : (test : ℕ → Bool) (n : ℕ) → passes_below test (n + 1) ≡ (passes_below test n || test n)
below_more test n = ap (passes_below test) (add-one n)

pub below_here : (test : ℕ → Bool) (count place : ℕ) → place < count → test place ≡ true → passes_below test count ≡ true
below_here test zero place l t = absurd (omega (arith, l))
below_here test (suc count) place l t =
    elim (leb_tells count place) [
      | inl h ↦ (let k = h.1 in let e : place ≡ count = omega (arith, k, l) in right (passes_below test count) (test count) (ap test (sym e) ∙ t))
      | inr h ↦ left (passes_below test count) (test count) (below_here test count place h.1 t)
    ]
  where
    left : (a b : Bool) → a ≡ true → (a || b) ≡ true
    left true b e = refl
    left false b e = cc

    right : (a b : Bool) → b ≡ true → (a || b) ≡ true
    right true b e = refl
    right false b e = e

-- a place that passes
pub here_below : (test : ℕ → Bool) (count : ℕ) → passes_below test count ≡ true → (place : ℕ) × (place < count) × (test place ≡ true)
here_below test zero h = absurd cc
here_below test (suc count) h = go (test count) refl h (here_below test count)
  where
    drop_false : (a : Bool) → (a || false) ≡ true → a ≡ true
    drop_false true q = refl
    drop_false false q = cc

    go : (b : Bool) → test count ≡ b → (passes_below test count || b) ≡ true
        → (passes_below test count ≡ true → (place : ℕ) × (place < count) × (test place ≡ true)) → (place : ℕ) × (place < suc count) × (test place ≡ true)
    go true e g ih = (count, omega arith, e)
    go false e g ih = let r = ih (drop_false (passes_below test count) g) in (r.0, (let l = r.1 in omega (arith, l)), r.2)

pub not_below : (test : ℕ → Bool) (count : ℕ) → passes_below test count ≡ false → test count ≡ false → passes_below test (count + 1) ≡ false
not_below test count none here = below_more test count ∙ ap (λ b. b || test count) none ∙ here
