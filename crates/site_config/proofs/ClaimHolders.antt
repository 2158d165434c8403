-- What a name or a number stands for among claims of which none is made twice.
use Rattle.std.proofs.Common.{◌≡◌, ℕ, zero, suc, ◌+◌, List, [], ◌∷◌, ◌++◌, Bool, true, false, ◌||◌, Option, Some}
use Rattle.std.proofs.Common.{None, is_some, ◌⊎◌, inl, inr, refl, ap, sym, subst, ◌∙◌, arith, add-zero, if◌then◌else◌}
use Rattle.std.proofs.lemmas.Slice.Eq.{bytes_eq-Decides}
use Rattle.std.specs.Prelude.{slice_get}
use Rattle.std.specs.Str.{bytes_eq}
use Rattle.site_types.specs.declared.named.Thing.{Thing}
use Rattle.site_document.specs.Refusals.{twice}
use Rattle.site_config.specs.declared.claim.Claim.{Claim}
use Rattle.site_config.specs.Claims.{claims_from, first_twice, has_number, is_claimed, is_number_claimed, is_number_of, onto, thing_named}
use Rattle.site_config.proofs.ListsAlike.{inner}
use Rattle.site_config.proofs.CleanKeys.{none_first, none_later, not_failed}

-- the thing of the latest claim that passes the test
abbrev pub holder : (Claim → List ℕ → Bool) → List Claim → List ℕ → Option Thing
holder test [] q = None
holder test (c ∷ before) q = if test c q then Some c.thing else holder test before q

-- each claim is the first that passes the test for what it claims
abbrev pub Fresh : (Claim → List ℕ → Bool) → List Claim → List Claim → Type 0
Fresh test before [] = Unit {0}
Fresh test before (c ∷ rest) = ((q : List ℕ) → test c q ≡ true → is_some (holder test before q) ≡ false) × Fresh test (c ∷ before) rest

keep_one : (b : Bool) (x : Thing) (o : Option Thing) (t : Thing) → (b ≡ true → is_some o ≡ false) → o ≡ Some t → (if b then Some x else o) ≡ Some t
keep_one true x o t h e = absurd (cc (h refl, ap is_some e))
keep_one false x o t h e = e

kept : (test : Claim → List ℕ → Bool) (before cs : List Claim) (q : List ℕ) (t : Thing) → Fresh test before cs → holder test before q ≡ Some t
    → holder test (onto before cs) q ≡ Some t
kept test before [] q t fresh e = e
kept test before (c ∷ rest) q t fresh e =
    kept test (c ∷ before) rest q t fresh.1 (keep_one (test c q) c.thing (holder test before q) t (fresh.0 q) e)

abbrev pub IsIn : Claim → List Claim → Type 0
IsIn c [] = ⊥
IsIn c (x ∷ xs) = (c ≡ x) ⊎ IsIn c xs

picked : (b : Bool) (x : Thing) (o : Option Thing) → b ≡ true → (if b then Some x else o) ≡ Some x
picked true x o e = refl
picked false x o e = absurd (cc e)

here_held : (test : Claim → List ℕ → Bool) (before : List Claim) (c x : Claim) (q : List ℕ) → c ≡ x → test c q ≡ true
    → holder test (x ∷ before) q ≡ Some c.thing
here_held test before c x q same e =
    let P : Claim → Type 0 = λ y. holder test (y ∷ before) q ≡ Some c.thing in subst P same (picked (test c q) c.thing (holder test before q) e)

-- a claim holds what it passes the test for
pub held : (test : Claim → List ℕ → Bool) (before cs : List Claim) (c : Claim) (q : List ℕ) → Fresh test before cs → IsIn c cs → test c q ≡ true
    → holder test (onto before cs) q ≡ Some c.thing
held test before [] c q fresh is e = absurd is
held test before (x ∷ rest) c q fresh (inl same) e = kept test (x ∷ before) rest q c.thing fresh.1 (here_held test before c x q same e)
held test before (x ∷ rest) c q fresh (inr more) e = held test (x ∷ before) rest c q fresh.1 more e

-- what is held is a claim's
pub record IsHeld (test : Claim → List ℕ → Bool) (cs : List Claim) (q : List ℕ) (t : Thing) : Type 0 where
  pub claim : Claim
  pub made : IsIn claim cs
  pub passes : test claim q ≡ true
  pub holds : claim.thing ≡ t

one_of : (b : Bool) (x : Thing) (o : Option Thing) (t : Thing) → (if b then Some x else o) ≡ Some t → ((b ≡ true) × (x ≡ t)) ⊎ (o ≡ Some t)
one_of true x o t e = inl (refl, cc e)
one_of false x o t e = inr e

here_or_before : (test : Claim → List ℕ → Bool) (before rest : List Claim) (x : Claim) (q : List ℕ) (t : Thing)
    → ((test x q ≡ true) × (x.thing ≡ t)) ⊎ (holder test before q ≡ Some t) → (holder test before q ≡ Some t) ⊎ IsHeld test (x ∷ rest) q t
here_or_before test before rest x q t (inl (p, e)) = inr (record { claim = x; made = inl refl; passes = p; holds = e })
here_or_before test before rest x q t (inr e) = inl e

later_held : (test : Claim → List ℕ → Bool) (rest : List Claim) (x : Claim) (q : List ℕ) (t : Thing) → IsHeld test rest q t
    → IsHeld test (x ∷ rest) q t
later_held test rest x q t h = record { claim = h.claim; made = inr h.made; passes = h.passes; holds = h.holds }

either_way : (test : Claim → List ℕ → Bool) (before rest : List Claim) (x : Claim) (q : List ℕ) (t : Thing)
    → (holder test (x ∷ before) q ≡ Some t) ⊎ IsHeld test rest q t → (holder test before q ≡ Some t) ⊎ IsHeld test (x ∷ rest) q t
either_way test before rest x q t (inl e) = here_or_before test before rest x q t (one_of (test x q) x.thing (holder test before q) t e)
either_way test before rest x q t (inr h) = inr (later_held test rest x q t h)

holder_of : (test : Claim → List ℕ → Bool) (before cs : List Claim) (q : List ℕ) (t : Thing) → holder test (onto before cs) q ≡ Some t
    → (holder test before q ≡ Some t) ⊎ IsHeld test cs q t
holder_of test before [] q t e = inl e
holder_of test before (x ∷ rest) q t e = either_way test before rest x q t (holder_of test (x ∷ before) rest q t e)

from_none : (test : Claim → List ℕ → Bool) (cs : List Claim) (q : List ℕ) (t : Thing) → (None ≡ Some t) ⊎ IsHeld test cs q t → IsHeld test cs q t
from_none test cs q t (inl e) = absurd (cc e)
from_none test cs q t (inr h) = h

pub is_held : (test : Claim → List ℕ → Bool) (cs : List Claim) (q : List ℕ) (t : Thing) → holder test (onto [] cs) q ≡ Some t → IsHeld test cs q t
is_held test cs q t e = from_none test cs q t (holder_of test [] cs q t e)

-- ---- names

abbrev pub name_test : Claim → List ℕ → Bool
name_test c q = bytes_eq c.name q

pub named_holder : (cs : List Claim) (q : List ℕ) → thing_named cs q ≡ holder name_test cs q
named_holder [] q = refl
named_holder (c ∷ cs) q = ap (λ o. if bytes_eq c.name q then Some c.thing else o) (named_holder cs q)

neither : (a b : Bool) → (a || b) ≡ false → (a ≡ false) × (b ≡ false)
neither false b e = (refl, e)
neither true b e = absurd (cc e)

unclaimed : (before rest : List Claim) (c : Claim) → first_twice before (c ∷ rest) ≡ None → is_claimed before c ≡ false
unclaimed before rest c e =
    not_failed (is_claimed before c) (twice c.name)
    (none_first (if is_claimed before c then Some (twice c.name) else None) (first_twice (c ∷ before) rest) e)

rest_clean : (before rest : List Claim) (c : Claim) → first_twice before (c ∷ rest) ≡ None → first_twice (c ∷ before) rest ≡ None
rest_clean before rest c e = none_later (if is_claimed before c then Some (twice c.name) else None) (first_twice (c ∷ before) rest) e

name_fresh : (before : List Claim) (c : Claim) → is_claimed before c ≡ false → (q : List ℕ) → name_test c q ≡ true
    → is_some (holder name_test before q) ≡ false
name_fresh before c e q same =
    let P : List ℕ → Type 0 = λ n. is_some (holder name_test before n) ≡ false in
    subst P ((bytes_eq-Decides c.name q).0 same)
    (ap is_some (sym (named_holder before c.name)) ∙ (neither (is_some (thing_named before c.name)) (is_number_claimed before c.number) e).0)

pub fresh_names : (before cs : List Claim) → first_twice before cs ≡ None → Fresh name_test before cs
fresh_names before [] e = tt
fresh_names before (c ∷ rest) e = (name_fresh before c (unclaimed before rest c e), fresh_names (c ∷ before) rest (rest_clean before rest c e))

-- ---- numbers

abbrev pub number_test : Claim → List ℕ → Bool
number_test c q = is_number_of c.number q

or_some : (b h : Bool) (x : Thing) (o : Option Thing) → h ≡ is_some o → (b || h) ≡ is_some (if b then Some x else o)
or_some true h x o e = refl
or_some false h x o e = e

numbered : (cs : List Claim) (q : List ℕ) → has_number cs q ≡ is_some (holder number_test cs q)
numbered [] q = refl
numbered (c ∷ cs) q = or_some (is_number_of c.number q) (has_number cs q) c.thing (holder number_test cs q) (numbered cs q)

number_fresh_by : (before : List Claim) (number : Option (List ℕ)) → is_number_claimed before number ≡ false → (q : List ℕ)
    → is_number_of number q ≡ true
    → is_some (holder number_test before q) ≡ false
number_fresh_by before None e q same = absurd (cc same)
number_fresh_by before (Some n) e q same =
    let P : List ℕ → Type 0 = λ m. is_some (holder number_test before m) ≡ false in
    subst P ((bytes_eq-Decides n q).0 same) (sym (numbered before n) ∙ e)

pub fresh_numbers : (before cs : List Claim) → first_twice before cs ≡ None → Fresh number_test before cs
fresh_numbers before [] e = tt
fresh_numbers before (c ∷ rest) e = (
  λ q same.
      number_fresh_by before c.number
      (neither (is_some (thing_named before c.name)) (is_number_claimed before c.number) (unclaimed before rest c e)).1 q same,
  fresh_numbers (c ∷ before) rest (rest_clean before rest c e),
)

-- ---- the claims of a list

pub in_left : (c : Claim) (xs ys : List Claim) → IsIn c xs → IsIn c (xs ++ ys)
in_left c [] ys is = absurd is
in_left c (x ∷ xs) ys (inl same) = inl same
in_left c (x ∷ xs) ys (inr more) = inr (in_left c xs ys more)

pub in_right : (c : Claim) (xs ys : List Claim) → IsIn c ys → IsIn c (xs ++ ys)
in_right c [] ys is = is
in_right c (x ∷ xs) ys is = inr (in_right c xs ys is)

further : (c x : Claim) (xs ys : List Claim) → IsIn c xs ⊎ IsIn c ys → IsIn c (x ∷ xs) ⊎ IsIn c ys
further c x xs ys (inl is) = inl (inr is)
further c x xs ys (inr is) = inr is

pub in_either : (c : Claim) (xs ys : List Claim) → IsIn c (xs ++ ys) → IsIn c xs ⊎ IsIn c ys
in_either c [] ys is = inr is
in_either c (x ∷ xs) ys (inl same) = inl (inl same)
in_either c (x ∷ xs) ys (inr more) = further c x xs ys (in_either c xs ys more)

shifted : (n k : ℕ) → (n + 1) + k ≡ n + suc k
shifted n k = omega arith

pub in_from : {X : Type 0} (claim : ℕ → X → Claim) (n : ℕ) (xs : List X) (k : ℕ) (x : X) → slice_get xs k ≡ Some x
    → IsIn (claim (n + k) x) (claims_from claim n xs)
in_from claim n [] k x at = absurd (cc at)
in_from claim n (y ∷ ys) zero x at = inl (ap (λ m. claim m x) (add-zero n) ∙ ap (claim n) (sym (inner y x at)))
in_from claim n (y ∷ ys) (suc k) x at =
    let P : ℕ → Type 0 = λ m. IsIn (claim m x) (claims_from claim (n + 1) ys) in inr (subst P (shifted n k) (in_from claim (n + 1) ys k x at))

-- a claim of a list is one of its items, at its place
pub record IsOf {X : Type 0} (claim : ℕ → X → Claim) (n : ℕ) (xs : List X) (c : Claim) : Type 0 where
  pub place : ℕ
  pub what : X
  pub at : slice_get xs place ≡ Some what
  pub is : c ≡ claim (n + place) what

next_of : {X : Type 0} (claim : ℕ → X → Claim) (n : ℕ) (y : X) (ys : List X) (c : Claim) → IsOf claim (n + 1) ys c → IsOf claim n (y ∷ ys) c
next_of claim n y ys c h = record {
  place = suc h.place;
  what = h.what;
  at = h.at;
  is = h.is ∙ ap (λ m. claim m h.what) (shifted n h.place);
}

pub of_from : {X : Type 0} (claim : ℕ → X → Claim) (n : ℕ) (xs : List X) (c : Claim) → IsIn c (claims_from claim n xs) → IsOf claim n xs c
of_from claim n [] c is = absurd is
of_from claim n (y ∷ ys) c (inl same) = record { place = zero; what = y; at = refl; is = same ∙ ap (λ m. claim m y) (sym (add-zero n)) }
of_from claim n (y ∷ ys) c (inr more) = next_of claim n y ys c (of_from claim (n + 1) ys c more)
