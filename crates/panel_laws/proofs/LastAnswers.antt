-- Where the latest answers of a list are all silent, so are its last three.
use Rattle.std.proofs.Common.{◌≡◌, ℕ, zero, suc, ◌≤◌, ◌<◌, ◌==◌, ◌&&◌, List, [], ◌∷◌, ◌++◌, Some, slice_get, inl, inr, Bool, true, false, if◌then◌else◌, refl, sym, ◌∙◌, ap, subst, arith}
use Rattle.std.specs.Prelude.{nat_le, filter, reverse}
use Rattle.std.specs.List.{AllByRecursion}
use Rattle.std.proofs.lemmas.Bool.Decides.{leb_tells}
use Rattle.std.proofs.lemmas.List.{reverse-append}
use Rattle.site_types.specs.declared.answer.Answer.{Answer}
use Rattle.coincidence_rules.specs.Counted.{is_silent}
use Rattle.coincidence_rules.specs.Missing.{latest_of, begins_silent, is_missing}
use Rattle.panel_rules.proofs.Bools.{both}
use Rattle.panel_laws.proofs.AnswerLaws.{eq_is}
use Rattle.panel_rules.proofs.Counting.{one, count, count-append, count-filter, count-none, count-some, each_to, each_more, each_filtered}

abbrev Rises : List Answer → Type 0
Rises [] = Unit {0}
Rises (a ∷ rest) = AllByRecursion (λ (b : Answer). a.stamp.0 ≤ b.stamp.0) rest × Rises rest

abbrev Falls : List Answer → Type 0
Falls [] = Unit {0}
Falls (a ∷ rest) = AllByRecursion (λ (b : Answer). b.stamp.0 ≤ a.stamp.0) rest × Falls rest

reverse_cons : (x : Answer) (xs : List Answer) → reverse (x ∷ xs) ≡ reverse xs ++ x ∷ []
reverse_cons x xs = reverse-append (x ∷ []) xs

each_reverse : (P : Answer → Type 0) (xs : List Answer) → AllByRecursion P xs → AllByRecursion P (reverse xs)
each_reverse P [] all = tt
each_reverse P (x ∷ xs) all = subst (AllByRecursion P) (sym (reverse_cons x xs)) (each_more P (reverse xs) x (each_reverse P xs all.1) all.0)

falls_more : (xs : List Answer) (x : Answer) → Falls xs → AllByRecursion (λ (b : Answer). x.stamp.0 ≤ b.stamp.0) xs → Falls (xs ++ x ∷ [])
falls_more [] x falls all = (tt, tt)
falls_more (y ∷ xs) x falls all = (each_more (λ (b : Answer). b.stamp.0 ≤ y.stamp.0) xs x falls.0 all.0, falls_more xs x falls.1 all.1)

falls_reverse : (xs : List Answer) → Rises xs → Falls (reverse xs)
falls_reverse [] rises = tt
falls_reverse (x ∷ xs) rises =
    subst Falls (sym (reverse_cons x xs))
    (falls_more (reverse xs) x (falls_reverse xs rises.1) (each_reverse (λ (b : Answer). x.stamp.0 ≤ b.stamp.0) xs rises.0))

count_reverse : (test : Answer → Bool) (xs : List Answer) → count test (reverse xs) ≡ count test xs
count_reverse test [] = refl
count_reverse test (x ∷ xs) =
    let ih = count_reverse test xs in
    let a = count-append test (reverse xs) (x ∷ []) in
    let e = ap (count test) (reverse_cons x xs) in
    omega (arith, ih, a, e)

-- those that come in order still do where some are left out
rises_filter : (among : Answer → Bool) (xs : List Answer)
    → ((i j : ℕ) (a b : Answer) → i ≤ j → slice_get xs i ≡ Some a → slice_get xs j ≡ Some b → a.stamp.0 ≤ b.stamp.0) → Rises (filter among xs)
rises_filter among [] order = tt
rises_filter among (x ∷ xs) order = go (among x) (rises_filter among xs (λ i j a b l e f. order (suc i) (suc j) a b (omega (arith, l)) e f))
  where
    go : (b : Bool) → Rises (filter among xs) → Rises (if b then x ∷ filter among xs else filter among xs)
    go true ih = (each_filtered (λ (c : Answer). x.stamp.0 ≤ c.stamp.0) among xs (λ k c e t. order 0 (suc k) x c (omega arith) refl e), ih)
    go false ih = ih

-- three places that pass are counted
two_places : (test : Answer → Bool) (xs : List Answer) (i j : ℕ) (a b : Answer) → i < j → slice_get xs i ≡ Some a → slice_get xs j ≡ Some b
    → test a ≡ true → test b ≡ true → 2 ≤ count test xs
two_places test [] i j a b l e f s t = cc
two_places test (x ∷ xs) i zero a b l e f s t = absurd (omega (arith, l))
two_places test (x ∷ xs) zero (suc j) a b l e f s t =
    let same : x ≡ a = cc in
    let here = ap one (ap test same ∙ s) in
    let more = count-some test xs j b f t in
    omega (arith, here, more)
two_places test (x ∷ xs) (suc i) (suc j) a b l e f s t = let ih = two_places test xs i j a b (omega (arith, l)) e f s t in omega (arith, ih)

pub three_places : (test : Answer → Bool) (xs : List Answer) (i j k : ℕ) (a b c : Answer) → i < j → j < k → slice_get xs i ≡ Some a
    → slice_get xs j ≡ Some b → slice_get xs k ≡ Some c → test a ≡ true → test b ≡ true → test c ≡ true → 3 ≤ count test xs
three_places test [] i j k a b c l m e f g s t u = cc
three_places test (x ∷ xs) i zero k a b c l m e f g s t u = absurd (omega (arith, l))
three_places test (x ∷ xs) i (suc j) zero a b c l m e f g s t u = absurd (omega (arith, m))
three_places test (x ∷ xs) zero (suc j) (suc k) a b c l m e f g s t u =
    let same : x ≡ a = cc in
    let here = ap one (ap test same ∙ s) in
    let more = two_places test xs j k b c (omega (arith, m)) f g t u in
    omega (arith, here, more)
three_places test (x ∷ xs) (suc i) (suc j) (suc k) a b c l m e f g s t u = let ih =
    three_places test xs i j k a b c (omega (arith, l)) (omega (arith, m)) e f g s t u in omega (arith, ih)

-- the latest ones first: as many as lie from a tick on are silent, if each of these is
begins : (first n : ℕ) (ys : List Answer) → Falls ys → AllByRecursion (λ (y : Answer). first ≤ y.stamp.0 → is_silent y.heard ≡ true) ys
    → n ≤ count (λ (y : Answer). nat_le first y.stamp.0) ys → begins_silent n ys ≡ true
begins first zero ys falls silent l = refl
begins first (suc n) [] falls silent l = absurd (omega (arith, l))
begins first (suc n) (y ∷ ys) falls silent l =
    elim (leb_tells first y.stamp.0) [
      | inl h ↦
          (let here = ap one h.0 in
          both (is_silent y.heard) (begins_silent n ys) (silent.0 h.1) (begins first n ys falls.1 silent.1 (omega (arith, l, here))))
      | inr h ↦
          (let here = ap one h.0 in
          let none =
          count-none (λ (z : Answer). nat_le first z.stamp.0) ys
          (each_to (λ (z : Answer). z.stamp.0 ≤ y.stamp.0) (λ (z : Answer). nat_le first z.stamp.0 ≡ false) ys
          (λ z le. (let m = h.1 in early z.stamp.0 (omega (arith, m, le)))) falls.0) in
          absurd (omega (arith, l, here, none)))
    ]
  where
    early : (t : ℕ) → t < first → nat_le first t ≡ false
    early t l = elim (leb_tells first t) [ inl h ↦ (let m = h.1 in absurd (omega (arith, m, l))) | inr h ↦ h.0 ]

-- a point whose answers from a tick on are all silent, and are three at least, is missing
pub missing_by : (first point : ℕ) (xs : List Answer)
    → ((i j : ℕ) (a b : Answer) → i ≤ j → slice_get xs i ≡ Some a → slice_get xs j ≡ Some b → a.stamp.0 ≤ b.stamp.0)
    → ((k : ℕ) (a : Answer) → slice_get xs k ≡ Some a → a.point ≡ point → first ≤ a.stamp.0 → is_silent a.heard ≡ true)
    → 3 ≤ count (λ (a : Answer). (a.point == point) && nat_le first a.stamp.0) xs → is_missing xs point ≡ true
missing_by first point xs order silent l =
    let c = count-filter (λ (a : Answer). nat_le first a.stamp.0) (λ (a : Answer). a.point == point) xs in
    let r = count_reverse (λ (a : Answer). nat_le first a.stamp.0) (filter (λ (a : Answer). a.point == point) xs) in
    begins first 3 (latest_of point xs)
    (falls_reverse (filter (λ (a : Answer). a.point == point) xs) (rises_filter (λ (a : Answer). a.point == point) xs order))
    (each_reverse (λ (y : Answer). first ≤ y.stamp.0 → is_silent y.heard ≡ true) (filter (λ (a : Answer). a.point == point) xs)
    (each_filtered (λ (y : Answer). first ≤ y.stamp.0 → is_silent y.heard ≡ true) (λ (a : Answer). a.point == point) xs
    (λ k a e t. silent k a e (eq_is a.point point t))))
    (omega (arith, c, r, l))
