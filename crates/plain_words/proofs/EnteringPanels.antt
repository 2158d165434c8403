-- The entries of all panels, a moment later.
use Rattle.std.proofs.Common.{◌≡◌, ◌∙◌, ◌+◌, ◌<◌, ◌≤◌, ℕ, zero, suc, List, [], ◌∷◌, ◌++◌, length, get_or, Some, slice_get, set, take, drop, ap, arith, length-append, subst, sym}
use Rattle.std.proofs.lemmas.List.{drop-set-lt, length-take-le, take_all, take_more_set}
use Rattle.std.proofs.Math.Seq.{drop-cons}
use Rattle.site_types.specs.declared.retained.Retained.{Retained}
use Rattle.site_types.specs.declared.site.Site.{Site}
use Rattle.site_types.specs.Done.{Done}
use Rattle.panel_rules.specs.Moments.{Moment}
use Rattle.plain_words.specs.declared.entering.Entering.{Entering}
use Rattle.plain_words.specs.Enterings.{AllAsk, AllEnter, EntersSome, StandsForEntering}

pub length_more : {X : Type 0} (xs : List X) (x : X) → length (xs ++ x ∷ []) ≡ length xs + 1
length_more xs x = omega (arith, length-append xs (x ∷ []))

drop_at : {X : Type 0} (xs : List X) (k : ℕ) (d : X) → k < length xs → drop k xs ≡ get_or xs k d ∷ drop (k + 1) xs
drop_at xs k d small = let next : suc k ≡ k + 1 = omega arith in drop-cons xs k d small ∙ ap (λ j. get_or xs k d ∷ drop j xs) next

drop_past : {X : Type 0} (xs : List X) (k : ℕ) (y : X) → drop (k + 1) (set xs k y) ≡ drop (k + 1) xs
drop_past xs k y = let less : k < k + 1 = omega arith in drop-set-lt (k + 1) xs k y less

-- at the first place of a list stands its first one, and at a place of an empty list none
first_there : {X : Type 0} (y x : X) (xs : List X) → slice_get (y ∷ xs) zero ≡ Some x → y ≡ x
first_there y x xs at = cc

none_there : {X : Type 0} (x : X) (k : ℕ) → slice_get [] k ≡ Some x → ⊥
none_there x k at = cc

module _ (site : Site) where
  pub ask_at : (xs : List Entering) (k : ℕ) (d : Entering) → k < length xs → AllAsk site (drop k xs)
      → EntersSome site (get_or xs k d) × AllAsk site (drop (k + 1) xs)
  ask_at xs k d small all = subst (λ ys. AllAsk site ys) (drop_at xs k d small) all

  pub ask_past : (xs : List Entering) (k : ℕ) (d y : Entering) → k < length xs → AllAsk site (drop k xs) → AllAsk site (drop (k + 1) (set xs k y))
  ask_past xs k d y small all = subst (λ ys. AllAsk site ys) (sym (drop_past xs k y)) ((ask_at xs k d small all).1)

module _ (site : Site) (kept : Retained) (done : List Done) where
  pub all_ask : (history : List Moment) (first : ℕ) (xs : List Entering) → AllEnter site kept done history first xs → AllAsk site xs
  all_ask history first [] all = tt
  all_ask history first (x ∷ xs) all = (record { panel = first; history = history; stands = (all.0).asks }, all_ask history (first + 1) xs (all.1))

  -- one panel more
  pub enter_more : (history : List Moment) (first : ℕ) (xs : List Entering) (x : Entering) → AllEnter site kept done history first xs →
      StandsForEntering site kept done (first + length xs) history x → AllEnter site kept done history first (xs ++ x ∷ [])
  enter_more history first [] x all one =
      let same : first + length {A = Entering} [] ≡ first = omega arith in (subst (λ n. StandsForEntering site kept done n history x) same one, tt)
  enter_more history first (y ∷ xs) x all one =
      let same : first + length (y ∷ xs) ≡ (first + 1) + length xs = omega arith in
      (all.0, enter_more history (first + 1) xs x (all.1) (subst (λ n. StandsForEntering site kept done n history x) same one))

  pub stepped_none : (history : List Moment) (first : ℕ) (xs : List Entering) → AllEnter site kept done history first xs
      → AllEnter site kept done history (first + 0) xs
  stepped_none history first xs all = let same : first ≡ first + 0 = omega arith in subst (λ n. AllEnter site kept done history n xs) same all

  -- one more of the panels has gone a moment on
  pub stepped_more : (moment : Moment) (history : List Moment) (first k : ℕ) (xs : List Entering) (y d : Entering) → k < length xs
      → AllEnter site kept done (moment ∷ history) first (take k xs) →
      AllEnter site kept done history (first + k) (drop k xs) →
      (StandsForEntering site kept done (first + k) history (get_or xs k d) → StandsForEntering site kept done (first + k) (moment ∷ history) y) →
      AllEnter site kept done (moment ∷ history) first (take (k + 1) (set xs k y))
      × AllEnter site kept done history (first + (k + 1)) (drop (k + 1) (set xs k y))
  stepped_more moment history first k xs y d small gone rest step =
      let here : AllEnter site kept done history (first + k) (get_or xs k d ∷ drop (k + 1) xs) =
      subst (λ ys. AllEnter site kept done history (first + k) ys) (drop_at xs k d small) rest in
      let few : k ≤ length xs = omega arith in
      let next : (first + k) + 1 ≡ first + (k + 1) = omega arith in (
        subst (λ ys. AllEnter site kept done (moment ∷ history) first ys) (sym (take_more_set xs k y small))
            (enter_more (moment ∷ history) first (take k xs) y gone
            (subst (λ n. StandsForEntering site kept done (first + n) (moment ∷ history) y) (sym (length-take-le k xs few)) (step (here.0)))),
        subst (λ ys. AllEnter site kept done history (first + (k + 1)) ys) (sym (drop_past xs k y))
            (subst (λ n. AllEnter site kept done history n (drop (k + 1) xs)) next (here.1)),
      )

  pub stepped_all : (history : List Moment) (first k : ℕ) (xs : List Entering) → length xs ≤ k → AllEnter site kept done history first (take k xs)
      → AllEnter site kept done history first xs
  stepped_all history first k xs past all = subst (λ ys. AllEnter site kept done history first ys) (take_all k xs past) all

  -- one of the panels
  pub enter_at : (history : List Moment) (first k : ℕ) (xs : List Entering) (x : Entering) → slice_get xs k ≡ Some x
      → AllEnter site kept done history first xs → StandsForEntering site kept done (first + k) history x
  enter_at history first k [] x at all = absurd (none_there x k at)
  enter_at history first zero (y ∷ xs) x at all =
      let here : first ≡ first + 0 = omega arith in
      subst (λ n. StandsForEntering site kept done n history x) here
      (subst (λ e. StandsForEntering site kept done first history e) (first_there y x xs at) (all.0))
  enter_at history first (suc k) (y ∷ xs) x at all =
      let next : (first + 1) + k ≡ first + suc k = omega arith in
      subst (λ n. StandsForEntering site kept done n history x) next (enter_at history (first + 1) k xs x at (all.1))
