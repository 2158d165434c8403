-- Things numbered one after another.
use Rattle.std.proofs.Common.{◌≡◌, ◌∙◌, ◌+◌, ◌<◌, ℕ, zero, suc, List, [], ◌∷◌, ◌++◌, refl, sym, ap, map, take, length, get_or, Some, slice_get}
use Rattle.std.proofs.lemmas.List.{map-append, take_more}
use Rattle.panel_audit.specs.declared.numbered.Numbered.{Numbered}
use Rattle.panel_audit.specs.Numbers.{AreNumbersOf}

module _ {X : Type 0} (panel number : X → ℕ) (xs : List X) where
  more_of : {Y : Type 0} (f : Numbered → Y) (g : X → Y) (place : ℕ) (things : List Numbered) (x : X) (thing : Numbered) → place < length xs
      → x ≡ get_or xs place x → f thing ≡ g x → map f things ≡ map g (take place xs) → map f (things ++ thing ∷ []) ≡ map g (take (place + 1) xs)
  more_of f g place things x thing within is same before =
      map-append f things (thing ∷ []) ∙ ap (λ all. all ++ f thing ∷ []) before ∙ ap (λ last. map g (take place xs) ++ last ∷ []) same
      ∙ sym (map-append g (take place xs) (x ∷ []))
      ∙ sym (ap (map g) (take_more xs place x within ∙ ap (λ last. take place xs ++ last ∷ []) (sym is)))

  pub one_more : (place : ℕ) (things : List Numbered) (x : X) (thing : Numbered) → place < length xs → x ≡ get_or xs place x
      → thing.panel ≡ panel x → thing.number ≡ number x → AreNumbersOf panel number (take place xs) things
      → AreNumbersOf panel number (take (place + 1) xs) (things ++ thing ∷ [])
  one_more place things x thing within is same_panel same_number before = record {
    panels = more_of (λ (t : Numbered). t.panel) panel place things x thing within is same_panel before.panels;
    numbers = more_of (λ (t : Numbered). t.number) number place things x thing within is same_number before.numbers;
  }

-- what stands at a place
at_place : {A B Y : Type 0} (f : A → Y) (g : B → Y) (ones : List A) (others : List B) → map f ones ≡ map g others → (place : ℕ) (b : B) → slice_get others place ≡ Some b
    → (a : A) × (slice_get ones place ≡ Some a)
at_place f g [] [] same place b is = cc
at_place f g [] (y ∷ others) same place b is = cc
at_place f g (x ∷ ones) [] same place b is = cc
at_place f g (x ∷ ones) (y ∷ others) same zero b is = (x, refl)
at_place f g (x ∷ ones) (y ∷ others) same (suc place) b is = at_place f g ones others (rest same) place b is
  where
    rest : f x ∷ map f ones ≡ g y ∷ map g others → map f ones ≡ map g others
    rest e = cc

same_at : {A B Y : Type 0} (f : A → Y) (g : B → Y) (ones : List A) (others : List B) → map f ones ≡ map g others → (place : ℕ) (a : A) (b : B)
    → slice_get ones place ≡ Some a → slice_get others place ≡ Some b → f a ≡ g b
same_at f g [] [] same place a b is are = cc
same_at f g [] (y ∷ others) same place a b is are = cc
same_at f g (x ∷ ones) [] same place a b is are = cc
same_at f g (x ∷ ones) (y ∷ others) same zero a b is are = cc
same_at f g (x ∷ ones) (y ∷ others) same (suc place) a b is are = same_at f g ones others (rest same) place a b is are
  where
    rest : f x ∷ map f ones ≡ g y ∷ map g others → map f ones ≡ map g others
    rest e = cc

module _ {X : Type 0} (panel number : X → ℕ) (xs : List X) (things : List Numbered) (are : AreNumbersOf panel number xs things) where
  -- each thing is there
  pub thing_of : (place : ℕ) (x : X) → slice_get xs place ≡ Some x → (thing : Numbered) × (slice_get things place ≡ Some thing)
  thing_of = at_place (λ (t : Numbered). t.panel) panel things xs are.panels

  pub of_thing : (place : ℕ) (thing : Numbered) → slice_get things place ≡ Some thing → (x : X) × (slice_get xs place ≡ Some x)
  of_thing = at_place panel (λ (t : Numbered). t.panel) xs things (sym are.panels)

  pub panel_is : (place : ℕ) (thing : Numbered) (x : X) → slice_get things place ≡ Some thing → slice_get xs place ≡ Some x → thing.panel ≡ panel x
  panel_is = same_at (λ (t : Numbered). t.panel) panel things xs are.panels

  pub number_is : (place : ℕ) (thing : Numbered) (x : X) → slice_get things place ≡ Some thing → slice_get xs place ≡ Some x → thing.number ≡ number x
  number_is = same_at (λ (t : Numbered). t.number) number things xs are.numbers
