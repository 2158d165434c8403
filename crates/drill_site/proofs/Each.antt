-- What stands for each of some numbers, number by number.
use Rattle.std.proofs.Common.{◌≡◌, ◌∙◌, ◌+◌, ◌++◌, ℕ, List, [], refl, ap, sym, add-one, append_assoc, append-nil}
use Rattle.drill_site.specs.Files.{for_each}

none : (f : ℕ → List ℕ) → for_each f 0 ≡ []
unfolding for_each
none f = refl

more : (f : ℕ → List ℕ) (n : ℕ) → for_each f (n + 1) ≡ for_each f n ++ f (n + 1)
unfolding for_each
more f n = rw (add-one) refl

-- behind a text, before the first number
pub begins : (text : List ℕ) (f : ℕ → List ℕ) → text ≡ text ++ for_each f 0
begins text f = sym (ap (λ xs. text ++ xs) (none f) ∙ append-nil text)

-- one number more
pub grows : (text old new item : List ℕ) (f : ℕ → List ℕ) (n : ℕ) → old ≡ text ++ for_each f n → new ≡ old ++ item
    → item ≡ f (n + 1) → new ≡ text ++ for_each f (n + 1)
grows text old new item f n before pushed is =
    pushed
    ∙ ap (λ xs. xs ++ item) before
    ∙ append_assoc text (for_each f n) item
    ∙ ap (λ xs. text ++ (for_each f n ++ xs)) is
    ∙ ap (λ xs. text ++ xs) (sym (more f n))
