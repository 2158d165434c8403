-- What is kept panel by panel.
use Rattle.std.proofs.Common.{◌≡◌, ◌<◌, ◌+◌, inl, inr, ℕ, List, length, get_or, set, Some, refl, sym, ◌∙◌, ap, subst, arith}
use Rattle.std.proofs.lemmas.Bool.{cases_lt}
use Rattle.std.proofs.lemmas.List.{get_or-set_other, get_or-set_same}
use Rattle.std.proofs.lemmas.Option.{get_or_from_slice_get, slice_get_read}
use Rattle.std.specs.Prelude.{slice_get}

-- one place more
pub one_place_more : {X : Type 0} (P : ℕ → X → Type 0) (xs : List X) (place : ℕ) (x : X) → place < length xs → P place x
    → ((k : ℕ) (y : X) → k < place → slice_get xs k ≡ Some y → P k y) → (k : ℕ) (y : X) → k < place + 1 → slice_get (set xs place x) k ≡ Some y → P k y
one_place_more P xs place x within is before k y l at =
    let there = get_or_from_slice_get (set xs place x) k y y at in
    elim (cases_lt k place) [
      | inl less ↦
          (let other = get_or-set_other xs place k x y (λ e. omega (arith, e, less)) in
          before k y less (slice_get_read xs (length xs) k y refl (omega (arith, less, within)) (sym there ∙ other)))
      | inr more ↦
          (let e : place ≡ k = omega (arith, l, more) in
          let here : get_or (set xs place x) place y ≡ x = get_or-set_same xs place x y within in
          let same : x ≡ y = sym here ∙ ap (λ n. get_or (set xs place x) n y) e ∙ there in
          subst (λ n. P n y) e (subst (P place) same is))
    ]
