-- Two lists that are seen alike, place by place.
use Rattle.std.proofs.Common.{◌≡◌, ℕ, zero, suc, List, [], ◌∷◌, Some, map, length, get_or, refl, ap, sym, subst, ◌∙◌}
use Rattle.std.proofs.lemmas.Option.{slice_get-get_or}
use Rattle.std.specs.List.{AllByRecursion}
use Rattle.std.specs.Prelude.{slice_get, All}

heads : {V : Type 0} (a b : V) (xs ys : List V) → a ∷ xs ≡ b ∷ ys → a ≡ b
heads a b xs ys e = cc e

tails : {V : Type 0} (a b : V) (xs ys : List V) → a ∷ xs ≡ b ∷ ys → xs ≡ ys
tails a b xs ys e = cc e

pub inner : {X : Type 0} (a b : X) → Some a ≡ Some b → a ≡ b
inner a b e = cc e

-- what stands at a place of the one has its like at this place of the other
pub like_at : {X Y V : Type 0} (f : X → V) (g : Y → V) (xs : List X) (ys : List Y) → map f xs ≡ map g ys → (k : ℕ) (x : X) → slice_get xs k ≡ Some x
    → (y : Y) × (slice_get ys k ≡ Some y) × (f x ≡ g y)
like_at f g [] ys e k x at = absurd (cc at)
like_at f g (a ∷ xs) [] e k x at = absurd (cc e)
like_at f g (a ∷ xs) (b ∷ ys) e zero x at = (b, refl, ap f (sym (inner a x at)) ∙ heads (f a) (g b) (map f xs) (map g ys) e)
like_at f g (a ∷ xs) (b ∷ ys) e (suc k) x at = like_at f g xs ys (tails (f a) (g b) (map f xs) (map g ys) e) k x at

pub by_place : {X : Type 0} (P : X → Type 0) (xs : List X) → AllByRecursion P xs → (k : ℕ) (x : X) → slice_get xs k ≡ Some x → P x
by_place P [] all k x at = absurd (cc at)
by_place P (a ∷ xs) all zero x at = subst P (inner a x at) all.0
by_place P (a ∷ xs) all (suc k) x at = by_place P xs all.1 k x at

pub all_by_place : {X : Type 0} (P : X → Type 0) (xs : List X) → ((k : ℕ) (x : X) → slice_get xs k ≡ Some x → P x) → All P xs
all_by_place P xs each = λ k d lt. each k (get_or xs k d) (slice_get-get_or xs k d lt)

pub all_from : {X : Type 0} (P : X → Type 0) (xs : List X) → AllByRecursion P xs → All P xs
all_from P xs all = all_by_place P xs (λ k x at. by_place P xs all k x at)

pub as_long : {X Y V : Type 0} (f : X → V) (g : Y → V) (xs : List X) (ys : List Y) → map f xs ≡ map g ys → length xs ≡ length ys
as_long f g [] [] e = refl
as_long f g [] (b ∷ ys) e = absurd (cc e)
as_long f g (a ∷ xs) [] e = absurd (cc e)
as_long f g (a ∷ xs) (b ∷ ys) e = ap suc (as_long f g xs ys (tails (f a) (g b) (map f xs) (map g ys) e))
