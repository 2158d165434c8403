-- The claims of a draft with what is kept of their places: the first that is made twice is the same, and
-- where each list is short they are the claims themselves.
use Rattle.std.proofs.Common.{◌≡◌, ◌≤◌, ◌+◌, ◌++◌, ◌||◌, ℕ, List, [], ◌∷◌, Bool, true, false, Option, Some, None, is_some, length, refl, ap, ◌∙◌, arith, if◌then◌else◌}
use Rattle.std.specs.Str.{bytes_eq}
use Rattle.site_types.specs.declared.named.Thing.{Thing}
use Rattle.site_document.specs.declared.draft.Draft.{Draft}
use Rattle.site_document.specs.Refusals.{or_later, twice}
use Rattle.site_config.specs.declared.claim.Claim.{Claim}
use Rattle.site_config.specs.Claims.{claims_by, claims_from, claims_of, first_twice, has_number, is_claimed}
use Rattle.site_config.specs.Claims.{is_number_claimed, is_number_of, kept_place, marker_claim, output_claim}
use Rattle.site_config.specs.Claims.{point_claim, thing_named, zone_claim}
use Rattle.site_config.proofs.FewParts.{HasFewParts}

-- two claims of the same name and number
record IsLike (a b : Claim) : Type 0 where
  names : a.name ≡ b.name
  numbers : a.number ≡ b.number

-- claims of the same names and numbers, one by one
abbrev AreLike : List Claim → List Claim → Type 0
AreLike [] [] = Unit {0}
AreLike [] (y ∷ ys) = ⊥
AreLike (x ∷ xs) [] = ⊥
AreLike (x ∷ xs) (y ∷ ys) = IsLike x y × AreLike xs ys

-- ---- the first claim that is made twice

one_of : (b : Bool) (s t : Thing) (o p : Option Thing) → is_some o ≡ is_some p → is_some (if b then Some s else o) ≡ is_some (if b then Some t else p)
one_of true s t o p e = refl
one_of false s t o p e = e

like_named : (xs ys : List Claim) (name : List ℕ) → AreLike xs ys → is_some (thing_named xs name) ≡ is_some (thing_named ys name)
like_named [] [] name h = refl
like_named [] (y ∷ ys) name h = absurd h
like_named (x ∷ xs) [] name h = absurd h
like_named (x ∷ xs) (y ∷ ys) name h =
    rw h.0.names (one_of (bytes_eq y.name name) x.thing y.thing (thing_named xs name) (thing_named ys name) (like_named xs ys name h.1))

like_numbered : (xs ys : List Claim) (number : List ℕ) → AreLike xs ys → has_number xs number ≡ has_number ys number
like_numbered [] [] number h = refl
like_numbered [] (y ∷ ys) number h = absurd h
like_numbered (x ∷ xs) [] number h = absurd h
like_numbered (x ∷ xs) (y ∷ ys) number h =
    ap (λ n. is_number_of n number || has_number xs number) h.0.numbers
    ∙ ap (λ b. is_number_of y.number number || b) (like_numbered xs ys number h.1)

like_number : (xs ys : List Claim) (number : Option (List ℕ)) → AreLike xs ys → is_number_claimed xs number ≡ is_number_claimed ys number
like_number xs ys None h = refl
like_number xs ys (Some number) h = like_numbered xs ys number h

like_claimed : (xs ys : List Claim) (a b : Claim) → AreLike xs ys → IsLike a b → is_claimed xs a ≡ is_claimed ys b
like_claimed xs ys a b h is =
    ap (λ n. is_some (thing_named xs n) || is_number_claimed xs a.number) is.names
    ∙ ap (λ n. is_some (thing_named xs b.name) || is_number_claimed xs n) is.numbers
    ∙ ap (λ t. t || is_number_claimed xs b.number) (like_named xs ys b.name h)
    ∙ ap (λ t. is_some (thing_named ys b.name) || t) (like_number xs ys b.number h)

like_twice : (before earlier xs ys : List Claim) → AreLike before earlier → AreLike xs ys → first_twice before xs ≡ first_twice earlier ys
like_twice before earlier [] [] same h = refl
like_twice before earlier [] (y ∷ ys) same h = absurd h
like_twice before earlier (x ∷ xs) [] same h = absurd h
like_twice before earlier (x ∷ xs) (y ∷ ys) same h =
    ap (λ t. or_later (if t then Some (twice x.name) else None) (first_twice (x ∷ before) xs)) (like_claimed before earlier x y same h.0)
    ∙ ap (λ n. or_later (if is_claimed earlier y then Some (twice n) else None) (first_twice (x ∷ before) xs)) h.0.names
    ∙ ap (or_later (if is_claimed earlier y then Some (twice y.name) else None)) (like_twice (x ∷ before) (y ∷ earlier) xs ys (h.0, same) h.1)

like_from : {X : Type 0} (claim : ℕ → X → Claim) (keep : ℕ → ℕ) → ((p q : ℕ) (x : X) → IsLike (claim p x) (claim q x)) → (n : ℕ) (xs : List X)
    → AreLike (claims_from (λ place. claim (keep place)) n xs) (claims_from claim n xs)
like_from claim keep like n [] = tt
like_from claim keep like n (x ∷ xs) = (like (keep n) n x, like_from claim keep like (n + 1) xs)

like_append : (xs ys late later : List Claim) → AreLike xs ys → AreLike late later → AreLike (xs ++ late) (ys ++ later)
like_append [] [] late later h more = more
like_append [] (y ∷ ys) late later h more = absurd h
like_append (x ∷ xs) [] late later h more = absurd h
like_append (x ∷ xs) (y ∷ ys) late later h more = (h.0, like_append xs ys late later h.1 more)

like_kept : (draft : Draft) → AreLike (claims_by kept_place draft) (claims_of draft)
unfolding claims_of
like_kept draft =
    let zones = like_from zone_claim kept_place (λ p q z. record { names = refl; numbers = refl }) 0 draft.zones in
    let points = like_from point_claim kept_place (λ p q z. record { names = refl; numbers = refl }) 0 draft.points in
    let outputs = like_from output_claim kept_place (λ p q z. record { names = refl; numbers = refl }) 0 draft.outputs in
    let markers = like_from marker_claim kept_place (λ p q z. record { names = refl; numbers = refl }) 0 draft.markers in
    like_append _ _ _ _ (like_append _ _ _ _ (like_append _ _ _ _ zones points) outputs) markers

pub kept_twice : (draft : Draft) → first_twice [] (claims_by kept_place draft) ≡ first_twice [] (claims_of draft)
kept_twice draft = like_twice [] [] (claims_by kept_place draft) (claims_of draft) tt (like_kept draft)

-- ---- short lists

whole_from : {X : Type 0} (claim : ℕ → X → Claim) (n : ℕ) (xs : List X) → n + length xs ≤ 65536
    → claims_from (λ place. claim (kept_place place)) n xs ≡ claims_from claim n xs
whole_from claim n [] few = refl
whole_from claim n (x ∷ xs) few =
    let here : kept_place n ≡ n = omega arith in
    ap (λ p. claim p x ∷ claims_from (λ place. claim (kept_place place)) (n + 1) xs) here
    ∙ ap (λ cs. claim n x ∷ cs) (whole_from claim (n + 1) xs (omega arith))

pub kept_whole : (draft : Draft) → HasFewParts draft → claims_by kept_place draft ≡ claims_of draft
unfolding claims_of
kept_whole draft few =
    rw (
      whole_from zone_claim 0 draft.zones (omega (arith, few.zones)),
      whole_from point_claim 0 draft.points (omega (arith, few.points)),
      whole_from output_claim 0 draft.outputs (omega (arith, few.outputs)),
      whole_from marker_claim 0 draft.markers (omega (arith, few.markers)),
    ) refl
