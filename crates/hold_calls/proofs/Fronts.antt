-- What one turn moves of a lane, in plain lists.
use Rattle.std.proofs.Common.{◌≡◌, ℕ, zero, suc, ◌+◌, List, [], ◌∷◌, ◌++◌, length, take, drop, refl, sym, ◌∙◌, ap, arith}
use Rattle.site_types.specs.declared.answer.Answer.{Answer}
use Rattle.site_types.specs.declared.retained.Retained.{Retained}
use Rattle.site_types.specs.declared.site.Site.{Site}
use Rattle.site_types.specs.Done.{Done}
use Rattle.coincidence_rules.specs.Findings.{finding_of, findings_after, findings_of}
use Rattle.coincidence_rules.specs.InOrder.{AreInOrder}
use Rattle.panel_rules.proofs.Places.{take_get}

append_on : {X : Type 0} (xs ys zs : List X) → (xs ++ ys) ++ zs ≡ xs ++ (ys ++ zs)
append_on [] ys zs = refl
append_on (x ∷ xs) ys zs = ap (λ ws. x ∷ ws) (append_on xs ys zs)

take_none : {X : Type 0} (k : ℕ) → take {A = X} k [] ≡ []
take_none zero = refl
take_none (suc k) = refl

drop_none : {X : Type 0} (k : ℕ) → drop {A = X} k [] ≡ []
drop_none zero = refl
drop_none (suc k) = refl

-- the next items after a front make a longer front
pub front_more : {X : Type 0} (d n : ℕ) (xs : List X) → take d xs ++ take n (drop d xs) ≡ take (d + n) xs
front_more {X = X} d n [] =
    ap (λ ys. ys ++ take n (drop d [])) (take_none {X = X} d) ∙ ap (take n) (drop_none {X = X} d) ∙ take_none n ∙ sym (take_none (d + n))
front_more zero n (x ∷ xs) = let e : n ≡ 0 + n = omega arith in ap (λ k. take k (x ∷ xs)) e
front_more (suc d) n (x ∷ xs) = let e : suc (d + n) ≡ suc d + n = omega arith in ap (λ ys. x ∷ ys) (front_more d n xs) ∙ ap (λ k. take k (x ∷ xs)) e

-- a front of answers that are in order is in order
pub order_front : (n : ℕ) (xs : List Answer) → AreInOrder xs → AreInOrder (take n xs)
order_front n xs order =
    record {
      rising = λ i j a b l h g. order.rising i j a b l (take_get n xs i a h).1 (take_get n xs j b g).1;
      once = λ i j a b h g e s. order.once i j a b (take_get n xs i a h).1 (take_get n xs j b g).1 e s;
    }

module _ (site : Site) (kept : Retained) (panel : ℕ) (done : List Done) where
  found_append : (before xs ys : List Answer) → findings_after site kept panel done before (xs ++ ys) ≡ findings_after site kept panel done before xs
      ++ findings_after site kept panel done (before ++ xs) ys
  found_append before [] ys = ap (λ b. findings_after site kept panel done b ys) (nil before)
    where
      nil : (xs : List Answer) → xs ≡ xs ++ []
      nil [] = refl
      nil (x ∷ xs) = ap (λ ys. x ∷ ys) (nil xs)
  found_append before (x ∷ xs) ys =
      ap (λ zs. finding_of site kept panel done before x ∷ zs)
      (found_append (before ++ x ∷ []) xs ys ∙ ap (λ b. findings_after site kept panel done (before ++ x ∷ []) xs
      ++ findings_after site kept panel done b ys) (append_on before (x ∷ []) xs))

  -- what is found of more answers comes behind
  pub found_more : (xs ys : List Answer) → findings_of site kept panel done (xs ++ ys) ≡ findings_of site kept panel done xs
      ++ findings_after site kept panel done xs ys
  found_more xs ys = found_append [] xs ys

  -- one finding for each answer
  pub found_count : (before xs : List Answer) → length (findings_after site kept panel done before xs) ≡ length xs
  found_count before [] = refl
  found_count before (x ∷ xs) = ap suc (found_count (before ++ x ∷ []) xs)
