-- The solution, found to a depth that no chain of terms passes.
use Rattle.std.proofs.Common.{◌≡◌, inl, inr, ℕ, zero, suc, ◌+◌, ◌<◌, Bool, true, false, List, [], ◌∷◌, length, ◌==◌, ◌||◌, refl, sym, ◌∙◌, ap, subst, arith}
use Rattle.std.specs.List.{list_any, AllByRecursion, IsDistinct}
use Rattle.std.proofs.lemmas.Bool.Decides.{eqb_tells}
use Rattle.std.proofs.lemmas.Map.Steps.{length-le_from_distinct_below}
use Rattle.site_types.specs.declared.site.Site.{Site}
use Rattle.marker_table.specs.declared.facts.Facts.{Facts}
use Rattle.marker_table.specs.Equations.{equation}
use Rattle.cause_effect.specs.Cycles.{has_term, Depends, directly, through, HasNoCycle}
use Rattle.cause_effect.specs.Solutions.{IsSolution, AreWithin, HasOneSolution}
use Rattle.cause_effect.proofs.Equations.{has_within, equation_same, equation_more}

-- solved to a depth; below it nothing is true
abbrev pub solved : ℕ → Site → Facts → ℕ → Bool
solved zero site facts m = false
solved (suc depth) site facts m = equation site facts (solved depth site facts) m

abbrev pub the_values : Site → Facts → ℕ → Bool
the_values site facts = solved (suc (length site.markers)) site facts

-- ---- a chain of terms that meets no marker twice

pub none_equal : (m : ℕ) (xs : List ℕ) → list_any (λ x. m == x) xs ≡ false → AllByRecursion (λ y. (m == y) ≡ false) xs
none_equal m [] h = tt
none_equal m (x ∷ xs) h = (first (m == x) (list_any (λ x. m == x) xs) h, none_equal m xs (rest (m == x) (list_any (λ x. m == x) xs) h))
  where
    first : (a b : Bool) → (a || b) ≡ false → a ≡ false
    first true b h = cc
    first false b h = refl

    rest : (a b : Bool) → (a || b) ≡ false → b ≡ false
    rest true b h = cc
    rest false b h = h

pub and_on : (site : Site) (m other last : ℕ) → Depends site m other → has_term site other last ≡ true → Depends site m last
and_on site m other last (directly a b h) t = through a b last h (directly b last t)
and_on site m other last (through a next b h l) t = through a next last h (and_on site next b last l t)

-- what holds of the markers of a chain that leads to m
pub record Chain (site : Site) (m : ℕ) (seen : List ℕ) : Type 0 where
  pub distinct : IsDistinct (λ x y. x == y) seen
  pub small : (q : ℕ) → list_any (λ x. q == x) seen ≡ true → q < length site.markers
  pub leads : (q : ℕ) → list_any (λ x. q == x) seen ≡ true → Depends site q m

pub no_chain : (site : Site) (m : ℕ) → Chain site m []
unfolding IsDistinct
no_chain site m = record { distinct = tt; small = λ q e. cc; leads = λ q e. cc }

pub chain_on : (site : Site) (m next : ℕ) (seen : List ℕ) → Chain site m seen → list_any (λ x. m == x) seen ≡ false → has_term site m next ≡ true
    → Chain site next (m ∷ seen)
unfolding IsDistinct
chain_on site m next seen w fresh term = record {
  distinct = (none_equal m seen fresh, w.distinct);
  small = λ q h. elim (eqb_tells q m) [
    | inl same ↦ subst (λ n. n < length site.markers) (sym same.1) (has_within site m next term)
    | inr apart ↦ w.small q (ap (λ b. b || list_any (λ x. q == x) seen) (sym apart.0) ∙ h)
  ];
  leads = λ q h. elim (eqb_tells q m) [
    | inl same ↦ subst (λ n. Depends site n next) (sym same.1) (directly m next term)
    | inr apart ↦ and_on site q m next (w.leads q (ap (λ b. b || list_any (λ x. q == x) seen) (sym apart.0) ∙ h)) term
  ];
}

-- no chain has more markers than the site
pub chain_fits : (site : Site) (m : ℕ) (seen : List ℕ) → Chain site m seen → length site.markers < length seen → ⊥
chain_fits site m seen w long = let few = length-le_from_distinct_below seen (length site.markers) w.distinct w.small in omega (arith, few, long)

-- ---- existence and uniqueness

settles : (site : Site) (facts : Facts) → HasNoCycle site → (depth m : ℕ) (seen : List ℕ) → Chain site m seen
    → length site.markers < depth + length seen →
    solved depth site facts m ≡ solved (suc depth) site facts m
settles site facts free zero m seen w far = absurd (chain_fits site m seen w (omega (arith, far)))
settles site facts free (suc depth) m seen w far = go (list_any (λ x. m == x) seen) refl
    (λ fresh. equation_same site facts (solved depth site facts) (solved (suc depth) site facts) m
    (λ other term. settles site facts free depth other (m ∷ seen) (chain_on site m other seen w fresh term) (omega (arith, far))))
  where
    go : (b : Bool) → list_any (λ x. m == x) seen ≡ b
        → (list_any (λ x. m == x) seen ≡ false → solved (suc depth) site facts m ≡ solved (suc (suc depth)) site facts m) →
        solved (suc depth) site facts m ≡ solved (suc (suc depth)) site facts m
    go true e f = absurd (free m (w.leads m e))
    go false e f = f e

agrees : (site : Site) (facts : Facts) (v w : ℕ → Bool) → HasNoCycle site → IsSolution site facts v → IsSolution site facts w →
    (fuel m : ℕ) (seen : List ℕ) → Chain site m seen → length site.markers < fuel + length seen → v m ≡ w m
agrees site facts v w free sv sw zero m seen chain far = absurd (chain_fits site m seen chain (omega (arith, far)))
agrees site facts v w free sv sw (suc fuel) m seen chain far = go (list_any (λ x. m == x) seen) refl
    (λ fresh. sv m ∙ (equation_same site facts v w m
    (λ other term. agrees site facts v w free sv sw fuel other (m ∷ seen) (chain_on site m other seen chain fresh term) (omega (arith, far))) ∙ sym
    (sw m)))
  where
    go : (b : Bool) → list_any (λ x. m == x) seen ≡ b → (list_any (λ x. m == x) seen ≡ false → v m ≡ w m) → v m ≡ w m
    go true e f = absurd (free m (chain.leads m e))
    go false e f = f e

pub the_values_solve : (site : Site) (facts : Facts) → HasNoCycle site → IsSolution site facts (the_values site facts)
the_values_solve site facts free m = settles site facts free (suc (length site.markers)) m [] (no_chain site m) (omega arith)

pub same_solution : (site : Site) (facts : Facts) (v w : ℕ → Bool) → HasNoCycle site → IsSolution site facts v → IsSolution site facts w → (m : ℕ)
    → v m ≡ w m
same_solution site facts v w free sv sw m = agrees site facts v w free sv sw (suc (length site.markers)) m [] (no_chain site m) (omega arith)

pub one_solution_of : (site : Site) (facts : Facts) → HasNoCycle site → HasOneSolution site facts
one_solution_of site facts free = record {
  values = the_values site facts;
  solves = the_values_solve site facts free;
  only = λ other is m. same_solution site facts other (the_values site facts) free is (the_values_solve site facts free) m;
}

solved_more : (site : Site) (fewer more : Facts) → AreWithin fewer more → (depth m : ℕ) → solved depth site fewer m ≡ true
    → solved depth site more m ≡ true
solved_more site fewer more within zero m h = h
solved_more site fewer more within (suc depth) m h =
    equation_more site fewer more (solved depth site fewer) (solved depth site more) within (solved_more site fewer more within depth) m h

pub more_kept : (site : Site) (fewer more : Facts) (before after : ℕ → Bool) → HasNoCycle site → AreWithin fewer more → IsSolution site fewer before
    → IsSolution site more after →
    (m : ℕ) → before m ≡ true → after m ≡ true
more_kept site fewer more before after free within sb sa m h =
    same_solution site more after (the_values site more) free sa (the_values_solve site more free) m ∙
    solved_more site fewer more within (suc (length site.markers)) m
    (sym (same_solution site fewer before (the_values site fewer) free sb (the_values_solve site fewer free) m) ∙ h)
