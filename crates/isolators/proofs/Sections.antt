-- Where the section of a piece begins.
use Rattle.std.proofs.Common.{◌≡◌, ℕ, ◌+◌, ◌≤◌, ◌==◌, List, [], ◌∷◌, Bool, true, false, ◌||◌, max, nat_lt, if◌then◌else◌, refl, sym, arith}
use Rattle.std.specs.List.{list_any}
use Rattle.std.proofs.lemmas.Bool.Decides.{nat_tests}
use Rattle.site_types.specs.Sections.{section_of, section_of_piece}

below_case : (i k rest : ℕ) → rest ≤ k → (if nat_lt i (k + 1) then max i rest else rest) ≤ k
below_case i k rest h = grind (arith, nat_tests)

pub section_below : (isolators : List ℕ) (k : ℕ) → section_of_piece isolators k ≤ k
section_below [] k = omega arith
section_below (i ∷ others) k = below_case i k (section_of_piece others k) (section_below others k)

step_case : (i k before here : ℕ) (b : Bool) → (if b then k else before) ≡ here → here ≤ k
    → (if (i == k) || b then k else (if nat_lt i k then max i before else before)) ≡ (if nat_lt i (k + 1) then max i here else here)
step_case i k before here true e h = grind (arith, nat_tests)
step_case i k before here false e h = grind (arith, nat_tests)

-- a section begins at a piece behind an isolator, else where that of the address before it began
pub section-next : (isolators : List ℕ) (k : ℕ)
    → section_of_piece isolators k ≡ (if list_any (λ isolator. isolator == k) isolators then k else section_of isolators k)
section-next [] k = refl
section-next (i ∷ others) k =
    sym (step_case i k (section_of others k) (section_of_piece others k) (list_any (λ isolator. isolator == k) others) (sym (section-next others k))
    (section_below others k))

first_case : (i rest : ℕ) → rest ≡ 0 → (if nat_lt i 0 then max i rest else rest) ≡ 0
first_case i rest e = grind (arith, nat_tests)

pub section_first : (isolators : List ℕ) → section_of isolators 0 ≡ 0
section_first [] = refl
section_first (i ∷ others) = first_case i (section_of others 0) (section_first others)
