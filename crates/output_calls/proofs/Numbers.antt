-- An output of a valid site is found by its panel and its number.
use Rattle.std.proofs.Common.{◌≡◌, ◌==◌, ◌&&◌, ℕ, zero, suc, Bool, true, false, List, [], ◌∷◌, Option, Some, None, slice_get}
use Rattle.std.proofs.Common.{if◌then◌else◌, refl, sym, ◌∙◌, ap, arith}
use Rattle.std.specs.List.{find}
use Rattle.site_types.specs.declared.output.Output.{Output}
use Rattle.site_types.specs.declared.site.Site.{Site}
use Rattle.site_types.specs.Things.{numbered_output}
use Rattle.site_types.specs.Valid.{IsValid}
use Rattle.panel_rules.proofs.AnswersTell.{eq_true}
use Rattle.panel_rules.specs.Outputs.{output_numbered}
use Rattle.panel_rules.proofs.Bools.{both, parts}
use Rattle.panel_rules.proofs.ValidLayout.{position_unique}
use Rattle.panel_laws.proofs.AnswerLaws.{eq_is}

find_one : {X : Type 0} (test : X → Bool) (xs : List X) (i : ℕ) (x : X) → slice_get xs i ≡ Some x → test x ≡ true
    → ((j : ℕ) (y : X) → slice_get xs j ≡ Some y → test y ≡ true → j ≡ i) → find test xs ≡ Some x
find_one test [] i x is holds alone = cc
find_one {X = X} test (y ∷ xs) i x is holds alone = go (test y) refl i is alone (find_one test xs)
  where
    go : (b : Bool) → test y ≡ b → (i : ℕ) → slice_get (y ∷ xs) i ≡ Some x → ((j : ℕ) (z : X) → slice_get (y ∷ xs) j ≡ Some z → test z ≡ true → j ≡ i)
        → ((i : ℕ) (x : X) → slice_get xs i ≡ Some x → test x ≡ true → ((j : ℕ) (z : X) → slice_get xs j ≡ Some z → test z ≡ true → j ≡ i)
        → find test xs ≡ Some x)
        → (if b then Some y else find test xs) ≡ Some x
    go true e zero is alone more = is
    go true e (suc i) is alone more = let same : zero ≡ suc i = alone 0 y refl e in cc
    go false e zero is alone more = let same : y ≡ x = cc in let t : test y ≡ true = ap test same ∙ holds in let never : true ≡ false = sym t ∙ e in cc
    go false e (suc i) is alone more = more i x is holds (λ j z at t. (let same = alone (suc j) z at t in omega (arith, same)))

two : (a b c d : ℕ) → a ≡ c → b ≡ d → ◌≡◌ {A = List ℕ} (a ∷ b ∷ []) (c ∷ d ∷ [])
two a b c d p q = cc

-- two outputs of a panel with one number are one
pub same_output : (site : Site) → IsValid site → (j i : ℕ) (other plan : Output) → slice_get site.outputs j ≡ Some other
    → slice_get site.outputs i ≡ Some plan → other.panel ≡ plan.panel → other.number ≡ plan.number → j ≡ i
same_output site valid j i other plan at is panels numbers =
    valid.twins.outputs j i other plan at is (two other.panel other.number plan.panel plan.number panels numbers)

pub numbered_is : (site : Site) → IsValid site → (output : ℕ) (plan : Output) → slice_get site.outputs output ≡ Some plan
    → numbered_output site plan.panel plan.number ≡ Some plan
numbered_is site valid output plan is =
    find_one (λ (o : Output). (o.panel == plan.panel) && (o.number == plan.number)) site.outputs output plan is
    (both _ _ (eq_true plan.panel plan.panel refl) (eq_true plan.number plan.number refl))
    (λ j o at t. (let g = parts (o.panel == plan.panel) (o.number == plan.number) t in
    same_output site valid j output o plan at is (eq_is o.panel plan.panel g.0) (eq_is o.number plan.number g.1)))

-- ---- a number that no output has

record IsFound {X : Type 0} (test : X → Bool) (xs : List X) (x : X) : Type 0 where
  place : ℕ
  is : slice_get xs place ≡ Some x
  passes : test x ≡ true

find_got : {X : Type 0} (test : X → Bool) (xs : List X) (x : X) → find test xs ≡ Some x → IsFound test xs x
find_got test [] x h = cc
find_got {X = X} test (y ∷ xs) x h = go (test y) refl h (find_got test xs x)
  where
    go : (b : Bool) → test y ≡ b → (if b then Some y else find test xs) ≡ Some x → (find test xs ≡ Some x → IsFound test xs x)
        → IsFound test (y ∷ xs) x
    go true e h more = let same : y ≡ x = cc in record { place = 0; is = h; passes = sym (ap test same) ∙ e }
    go false e h more = let found = more h in record { place = suc found.place; is = found.is; passes = found.passes }

pub none_found : (site : Site) → IsValid site → (panel number : ℕ) → output_numbered site panel number ≡ None
    → numbered_output site panel number ≡ None
none_found site valid panel number none = go (numbered_output site panel number) refl
  where
    go : (o : Option Output) → numbered_output site panel number ≡ o → o ≡ None
    go None is = refl
    go (Some plan) is =
        let test : Output → Bool = λ (o : Output). (o.panel == panel) && (o.number == number) in
        let found = find_got test site.outputs plan is in
        let mine = parts (plan.panel == panel) (plan.number == number) found.passes in
        let placed : output_numbered site panel number ≡ Some found.place =
        position_unique test site.outputs found.place plan found.is found.passes
        (λ j o at t. (let g = parts (o.panel == panel) (o.number == number) t in
        same_output site valid j found.place o plan at found.is (eq_is o.panel panel g.0 ∙ sym (eq_is plan.panel panel mine.0))
        (eq_is o.number number g.1 ∙ sym (eq_is plan.number number mine.1)))) in
        let never : None ≡ Some found.place = sym none ∙ placed in
        cc
