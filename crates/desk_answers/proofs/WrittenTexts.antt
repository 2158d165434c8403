-- Answers that are written in one piece or in two.
use Rattle.std.proofs.Common.{◌≡◌, ◌∙◌, ◌++◌, List, ℕ, [], Option, Result, Ok, Err, ap, subst}
use Rattle.std.specs.Prelude.{IsErr, OnErr, OnOk}
use Rattle.panel_edges.specs.Contents.{Grows, GrowsByFront}
use Rattle.panel_edges.proofs.Growing.{front_longer, front_more, grows_more}

-- a text that was put together of a head and a body
pub joined : (empty head body first whole h b shown : List ℕ) → empty ≡ [] → first ≡ empty ++ h → whole ≡ first ++ b → h ≡ head → b ≡ body
    → shown ≡ whole → shown ≡ head ++ body
joined empty head body first whole h b shown none put more is_head is_body same =
    same ∙ more ∙ ap (λ (xs : List ℕ). xs ++ b) (put ∙ ap (λ (xs : List ℕ). xs ++ h) none ∙ is_head) ∙ ap (λ (xs : List ℕ). head ++ xs) is_body

-- a write failed
pub broken_as : {T E : Type 0} (r : Result T E) (a b : Option (List ℕ)) (x y : List ℕ) → x ≡ y → OnErr r (GrowsByFront a b x) → OnErr r (GrowsByFront a b y)
broken_as r a b x y same front = subst (λ (xs : List ℕ). OnErr r (GrowsByFront a b xs)) same front

-- the first of two writes failed
pub broken_first : {T E : Type 0} (r : Result T E) (a b : Option (List ℕ)) (x head body : List ℕ) → IsErr r → x ≡ head → GrowsByFront a b x
    → OnErr r (GrowsByFront a b (head ++ body))
broken_first (Ok done) a b x head body failed same front = cc
broken_first (Err e) a b x head body failed same front = front_longer a b head body (subst (λ (xs : List ℕ). GrowsByFront a b xs) same front)

-- the first of two writes succeeded
pub both_written : {T E : Type 0} (r : Result T E) (a b c : Option (List ℕ)) (x head body : List ℕ) → x ≡ head → Grows a b x → OnOk r (Grows b c body)
    → OnOk r (Grows a c (head ++ body))
both_written (Ok done) a b c x head body same first second = grows_more a b c head body (subst (λ (xs : List ℕ). Grows a b xs) same first) second
both_written (Err e) a b c x head body same first second = tt

pub broken_second : {T E : Type 0} (r : Result T E) (a b c : Option (List ℕ)) (x head body : List ℕ) → x ≡ head → Grows a b x
    → OnErr r (GrowsByFront b c body) → OnErr r (GrowsByFront a c (head ++ body))
broken_second (Ok done) a b c x head body same first second = tt
broken_second (Err e) a b c x head body same first second = front_more a b c head body (subst (λ (xs : List ℕ). Grows a b xs) same first) second
