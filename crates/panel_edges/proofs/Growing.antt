-- Laws of what was written.
use Rattle.std.proofs.Common.{◌≡◌, ℕ, List, [], ◌++◌, take, drop, Option, Some, None, refl, sym, ◌∙◌, ap, append_assoc, append-nil, take-append-drop}
use Rattle.panel_edges.specs.Contents.{Grows, GrowsByFront}

-- nothing came behind
pub grows_none : (a : Option (List ℕ)) → Grows a a []
grows_none None = tt
grows_none (Some xs) = (xs, refl, sym (append-nil xs))

-- what two writes brought, one after the other
pub grows_more : (a b c : Option (List ℕ)) (xs ys : List ℕ) → Grows a b xs → Grows b c ys → Grows a c (xs ++ ys)
grows_more a b None xs ys g h = tt
grows_more a None (Some z) xs ys g h = cc
grows_more a (Some y) (Some z) xs ys g h =
    (g.0, g.1, h.2 ∙ ap (λ ws. ws ++ ys) (some_same h.1) ∙ ap (λ ws. ws ++ ys) g.2 ∙ append_assoc g.0 xs ys)
  where
    some_same : {u v : List ℕ} → Some u ≡ Some v → v ≡ u
    some_same e = cc

-- a fault appends nothing
pub grows_same : (a b c : Option (List ℕ)) (xs : List ℕ) → c ≡ b → Grows a b xs → Grows a c xs
grows_same a b c xs e g = rw e g

-- bytes that all came are a front of themselves
pub front_all : (a b : Option (List ℕ)) (xs : List ℕ) → Grows a b xs → GrowsByFront a b xs
front_all a b xs g = (xs, [], sym (append-nil xs), g)

-- a front of what comes next is a front of the whole
pub front_more : (a b c : Option (List ℕ)) (xs ys : List ℕ) → Grows a b xs → GrowsByFront b c ys → GrowsByFront a c (xs ++ ys)
front_more a b c xs ys g h = (xs ++ h.0, h.1, ap (λ ws. xs ++ ws) h.2 ∙ sym (append_assoc xs h.0 h.1), grows_more a b c xs h.0 g h.3)

-- a front of a text is a front of a longer one
pub front_longer : (a b : Option (List ℕ)) (xs ys : List ℕ) → GrowsByFront a b xs → GrowsByFront a b (xs ++ ys)
front_longer a b xs ys h = (h.0, h.1 ++ ys, ap (λ ws. ws ++ ys) h.2 ∙ append_assoc h.0 h.1 ys, h.3)

-- nothing was written of these bytes
pub front_none : (a b : Option (List ℕ)) (xs : List ℕ) → b ≡ a → GrowsByFront a b xs
front_none a b xs e = ([], xs, refl, grows_same a a b [] e (grows_none a))

-- a text whose front was written, after the first bytes of its rest
pub split_more : (text front rest back : List ℕ) (n : ℕ) → text ≡ front ++ rest → back ≡ drop n rest → text ≡ (front ++ take n rest) ++ back
split_more text front rest back n e f =
    e ∙ ap (λ xs. front ++ xs) (sym (take-append-drop n rest)) ∙ ap (λ xs. front ++ (take n rest ++ xs)) (sym f) ∙ sym
    (append_assoc front (take n rest) back)
