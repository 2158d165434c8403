-- Texts that were put one after another behind what was held.
use Rattle.std.proofs.Common.{◌≡◌, ◌∙◌, ◌++◌, ℕ, List, [], Option, Result, Ok, Err, sym, ap, subst, append_assoc, append-nil}
use Rattle.std.specs.Prelude.{IsErr, OnErr, OnOk}
use Rattle.panel_edges.specs.Contents.{Grows, GrowsByFront}
use Rattle.panel_edges.proofs.Growing.{grows_none, grows_more, front_longer, front_more}
use Rattle.face_text.specs.Holding.{Moves, Puts}

pub moves_none : (held : List ℕ) (a : Option (List ℕ)) → Moves held held a a []
moves_none held a = ([], append-nil held, grows_none a)

pub moves_more : (h i j : List ℕ) (a b c : Option (List ℕ)) (x y : List ℕ) → Moves h i a b x → Moves i j b c y → Moves h j a c (x ++ y)
moves_more h i j a b c x y m n = (
  m.0 ++ n.0,
  sym (append_assoc h x y) ∙ ap (λ ws. ws ++ y) m.1 ∙ append_assoc m.0 i y ∙ ap (λ ws. m.0 ++ ws) n.1 ∙ sym (append_assoc m.0 n.0 j),
  grows_more a b c m.0 n.0 m.2 n.2,
)

-- a write failed behind a text that was put
pub broke_more : (h i : List ℕ) (a b c : Option (List ℕ)) (x y : List ℕ) → Moves h i a b x → GrowsByFront b c (i ++ y)
    → GrowsByFront a c (h ++ (x ++ y))
broke_more h i a b c x y m g =
    let same : m.0 ++ (i ++ y) ≡ h ++ (x ++ y) = sym (append_assoc m.0 i y) ∙ ap (λ ws. ws ++ y) (sym m.1) ∙ append_assoc h x y in
    subst (GrowsByFront a c) same (front_more a b c m.0 (i ++ y) m.2 g)

-- a write failed before the rest of a text
pub broke_longer : (h : List ℕ) (a b : Option (List ℕ)) (x y : List ℕ) → GrowsByFront a b (h ++ x) → GrowsByFront a b (h ++ (x ++ y))
broke_longer h a b x y g = subst (GrowsByFront a b) (append_assoc h x y) (front_longer a b (h ++ x) y g)

pub puts_none : {E : Type 0} (held : List ℕ) (a : Option (List ℕ)) → Puts {T = Unit {0}} {E = E} held held a a [] (Ok tt)
puts_none held a = record { ok = moves_none held a; err = tt }

-- what was put in two steps
pub puts_more : {T E : Type 0} (h i j : List ℕ) (a b c : Option (List ℕ)) (x y : List ℕ) (r : Result T E) → Moves h i a b x → Puts i j b c y r
    → Puts h j a c (x ++ y) r
puts_more h i j a b c x y (Ok t) m p = record { ok = moves_more h i j a b c x y m p.ok; err = tt }
puts_more h i j a b c x y (Err e) m p = record { ok = tt; err = broke_more h i a b c x y m p.err }

pub puts_as : {T E : Type 0} (h i : List ℕ) (a b : Option (List ℕ)) (x y : List ℕ) (r : Result T E) → x ≡ y → Puts h i a b x r → Puts h i a b y r
puts_as h i a b x y r same p = subst (λ (t : List ℕ). Puts h i a b t r) same p

pub moves_as : (h i : List ℕ) (a b : Option (List ℕ)) (x y : List ℕ) → x ≡ y → Moves h i a b x → Moves h i a b y
moves_as h i a b x y same m = subst (Moves h i a b) same m

pub broke_as : (h x y : List ℕ) (a b : Option (List ℕ)) → x ≡ y → GrowsByFront a b (h ++ x) → GrowsByFront a b (h ++ y)
broke_as h x y a b same g = subst (λ (t : List ℕ). GrowsByFront a b (h ++ t)) same g

-- nothing is put of an empty text
pub puts_nothing : {E : Type 0} (held : List ℕ) (a : Option (List ℕ)) (text : List ℕ) → text ≡ []
    → Puts {T = Unit {0}} {E = E} held held a a text (Ok tt)
puts_nothing held a text none = puts_as held held a a [] text (Ok tt) (sym none) (puts_none held a)

-- a text was put up to a part at which a write failed
pub puts_broken : {T E : Type 0} (h i j : List ℕ) (a b c : Option (List ℕ)) (x y rest text : List ℕ) (r : Result T E) → IsErr r
    → text ≡ (x ++ y) ++ rest → Moves h i a b x → GrowsByFront b c (i ++ y) →
    Puts h j a c text r
puts_broken h i j a b c x y rest text (Ok t) err whole m g = cc
puts_broken h i j a b c x y rest text (Err e) err whole m g =
    record {
      ok = tt;
      err =
          subst (λ (t : List ℕ). GrowsByFront a c (h ++ t)) (sym whole) (broke_longer h a c (x ++ y) rest (broke_more h i a b c x y m g));
    }

-- a write failed before anything of a text was put
pub puts_failed : {T E : Type 0} (h i : List ℕ) (a b : Option (List ℕ)) (text : List ℕ) (r : Result T E) → IsErr r → GrowsByFront a b (h ++ text)
    → Puts h i a b text r
puts_failed h i a b text (Ok t) err g = cc
puts_failed h i a b text (Err e) err g = record { ok = tt; err = g }

pub on_broken : {T E P : Type 0} (r : Result T E) → IsErr r → P → OnErr r P
on_broken (Ok t) err p = cc
on_broken (Err e) err p = p

-- behind nothing a text was put up to a part at which a write failed
pub front_of : {T E : Type 0} (h i : List ℕ) (a b c : Option (List ℕ)) (x y rest text : List ℕ) (r : Result T E) → h ≡ [] → IsErr r
    → text ≡ (x ++ y) ++ rest → Moves h i a b x →
    GrowsByFront b c (i ++ y) → OnErr r (GrowsByFront a c text)
front_of h i a b c x y rest text r none err whole m g =
    let front = broke_longer h a c (x ++ y) rest (broke_more h i a b c x y m g) in
    on_broken r err (subst (GrowsByFront a c) (ap (λ (t : List ℕ). t ++ ((x ++ y) ++ rest)) none ∙ sym whole) front)

-- behind nothing a text was put, and then all that was held was written
pub all_written : {T E : Type 0} (h i : List ℕ) (a b c : Option (List ℕ)) (x text : List ℕ) (r : Result T E) → h ≡ [] → text ≡ x → Moves h i a b x
    → OnOk r (Grows b c i) → OnOk r (Grows a c text)
all_written h i a b c x text (Ok t) none whole m g =
    subst (Grows a c) (sym m.1 ∙ ap (λ (t : List ℕ). t ++ x) none ∙ sym whole) (grows_more a b c m.0 i m.2 g)
all_written h i a b c x text (Err e) none whole m g = tt

pub part_written : {T E : Type 0} (h i : List ℕ) (a b c : Option (List ℕ)) (x text : List ℕ) (r : Result T E) → h ≡ [] → text ≡ x → Moves h i a b x
    → OnErr r (GrowsByFront b c i) →
    OnErr r (GrowsByFront a c text)
part_written h i a b c x text (Ok t) none whole m g = tt
part_written h i a b c x text (Err e) none whole m g =
    subst (GrowsByFront a c) (sym m.1 ∙ ap (λ (t : List ℕ). t ++ x) none ∙ sym whole) (front_more a b c m.0 i m.2 g)

-- a text that was put to its end
pub puts_all : {E : Type 0} (h i : List ℕ) (a b : Option (List ℕ)) (x text : List ℕ) → text ≡ x → Moves h i a b x
    → Puts {T = Unit {0}} {E = E} h i a b text (Ok tt)
puts_all h i a b x text whole m = record { ok = subst (Moves h i a b) (sym whole) m; err = tt }

-- one part more
pub moves_next : (h i j : List ℕ) (a b c : Option (List ℕ)) (x y xy : List ℕ) → xy ≡ x ++ y → Moves h i a b x → Moves i j b c y → Moves h j a c xy
moves_next h i j a b c x y xy same m n = subst (Moves h j a c) (sym same) (moves_more h i j a b c x y m n)
