-- What was written, step by step.
use Rattle.std.proofs.Common.{◌∙◌, ◌++◌, List, ℕ, [], Option, Some, None, sym, ap, subst, append_assoc, append-nil}
use Rattle.std.specs.Prelude.{IfSome}
use Rattle.panel_edges.specs.Contents.{Grows}
use Rattle.panel_edges.proofs.Growing.{grows_none, grows_more}
use Rattle.site_run.specs.Writings.{Advances}

pub some_weaker : {A : Type 0} {P Q : A → Type 0} (o : Option A) → ((x : A) → P x → Q x) → IfSome o P → IfSome o Q
some_weaker None f h = h
some_weaker (Some x) f h = f x h

-- the text stays as it is
pub stays : (a : Option (List ℕ)) (text : List ℕ) → Advances a a text text
stays a text = ([], sym (append-nil text), grows_none a)

pub advances_more : (a b c : Option (List ℕ)) (x y z : List ℕ) → Advances a b x y → Advances b c y z → Advances a c x z
advances_more a b c x y z g h = (g.0 ++ h.0, h.1 ∙ ap (λ xs. xs ++ h.0) g.1 ∙ append_assoc x g.0 h.0, grows_more a b c g.0 h.0 g.2 h.2)

-- a text behind one that was written
pub grows_then : (a b c : Option (List ℕ)) (x y : List ℕ) → Grows a b x → Advances b c x y → Grows a c y
grows_then a b c x y g h = subst (Grows a c) (sym h.1) (grows_more a b c x h.0 g h.2)

pub some_always : {A : Type 0} {P : A → Type 0} (o : Option A) → ((x : A) → P x) → IfSome o P
some_always None f = tt
some_always (Some x) f = f x
