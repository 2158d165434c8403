-- Laws of what is left to read.
use Rattle.std.proofs.Common.{◌≡◌, ℕ, ◌+◌, ◌<◌, min, List, [], ◌∷◌, ◌++◌, length, refl, arith, take, drop, take-append-drop, drop-drop, Option, sym, ap, ◌∙◌}
use Rattle.std.proofs.KnownBytes.{Consumes-nil, Consumes-trans}
use Rattle.panel_edges.specs.Contents.{Consumes, HasTaken}

-- nothing was read
pub consumes_none : (a : Option (List ℕ)) → Consumes a a []
consumes_none a = Consumes-nil a

-- what two reads took, one after the other
pub consumes_more : (a b c : Option (List ℕ)) (xs ys : List ℕ) → Consumes a b xs → Consumes b c ys → Consumes a c (xs ++ ys)
consumes_more a b c xs ys g h = Consumes-trans a b c xs ys g h

-- a fault moves nothing
pub consumes_same : (a b c : Option (List ℕ)) (xs : List ℕ) → c ≡ b → Consumes a b xs → Consumes a c xs
consumes_same a b c xs e g = rw e g

-- a read of the next bytes, and what is left behind them
pub read_front : (bytes into : List ℕ) (at n : ℕ) → take n into ≡ take n (drop at bytes) → drop at bytes ≡ take n into ++ drop (at + n) bytes
read_front bytes into at n e =
    sym (take-append-drop n (drop at bytes)) ∙ ap (λ xs. xs ++ drop n (drop at bytes)) (sym e) ∙ ap (λ xs. take n into ++ xs) (drop-drop n at bytes)

empty : (xs : List ℕ) → length xs ≡ 0 → xs ≡ []
empty [] none = refl
empty (x ∷ xs) none = absurd (omega (arith, none))

-- a read that copies as many of the next bytes as there are and fit, of which some fit
pub has_taken : (bytes into : List ℕ) (at n : ℕ) → 0 < length into → n ≡ min (length into) (length (drop at bytes))
    → take n into ≡ take n (drop at bytes) → HasTaken (drop at bytes) (drop (at + n) bytes) into n
has_taken bytes into at n some count copied = record {
  bound = omega (arith, count);
  bytes = read_front bytes into at n copied;
  ends = (
    λ none. empty (drop at bytes) (omega (arith, none, count, some)),
    λ none. (let left : length (drop at bytes) ≡ 0 = ap length none in omega (arith, left, count)),
  );
}
