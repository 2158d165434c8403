-- The faces of one panel more.
use Rattle.std.proofs.Common.{◌≡◌, ◌∙◌, ◌+◌, ◌++◌, ℕ, List, [], ◌∷◌, ap, arith, map, sym}
use Rattle.std.specs.List.{range_with_len}
use Rattle.std.proofs.lemmas.List.FromFn.{map-range_with_len_more}
use Rattle.face_text.specs.declared.face.Face.{Face}

pub more_faces : (f : ℕ → Face) (place : ℕ) (before after : List Face) (face : Face) → before ≡ map f (range_with_len 1 place) → face ≡ f (place + 1)
    → after ≡ before ++ face ∷ [] → after ≡ map f (range_with_len 1 (place + 1))
more_faces f place before after face was is more =
    more ∙ ap (λ xs. xs ++ face ∷ []) was ∙ ap (λ x. map f (range_with_len 1 place) ++ x ∷ []) is ∙ sym
    (map-range_with_len_more f 1 place (place + 1) (omega arith))
