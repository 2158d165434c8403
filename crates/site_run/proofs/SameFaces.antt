-- Faces are the same as themselves, and those of two lists where each is.
use Rattle.std.proofs.Common.{◌≡◌, ◌∙◌, ◌<◌, ◌&&◌, ℕ, zero, suc, not, Bool, true, false, List, [], ◌∷◌, Some, length, get_or, slice_get, sym, ap, refl, arith}
use Rattle.std.proofs.lemmas.Option.{slice_get-get_or}
use Rattle.face_text.specs.declared.face.Face.{Face}
use Rattle.face_text.specs.Faces.{same_face, same_faces}
use Rattle.panel_laws.proofs.TimelineForms.{faces_self}

pub none_differ : (after before : List Face) → before ≡ after → false ≡ not (same_faces after before)
none_differ after before same =
    ap not (sym (faces_self after)) ∙ ap (λ faces. not (same_faces after faces)) (sym same)

some_is : (a b : Face) → Some a ≡ Some b → a ≡ b
some_is a b e = cc

-- two lists of one length that have the same face at each place
pub same_lists : (before after : List Face) → length before ≡ length after
    → ((k : ℕ) → k < length after → slice_get before k ≡ slice_get after k) → before ≡ after
same_lists [] [] long same = refl
same_lists [] (y ∷ ys) long same = absurd (omega (arith, long))
same_lists (x ∷ xs) [] long same = absurd (omega (arith, long))
same_lists (x ∷ xs) (y ∷ ys) long same =
    ap (λ z. z ∷ xs) (some_is x y (same 0 (omega arith)))
    ∙ ap (λ zs. y ∷ zs) (same_lists xs ys (omega (arith, long)) (λ k less. same (suc k) (omega (arith, less))))

neither : (a : Bool) → (a && false) ≡ false
neither true = refl
neither false = refl

-- where those of one place aren't the same, the lists aren't
pub one_differs : (after before : List Face) (k : ℕ) (new old : Face) → slice_get after k ≡ Some new → slice_get before k ≡ Some old
    → same_face new old ≡ false → same_faces after before ≡ false
one_differs [] before k new old a b differ = absurd (let e = a in cc)
one_differs (x ∷ after) [] k new old a b differ = refl
one_differs (x ∷ after) (y ∷ before) zero new old a b differ =
    ap (λ one. same_face one y && same_faces after before) (some_is x new a)
    ∙ ap (λ one. same_face new one && same_faces after before) (some_is y old b)
    ∙ ap (λ t. t && same_faces after before) differ
one_differs (x ∷ after) (y ∷ before) (suc k) new old a b differ =
    ap (λ t. same_face x y && t) (one_differs after before k new old a b differ) ∙ neither (same_face x y)

-- the face at a place of a list that has one there
pub some_read : (faces : List Face) (k : ℕ) (face other : Face) → k < length faces → face ≡ get_or faces k other → slice_get faces k ≡ Some face
some_read faces k face other within is = slice_get-get_or faces k other within ∙ ap Some (sym is)

pub not_same : (same : Bool) → not same ≡ true → same ≡ false
not_same false e = refl
not_same true e = cc

pub not_other : (same : Bool) → not same ≡ false → same ≡ true
not_other true e = refl
not_other false e = cc
