-- Which panels show the same stays known where a face is put.
use Rattle.std.proofs.Common.{◌≡◌, ◌≢◌, ◌∙◌, ◌<◌, ◌==◌, ◌⊎◌, inl, inr, ℕ, zero, suc, Bool, true, false, List, [], ◌∷◌, Some}
use Rattle.std.proofs.Common.{get_or, length, length-set, set, slice_get, refl, sym, ap, subst, get_or-set_other, get_or-set_same}
use Rattle.std.proofs.lemmas.Bool.Decides.{eqb_tells}
use Rattle.std.proofs.lemmas.Option.{slice_get-get_or}
use Rattle.face_text.specs.declared.face.Face.{Face}
use Rattle.site_run.specs.AlikeFaces.{ShowAlike}

-- nothing is known to be alike
pub none_alike : (before after : List Face) → ShowAlike (false ∷ false ∷ false ∷ false ∷ false ∷ false ∷ false ∷ false ∷ []) before after
none_alike before after place on = absurd (none place on)
  where
    none : (place : ℕ) → get_or (false ∷ false ∷ false ∷ false ∷ false ∷ false ∷ false ∷ false ∷ []) place false ≡ true → ⊥
    none zero on = cc
    none (suc zero) on = cc
    none (suc (suc zero)) on = cc
    none (suc (suc (suc zero))) on = cc
    none (suc (suc (suc (suc zero)))) on = cc
    none (suc (suc (suc (suc (suc zero))))) on = cc
    none (suc (suc (suc (suc (suc (suc zero)))))) on = cc
    none (suc (suc (suc (suc (suc (suc (suc zero))))))) on = cc
    none (suc (suc (suc (suc (suc (suc (suc (suc place)))))))) on = cc

pub backwards : (alike : List Bool) (one other : List Face) → ShowAlike alike one other → ShowAlike alike other one
backwards alike one other h place on = sym (h place on)

-- what stands at another place than the one at which something was put
put_elsewhere : (faces : List Face) (k place : ℕ) (face : Face) → place ≢ k → slice_get (set faces k face) place ≡ slice_get faces place
put_elsewhere [] k place face apart = refl
put_elsewhere (x ∷ faces) zero zero face apart = absurd (apart refl)
put_elsewhere (x ∷ faces) zero (suc place) face apart = refl
put_elsewhere (x ∷ faces) (suc k) zero face apart = refl
put_elsewhere (x ∷ faces) (suc k) (suc place) face apart = put_elsewhere faces k place face (λ same. apart (ap suc same))

same_or_other : (m n : ℕ) → (m ≡ n) ⊎ (m ≢ n)
same_or_other m n = by (eqb_tells m n)
  where
    by : (((m == n) ≡ true) × (m ≡ n)) ⊎ (((m == n) ≡ false) × (m ≢ n)) → (m ≡ n) ⊎ (m ≢ n)
    by (inl h) = inl h.1
    by (inr h) = inr h.1

module _ (alike : List Bool) (faces shown : List Face) (k : ℕ) (face : Face) (h : ShowAlike alike faces shown) (within : k < length alike) where
  elsewhere : (on : Bool) (place : ℕ) → place ≢ k → get_or (set alike k on) place false ≡ true
      → slice_get (set faces k face) place ≡ slice_get shown place
  elsewhere on place apart is =
      put_elsewhere faces k place face apart ∙ h place (sym (get_or-set_other alike k place on false apart) ∙ is)

  -- a face was put, and whether it is the one that is shown
  pub put_one : (on : Bool) → k < length faces → (on ≡ true → slice_get shown k ≡ Some face) → ShowAlike (set alike k on) (set faces k face) shown
  put_one on less is place marked = by (same_or_other place k)
    where
      here : place ≡ k → slice_get (set faces k face) place ≡ slice_get shown place
      here same =
          ap (slice_get (set faces k face)) same
          ∙ slice_get-get_or (set faces k face) k face (subst (λ n. k < n) (sym (length-set faces k face)) less)
          ∙ ap Some (get_or-set_same faces k face face less)
          ∙ sym (is (sym (get_or-set_same alike k on false within) ∙ ap (λ n. get_or (set alike k on) n false) (sym same) ∙ marked))
          ∙ ap (slice_get shown) (sym same)

      by : (place ≡ k) ⊎ (place ≢ k) → slice_get (set faces k face) place ≡ slice_get shown place
      by (inl same) = here same
      by (inr apart) = elsewhere on place apart marked
