-- The lines of what changed, panel by panel.
use Rattle.std.proofs.Common.{◌≡◌, ◌<◌, ◌≤◌, ◌∙◌, ◌+◌, ◌++◌, ℕ, zero, suc, List, [], ◌∷◌, map, take, drop, length, get_or, Some, slice_get, refl, sym, ap, arith, append_assoc, append-nil}
use Rattle.std.specs.List.{range_with_len}
use Rattle.std.proofs.lemmas.List.{take_all}
use Rattle.std.proofs.lemmas.Option.{slice_get-get_or}
use Rattle.site_types.specs.declared.retained.Retained.{Retained}
use Rattle.site_types.specs.declared.site.Site.{Site}
use Rattle.face_text.specs.declared.face.Face.{Face}
use Rattle.face_text.specs.Changes.{changes_text}
use Rattle.face_text.specs.Timelines.{faces_text}
use Rattle.panel_rules.specs.Moments.{Moment}
use Rattle.panel_rules.specs.Timeline.{face_of}

some_is : (a b : Face) → Some a ≡ Some b → a ≡ b
some_is a b e = cc

-- one panel more
faces_next : (site : Site) (before after : List Face) (k : ℕ) (old new : Face) → slice_get before k ≡ Some old → slice_get after k ≡ Some new
    → faces_text site (take (suc k) before) (take (suc k) after) ≡ faces_text site (take k before) (take k after) ++ changes_text site old new
faces_next site [] after k old new b a = absurd (let e = b in cc)
faces_next site (x ∷ before) [] k old new b a = absurd (let e = a in cc)
faces_next site (x ∷ before) (y ∷ after) zero old new b a =
    let one = some_is x old b in
    let other = some_is y new a in
    append-nil (changes_text site x y) ∙ ap (λ f. changes_text site f y) one ∙ ap (λ f. changes_text site old f) other
faces_next site (x ∷ before) (y ∷ after) (suc k) old new b a =
    ap (λ xs. changes_text site x y ++ xs) (faces_next site before after k old new b a)
    ∙ sym (append_assoc (changes_text site x y) (faces_text site (take k before) (take k after)) (changes_text site old new))

plus_one : (k : ℕ) → k + 1 ≡ suc k
plus_one k = omega arith

faces_more : (site : Site) (before after : List Face) (k : ℕ) (old new : Face) → slice_get before k ≡ Some old → slice_get after k ≡ Some new
    → faces_text site (take (k + 1) before) (take (k + 1) after) ≡ faces_text site (take k before) (take k after) ++ changes_text site old new
faces_more site before after k old new b a =
    ap (λ n. faces_text site (take n before) (take n after)) (plus_one k) ∙ faces_next site before after k old new b a

pub faces_on : (site : Site) (before after : List Face) (k : ℕ) (face : Face) → length before ≡ length after → k < length after
    → faces_text site (take (k + 1) before) (take (k + 1) after)
    ≡ faces_text site (take k before) (take k after) ++ changes_text site (get_or before k face) (get_or after k face)
faces_on site before after k face same less =
    faces_more site before after k _ _ (slice_get-get_or before k face (omega (arith, less, same))) (slice_get-get_or after k face (omega (arith, less)))

-- the first faces of a list are those of the rules
abbrev pub ShowsFirst : Site → Retained → List Moment → ℕ → List Face → Type 0
ShowsFirst site kept before k faces = take k faces ≡ map (λ panel. face_of site kept panel before) (range_with_len 1 k)

-- a list in which the faces of all panels were put is those faces
pub all_put : {most : ℕ} (faces : List Face) (of : ℕ → Face) (k panels : ℕ) → length faces ≡ most → k ≤ most → most ≡ panels → most ≤ k
    → take k faces ≡ map of (range_with_len 1 k) → faces ≡ map of (range_with_len 1 panels)
all_put faces of k panels long within room over put =
    sym (take_all k faces (omega (arith, over, long, within))) ∙ put
    ∙ ap (λ n. map of (range_with_len 1 n)) (omega (arith, over, within, room))

none_left : (site : Site) (faces : List Face) → faces_text site faces [] ≡ []
none_left site [] = refl
none_left site (x ∷ faces) = refl

-- those of some panels, and of the others
pub faces_split : (site : Site) (before after : List Face) (k : ℕ)
    → faces_text site before after ≡ faces_text site (take k before) (take k after) ++ faces_text site (drop k before) (drop k after)
faces_split site before after zero = refl
faces_split site [] after (suc k) = refl
faces_split site (x ∷ before) [] (suc k) = sym (none_left site (drop k before))
faces_split site (x ∷ before) (y ∷ after) (suc k) =
    ap (λ xs. changes_text site x y ++ xs) (faces_split site before after k)
    ∙ sym (append_assoc (changes_text site x y) (faces_text site (take k before) (take k after)) (faces_text site (drop k before) (drop k after)))
