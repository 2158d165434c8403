-- Items of a list, one after another.
use Rattle.std.proofs.Common.{◌≡◌, ◌∙◌, ◌++◌, Bool, true, false, List, [], ◌∷◌, ℕ, refl, sym, ap, append_assoc, if◌then◌else◌}
use Rattle.std.specs.List.{flat_map, range_with_len}
use Rattle.site_types.specs.declared.site.Site.{Site}
use Rattle.face_text.specs.declared.face.Face.{Face}
use Rattle.face_text.specs.declared.face_list.FaceList.{FaceList}
use Rattle.face_text.specs.declared.group.Group.{Group}
use Rattle.face_text.specs.Lists.{begun_after, comma, group_items, is_in, item_of, items_in, listed, named_item, quoted}
use Rattle.face_text.specs.Slots.{last_of, name_in, shows}

pub begun_more : (begun : Bool) (xs ys : List (List ℕ)) → begun_after begun (xs ++ ys) ≡ begun_after (begun_after begun xs) ys
begun_more begun [] ys = refl
begun_more begun (x ∷ xs) [] = refl
begun_more begun (x ∷ xs) (y ∷ ys) = refl

pub listed_more : (begun : Bool) (xs ys : List (List ℕ)) → listed begun (xs ++ ys) ≡ listed begun xs ++ listed (begun_after begun xs) ys
listed_more begun [] ys = refl
listed_more begun (x ∷ xs) ys =
    ap (λ text. (comma begun ++ quoted x) ++ text) (listed_more true xs ys ∙ ap (λ b. listed true xs ++ listed b ys) (begun_true xs))
    ∙ sym (append_assoc (comma begun ++ quoted x) (listed true xs) (listed true ys))
  where
    begun_true : (zs : List (List ℕ)) → begun_after true zs ≡ true
    begun_true [] = refl
    begun_true (z ∷ zs) = refl

-- the items so far, one more part, and the rest
pub part_listed : (begun now : Bool) (all so_far part rest : List (List ℕ)) → all ≡ (so_far ++ part) ++ rest → now ≡ begun_after begun so_far →
    listed begun all ≡ (listed begun so_far ++ listed now part) ++ listed (begun_after begun (so_far ++ part)) rest
part_listed begun now all so_far part rest whole is =
    ap (listed begun) whole ∙ listed_more begun (so_far ++ part) rest
    ∙ ap (λ text. text ++ listed (begun_after begun (so_far ++ part)) rest)
    (listed_more begun so_far part ∙ ap (λ b. listed begun so_far ++ listed b part) (sym is))

pub next_listed : (begun now : Bool) (all so_far part : List (List ℕ)) → all ≡ so_far ++ part → now ≡ begun_after begun so_far
    → listed begun all ≡ listed begun so_far ++ listed now part
next_listed begun now all so_far part whole is =
    ap (listed begun) whole ∙ listed_more begun so_far part ∙ ap (λ b. listed begun so_far ++ listed b part) (sym is)

pub next_begun : (begun now after : Bool) (all so_far part : List (List ℕ)) → all ≡ so_far ++ part → now ≡ begun_after begun so_far
    → after ≡ begun_after now part → after ≡ begun_after begun all
next_begun begun now after all so_far part whole is moved =
    moved ∙ ap (λ b. begun_after b part) is ∙ sym (ap (begun_after begun) whole ∙ begun_more begun so_far part)

-- a group of which nothing is shown has no item
pub blank_items : (site : Site) (face : Face) (list : FaceList) (group : Group) → ((number : ℕ) → shows face group number ≡ false)
    → items_in site face list group ≡ []
blank_items site face list group blank = go (is_in list group)
  where
    numbers : (all : List ℕ) → flat_map (item_of site face group) all ≡ []
    numbers [] = refl
    numbers (number ∷ all) =
        ap (λ b. (if b then named_item group (name_in site face.panel group number) else []) ++ flat_map (item_of site face group) all) (blank number)
        ∙ numbers all

    go : (b : Bool) → (if b then group_items site face group (last_of group) else []) ≡ []
    go true = numbers (range_with_len 1 (last_of group))
    go false = refl
