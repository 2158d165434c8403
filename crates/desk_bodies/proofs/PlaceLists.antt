-- The places of a list of names, name by name.
use Rattle.std.proofs.Common.{◌≡◌, ◌∙◌, ◌<◌, ◌≤◌, ◌+◌, ℕ, List, [], ◌∷◌, ◌++◌, suc, Option, Some, None, length, drop, get_or, refl, ap, sym, append_assoc, append-nil, add-one}
use Rattle.std.specs.Prelude.{option_map}
use Rattle.std.proofs.Math.Seq.{drop-cons}
use Rattle.std.proofs.lemmas.List.{drop_all}
use Rattle.std.specs.Option.{option_and_then}
use Rattle.serde_json.specs.Data.{Data, Items}
use Rattle.serde_json.specs.Events.{items_len}
use Rattle.serde_json.specs.View.{items_view, view}
use Rattle.serde_json.specs.declared.value.Value.{Value}
use Rattle.site_types.specs.declared.site.Site.{Site}
use Rattle.desk_bodies.specs.Bodies.{few_places, list_under, place_said, places_of, points_in, with_place}

-- places in front of the rest
abbrev pub placed : List ℕ → Option (List ℕ) → Option (List ℕ)
placed done rest = option_map (λ (places : List ℕ). done ++ places) rest

placed_one : (done : List ℕ) (place : ℕ) (rest : Option (List ℕ)) → placed done (with_place (Some place) rest) ≡ placed (done ++ place ∷ []) rest
placed_one done place None = refl
placed_one done place (Some places) = ap (λ (xs : List ℕ). Some xs) (sym (append_assoc done (place ∷ []) places))

-- with the next name
pub placed_more : (site : Site) (names : List Value) (k : ℕ) (d : Value) (done : List ℕ) (place : ℕ) → k < length names
    → Some place ≡ place_said site (view (get_or names k d)) → places_of site (items_view names) ≡ placed done (places_of site (items_view (drop k names)))
    → places_of site (items_view names) ≡ placed (done ++ place ∷ []) (places_of site (items_view (drop (k + 1) names)))
placed_more site names k d done place within is before =
    before ∙ ap (λ (xs : List Value). placed done (places_of site (items_view xs))) (drop-cons names k d within)
    ∙ ap (λ (o : Option ℕ). placed done (with_place o (places_of site (items_view (drop (suc k) names))))) (sym is)
    ∙ rw add-one (placed_one done place (places_of site (items_view (drop (suc k) names))))

-- a name that is no point's
pub placed_none : (site : Site) (names : List Value) (k : ℕ) (d : Value) (done : List ℕ) → k < length names → None ≡ place_said site (view (get_or names k d))
    → places_of site (items_view names) ≡ placed done (places_of site (items_view (drop k names))) → places_of site (items_view names) ≡ None
placed_none site names k d done within is before =
    before ∙ ap (λ (xs : List Value). placed done (places_of site (items_view xs))) (drop-cons names k d within)
    ∙ ap (λ (o : Option ℕ). placed done (with_place o (places_of site (items_view (drop (suc k) names))))) (sym is)

-- all names
pub placed_all : (site : Site) (names : List Value) (k : ℕ) (done : List ℕ) → length names ≤ k
    → places_of site (items_view names) ≡ placed done (places_of site (items_view (drop k names))) → places_of site (items_view names) ≡ Some done
placed_all site names k done past before =
    before ∙ ap (λ (xs : List Value). placed done (places_of site (items_view xs))) (drop_all k names past)
    ∙ ap (λ (xs : List ℕ). Some xs) (append-nil done)

-- as many items as values
pub items_count : (names : List Value) → items_len (items_view names) ≡ length names
items_count [] = refl
items_count (name ∷ names) = ap suc (items_count names)

-- where there is no list
pub points_none : (site : Site) (value : Data) → None ≡ list_under value → points_in site value ≡ None
points_none site value is = ap (option_and_then (few_places site)) (sym is)

-- where there is one
pub points_some : (site : Site) (value : Data) (names : Items) → Some names ≡ list_under value → points_in site value ≡ few_places site names
points_some site value names is = ap (option_and_then (few_places site)) (sym is)
