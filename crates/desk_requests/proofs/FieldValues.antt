-- The values of the fields of a name, field by field.
use Rattle.std.proofs.Common.{◌≡◌, ◌+◌, ◌<◌, ◌∙◌, ℕ, zero, suc, Bool, true, false, arith, List, [], ◌∷◌, ◌++◌, Option, Some, None, Err, length, get_or, take, drop, map, refl, ap, sym, add-one}
use Rattle.std.specs.Prelude.{◌||◌, is_some, option_map}
use Rattle.std.specs.List.{filter}
use Rattle.std.proofs.Math.Seq.{take-suc}
use Rattle.std.proofs.lemmas.List.{map-append, take-append-drop}
use Rattle.std.proofs.lemmas.List.Elements.{filter-append}
use Rattle.desk_requests.specs.Asked.{has_field, has_name, only_length, field_values}
use Rattle.desk_requests.specs.declared.status.Status.TheVariants.{BadRequest}

-- one value, or none
abbrev pub listed_value : Option (List ℕ) → List (List ℕ)
listed_value None = []
listed_value (Some value) = value ∷ []

pub field_values-append : (name : List ℕ) (xs ys : List (List ℕ × List ℕ)) → field_values name (xs ++ ys) ≡ field_values name xs ++ field_values name ys
field_values-append name xs ys =
    ap (λ (fields : List (List ℕ × List ℕ)). map (λ (field : List ℕ × List ℕ). field.1) fields) (filter-append (has_name name) xs ys) ∙ map-append
    (λ (field : List ℕ × List ℕ). field.1) (filter (has_name name) xs) (filter (has_name name) ys)

-- with the next field
pub values_more : {F : Type 0} (parts : F → List ℕ × List ℕ) (name : List ℕ) (fields : List F) (k : ℕ) (d : F) → k < length fields
    → field_values name (map parts (take (k + 1) fields)) ≡ field_values name (map parts (take k fields)) ++ field_values name (parts (get_or fields k d) ∷ [])
values_more parts name fields k d within =
    rw (add-one, take-suc fields k d within, map-append)
    (field_values-append name (map parts (take k fields)) (parts (get_or fields k d) ∷ []))

-- a field of the name gives its value, another none
pub value_named : (name : List ℕ) (field : List ℕ × List ℕ) → has_name name field ≡ true → field_values name (field ∷ []) ≡ field.1 ∷ []
value_named name field is = rw is refl

pub value_other : (name : List ℕ) (field : List ℕ × List ℕ) → has_name name field ≡ false → field_values name (field ∷ []) ≡ []
value_other name field is = rw is refl

-- a second field of the name is refused, whatever comes behind it
pub named_twice : {F : Type 0} (parts : F → List ℕ × List ℕ) (name : List ℕ) (fields : List F) (k : ℕ) (d : F) (value : List ℕ) → k < length fields
    → value ∷ [] ≡ field_values name (map parts (take k fields)) → has_name name (parts (get_or fields k d)) ≡ true
    → Err BadRequest ≡ only_length (field_values name (map parts fields))
named_twice parts name fields k d value within one is =
    ap only_length (sym (
    ap (λ xs. field_values name (map parts xs)) (sym (take-append-drop (k + 1) fields)) ∙ ap (field_values name) (map-append parts (take (k + 1) fields) (drop (k + 1) fields))
    ∙ field_values-append name (map parts (take (k + 1) fields)) (map parts (drop (k + 1) fields))
    ∙ ap (λ xs. xs ++ field_values name (map parts (drop (k + 1) fields))) (
    values_more parts name fields k d within ∙ ap (λ xs. xs ++ field_values name (parts (get_or fields k d) ∷ [])) (sym one)
    ∙ ap (λ xs. (value ∷ []) ++ xs) (value_named name (parts (get_or fields k d)) is)
    )
    ))

-- where a value was found before
pub named_again : {F A : Type 0} (text : A → List ℕ) (parts : F → List ℕ × List ℕ) (name : List ℕ) (fields : List F) (k : ℕ) (d : F) (found : Option A)
    → k < length fields → is_some found ≡ true → listed_value (option_map text found) ≡ field_values name (map parts (take k fields))
    → has_name name (parts (get_or fields k d)) ≡ true → Err BadRequest ≡ only_length (field_values name (map parts fields))
named_again text parts name fields k d None within some one is = cc
named_again text parts name fields k d (Some value) within some one is = named_twice parts name fields k d (text value) within one is

-- ---- whether a field is of a name

or_right : (a b : Bool) → b ≡ true → (a || b) ≡ true
or_right true b is = refl
or_right false b is = is

or_none : (a b c : Bool) → (a || b) ≡ false → c ≡ false → (a || c) ≡ false
or_none true b c is none = cc
or_none false b c is none = none

or_second : (a b : Bool) → (a || b) ≡ false → b ≡ false
or_second true b is = cc
or_second false b is = is

pub has_at : {F : Type 0} (parts : F → List ℕ × List ℕ) (name : List ℕ) (fields : List F) (k : ℕ) (d : F) → k < length fields
    → has_name name (parts (get_or fields k d)) ≡ true → has_field name (map parts fields) ≡ true
has_at parts name [] k d within is = absurd (omega (arith, within))
has_at parts name (f ∷ fs) zero d within is = rw is refl
has_at parts name (f ∷ fs) (suc k) d within is =
    or_right (has_name name (parts f)) (has_field name (map parts fs)) (has_at parts name fs k d (omega (arith, within)) is)

pub none_more : {F : Type 0} (parts : F → List ℕ × List ℕ) (name : List ℕ) (fields : List F) (k : ℕ) (d : F) → k < length fields
    → has_field name (map parts (take k fields)) ≡ false → has_name name (parts (get_or fields k d)) ≡ false
    → has_field name (map parts (take (suc k) fields)) ≡ false
none_more parts name [] k d within none is = absurd (omega (arith, within))
none_more parts name (f ∷ fs) zero d within none is = rw is refl
none_more parts name (f ∷ fs) (suc k) d within none is =
    or_none (has_name name (parts f)) (has_field name (map parts (take k fs))) (has_field name (map parts (take (suc k) fs))) none
    (none_more parts name fs k d (omega (arith, within)) (or_second (has_name name (parts f)) (has_field name (map parts (take k fs))) none) is)
