-- What a row spells: its four fields, and the name of a point.
use Rattle.std.proofs.Common.{◌≡◌, ◌<◌, ℕ, zero, suc, Bool, true, false, List, [], ◌∷◌, Some, None, length, refl, sym, ap, ◌∙◌, arith}
use Rattle.std.specs.Prelude.{if◌then◌else◌, option_map, slice_get}
use Rattle.csv.specs.Records.{field_at}
use Rattle.register_import.specs.Rows.{four, is_point, names_point}
use Rattle.site_types.specs.Things.{thing_named}
use Rattle.site_types.specs.Valid.{IsValid}
use Rattle.site_types.specs.declared.named.Thing.TheVariants.{Point}
use Rattle.site_types.specs.declared.point.Point.{Point as PointPlan}
use Rattle.site_types.specs.declared.site.Site.{Site}
use Rattle.site_types.proofs.Finding.{thing_named_iff}

-- fewer fields, or more
pub not_four : (fields : List (List ℕ)) → (length fields ≡ 4 → ⊥) → four fields ≡ None
not_four [] other = refl
not_four (a ∷ []) other = refl
not_four (a ∷ b ∷ []) other = refl
not_four (a ∷ b ∷ c ∷ []) other = refl
not_four (a ∷ b ∷ c ∷ d ∷ []) other = absurd (other refl)
not_four (a ∷ b ∷ c ∷ d ∷ e ∷ rest) other = refl

-- four fields, each at its place
pub four_at : (fields : List (List ℕ)) (a b c d : List ℕ) → length fields ≡ 4 → Some a ≡ field_at fields 0 → Some b ≡ field_at fields 1
    → Some c ≡ field_at fields 2 → Some d ≡ field_at fields 3 → Some (record { visit = a; day = b; engineer = c; point = d }) ≡ four fields
unfolding field_at
four_at [] a b c d size p q r s = absurd (cc)
four_at (x ∷ []) a b c d size p q r s = absurd (cc)
four_at (x ∷ y ∷ []) a b c d size p q r s = absurd (cc)
four_at (x ∷ y ∷ z ∷ []) a b c d size p q r s = absurd (cc)
four_at (x ∷ y ∷ z ∷ w ∷ []) a b c d size p q r s = cc
four_at (x ∷ y ∷ z ∷ w ∷ v ∷ rest) a b c d size p q r s = absurd (omega (arith, size))

field_there : (fields : List (List ℕ)) (place : ℕ) → place < length fields → field_at fields place ≡ None → ⊥
unfolding field_at
field_there [] place within none = omega (arith, within)
field_there (x ∷ rest) zero within none = cc
field_there (x ∷ rest) (suc place) within none = field_there rest place (omega (arith, within)) none

-- none of four fields is absent
pub four_there : (fields : List (List ℕ)) (place : ℕ) → length fields ≡ 4 → place < 4 → field_at fields place ≡ None → ⊥
four_there fields place size within none = field_there fields place (omega (arith, size, within)) none

-- ---- the name of a point

if_known : (text : List ℕ) (known : Bool) → known ≡ true → Some text ≡ (if known then Some text else None)
if_known text true is = refl
if_known text false is = absurd (cc)

-- the name of the point that a text names is that text
pub named_point : (site : Site) → IsValid site → (text : List ℕ) (place : ℕ) (point : PointPlan) → thing_named site text ≡ Some (Point place)
    → slice_get site.points place ≡ Some point → Some point.name.bytes ≡ (if names_point site text then Some text else None)
named_point site valid text place point found at =
    let has = (thing_named_iff site valid.names text (Point place)).0 found in
    let bytes : Some point.name.bytes ≡ Some text = sym (ap (option_map (λ (p : PointPlan). p.name.bytes)) at) ∙ has in
    bytes ∙ if_known text (names_point site text) (ap is_point found)

-- a point that is named is there
pub no_named_point : (site : Site) → IsValid site → (text : List ℕ) (place : ℕ) → thing_named site text ≡ Some (Point place)
    → slice_get site.points place ≡ None → ⊥
no_named_point site valid text place found none =
    let has = (thing_named_iff site valid.names text (Point place)).0 found in
    let nothing : None ≡ Some text = sym (ap (option_map (λ (p : PointPlan). p.name.bytes)) none) ∙ has in
    cc
