-- Behind what a walk passed the same is found as in the whole list.
use Rattle.std.proofs.Common.{◌≡◌, ◌∙◌, ◌+◌, ◌≤◌, ◌<◌, ◌&&◌, ◌==◌, ℕ, zero, suc, Bool, true, false, cond, List, [], ◌∷◌, Some, None, refl, sym, ap, drop, length, get_or, arith, inl, inr, subst}
use Rattle.std.specs.Prelude.{◌⊎◌, ◌||◌, if◌then◌else◌, nat_le, nat_lt, option_map, slice_get, take}
use Rattle.site_types.specs.declared.site.Site.{Site}
use Rattle.face_text.specs.declared.group.Group.{Group}
use Rattle.face_text.specs.declared.group.Group.TheVariants.{Zones, Firsts, Missing, Unconfirmed, Outputs, Confirmed, PointsOff, ZonesOff, OutputsOff, Tests}
use Rattle.face_text.specs.NextNames.{AreNamedBehind, without_first}
use Rattle.face_text.specs.Slots.{name_in, output_name, point_name, zone_name}
use Rattle.site_types.specs.declared.output.Output.{Output}
use Rattle.site_types.specs.declared.point.Point.{Point}
use Rattle.site_types.specs.declared.zone.Zone.{Zone}
use Rattle.std.specs.List.{find, list_any, position, position_or_len}
use Rattle.std.proofs.lemmas.Bool.{and_from, and_parts, eqb-true, cases_lt, le-leb, ltb-false}
use Rattle.std.proofs.lemmas.Bool.Decides.{Decides-eqb, eqb_tells}
use Rattle.std.proofs.lemmas.List.{drop-drop, drop_all, get_or-take, length-take}
use Rattle.std.proofs.lemmas.List.Folds.{list_any_none}
use Rattle.std.proofs.lemmas.List.Sums.{fails_before_first}
use Rattle.std.proofs.lemmas.List.Quantifiers.{position-Some}
use Rattle.std.proofs.lemmas.Option.{same_Some, slice_get-get_or}

-- the thing of a number, and the things of a number or a greater one, where a key tells the others apart
abbrev pub has_number : {X : Type 0} → (X → Bool) → (X → ℕ) → ℕ → X → Bool
has_number key number_of number x = key x && (number_of x == number)

abbrev pub reaches : {X : Type 0} → (X → Bool) → (X → ℕ) → ℕ → X → Bool
reaches key number_of number x = key x && nat_le number (number_of x)

reaches_more : {X : Type 0} (key : X → Bool) (number_of : X → ℕ) (from number : ℕ) → from ≤ number → (x : X)
    → has_number key number_of number x ≡ true → reaches key number_of from x ≡ true
reaches_more key number_of from number low x has =
    let parts = and_parts (key x) (number_of x == number) has in
    and_from (key x) (nat_le from (number_of x)) parts.0
    (ap (nat_le from) (eqb-true (number_of x) number parts.1) ∙ le-leb from number low)

-- what stands before the first that could be found isn't found
one_more : {X : Type 0} (x : X) (xs : List X) (count : ℕ) → drop (1 + count) (x ∷ xs) ≡ drop count xs
one_more x xs count = let next : 1 + count ≡ suc count = omega arith in ap (λ k. drop k (x ∷ xs)) next

found_past : {X : Type 0} (test reach : X → Bool) (x : X) (xs : List X) (reached tested : Bool) → reach x ≡ reached → test x ≡ tested
    → (test x ≡ true → reach x ≡ true) → find test (drop (position_or_len reach xs) xs) ≡ find test xs
    → find test (drop (position_or_len reach (x ∷ xs)) (x ∷ xs)) ≡ find test (x ∷ xs)
found_past test reach x xs true tested is has within later = rw is refl
found_past test reach x xs false true is has within later = absurd (let e : true ≡ false = sym (within has) ∙ is in cc)
found_past test reach x xs false false is has within later = rw (is, has) (ap (find test) (one_more x xs (position_or_len reach xs)) ∙ later)

found_later : {X : Type 0} (test reach : X → Bool) (xs : List X) → ((x : X) → test x ≡ true → reach x ≡ true)
    → find test (drop (position_or_len reach xs) xs) ≡ find test xs
found_later test reach [] within = refl
found_later test reach (x ∷ xs) within = found_past test reach x xs (reach x) (test x) refl refl (within x) (found_later test reach xs within)

and_none : (b : Bool) → (b && false) ≡ false
and_none true = refl
and_none false = refl

place_is : (inside : Bool) (first place : ℕ) → cond inside (Some first) None ≡ Some place → first ≡ place
place_is true first place is = same_Some first place is
place_is false first place is = cc

passes_none : (inside : Bool) (first : ℕ) → cond inside (Some first) None ≡ None → inside ≡ false
passes_none true first is = cc
passes_none false first is = refl

pub found_behind : {X : Type 0} (key : X → Bool) (number_of : X → ℕ) (all left : List X) (count skipped from number : ℕ)
    → drop count all ≡ left → position (reaches key number_of from) left ≡ Some skipped → from ≤ number
    → find (has_number key number_of number) (drop (count + skipped) all) ≡ find (has_number key number_of number) (drop count all)
found_behind key number_of all left count skipped from number is at low =
    let test = has_number key number_of number in
    let reach = reaches key number_of from in
    let first = place_is (nat_lt (position_or_len reach left) (length left)) (position_or_len reach left) skipped at in
    ap (find test) (sym (drop-drop skipped count all)) ∙ ap (λ xs. find test (drop skipped xs)) is
    ∙ ap (λ k. find test (drop k left)) (sym first) ∙ found_later test reach left (reaches_more key number_of from number low)
    ∙ ap (find test) (sym is)

found_here : {X : Type 0} (test : X → Bool) (xs : List X) (place : ℕ) (x : X) → slice_get xs place ≡ Some x → test x ≡ true
    → find test (drop place xs) ≡ Some x
found_here test [] place x at passes = cc
found_here test (first ∷ rest) zero x at passes = let e : first ≡ x = same_Some first x at in rw (e, passes) refl
found_here test (first ∷ rest) (suc place) x at passes = found_here test rest place x at passes

-- the first that could be found is found where it has the number
pub found_first : {X : Type 0} (key : X → Bool) (number_of : X → ℕ) (left : List X) (skipped number : ℕ) (d : X)
    → position (reaches key number_of number) left ≡ Some skipped → number_of (get_or left skipped d) ≡ number
    → find (has_number key number_of number) left ≡ Some (get_or left skipped d)
found_first key number_of left skipped number d at is =
    let test = has_number key number_of number in
    let reach = reaches key number_of number in
    let x = get_or left skipped d in
    let there = position-Some reach left skipped d at in
    let first = place_is (nat_lt (position_or_len reach left) (length left)) (position_or_len reach left) skipped at in
    let of_key = (and_parts (key x) (nat_le number (number_of x)) there.1).0 in
    let passes : test x ≡ true = and_from (key x) (number_of x == number) of_key ((Decides-eqb (number_of x) number).1 is) in
    sym (found_later test reach left (reaches_more key number_of number number (omega arith)))
    ∙ ap (λ k. find test (drop k left)) first ∙ found_here test left skipped x (slice_get-get_or left skipped d there.0) passes

one_past : {X : Type 0} (test : X → Bool) (xs : List X) (place : ℕ) (x : X) → slice_get xs place ≡ Some x → test x ≡ false
    → find test (drop (suc place) xs) ≡ find test (drop place xs)
one_past test [] place x at fails = cc
one_past test (first ∷ rest) zero x at fails = let e : first ≡ x = same_Some first x at in rw (e, fails) refl
one_past test (first ∷ rest) (suc place) x at fails = one_past test rest place x at fails

has_other : {X : Type 0} (key : X → Bool) (number_of : X → ℕ) (from number : ℕ) (x : X) → number_of x ≡ from → from < number
    → has_number key number_of number x ≡ false
has_other key number_of from number x is less = elim (eqb_tells (number_of x) number) [
  | inl same ↦ (let e = same.1 in absurd (omega (arith, is, less, e)))
  | inr other ↦ ap (λ b. key x && b) other.0 ∙ and_none (key x)
]

-- greater numbers are found behind the thing of a number
pub found_beyond : {X : Type 0} (key : X → Bool) (number_of : X → ℕ) (all left : List X) (count skipped from number : ℕ) (d : X)
    → drop count all ≡ left → position (reaches key number_of from) left ≡ Some skipped → number_of (get_or left skipped d) ≡ from → from < number
    → find (has_number key number_of number) (drop ((count + skipped) + 1) all) ≡ find (has_number key number_of number) (drop count all)
found_beyond key number_of all left count skipped from number d is at this less =
    let test = has_number key number_of number in
    let x = get_or left skipped d in
    let there = position-Some (reaches key number_of from) left skipped d at in
    let past : (count + skipped) + 1 ≡ count + suc skipped = omega arith in
    ap (λ k. find test (drop k all)) past ∙ ap (find test) (sym (drop-drop (suc skipped) count all)) ∙ ap (λ xs. find test (drop (suc skipped) xs)) is
    ∙ one_past test left skipped x (slice_get-get_or left skipped d there.0) (has_other key number_of from number x this less)
    ∙ ap (find test) (sym (ap (drop skipped) is) ∙ drop-drop skipped count all)
    ∙ found_behind key number_of all left count skipped from number is at (omega (arith, less))

-- where none could be found none is
pub found_none : {X : Type 0} (key : X → Bool) (number_of : X → ℕ) (left : List X) (number : ℕ)
    → position (reaches key number_of number) left ≡ None → find (has_number key number_of number) left ≡ None
found_none key number_of left number none =
    let test = has_number key number_of number in
    let reach = reaches key number_of number in
    let past = passes_none (nat_lt (position_or_len reach left) (length left)) (position_or_len reach left) none in
    sym (found_later test reach left (reaches_more key number_of number number (omega arith)))
    ∙ ap (find test) (drop_all (position_or_len reach left) left (ltb-false (position_or_len reach left) (length left) past))

-- the same is left where no more than all is passed
pub drop_least : {X : Type 0} (xs : List X) (count least : ℕ) → (count ≤ length xs → least ≡ count) → (length xs < count → least ≡ length xs)
    → drop least xs ≡ drop count xs
drop_least xs count least low high = elim (cases_lt (length xs) count) [
  | inl past ↦ drop_all least xs (let e = high past in omega (arith, e)) ∙ sym (drop_all count xs (omega (arith, past)))
  | inr within ↦ ap (λ k. drop k xs) (low within)
]

-- ---- groups whose things stand in one list

pub zones_alike : (count : ℕ) (site : Site) (panel from : ℕ) (group : Group) → (group ≡ ZonesOff) ⊎ (group ≡ Tests)
    → AreNamedBehind count site panel group from → AreNamedBehind count site panel (Zones panel) from
zones_alike count site panel from group (inl is) named = subst (λ g. AreNamedBehind count site panel g from) is named
zones_alike count site panel from group (inr is) named = subst (λ g. AreNamedBehind count site panel g from) is named

pub other_zones_alike : (count : ℕ) (site : Site) (panel other from : ℕ) (group : Group) → (group ≡ Zones other) ⊎ (group ≡ Firsts other)
    → AreNamedBehind count site panel group from → AreNamedBehind count site other (Zones other) from
other_zones_alike count site panel other from group (inl is) named = subst (λ g. AreNamedBehind count site panel g from) is named
other_zones_alike count site panel other from group (inr is) named = subst (λ g. AreNamedBehind count site panel g from) is named

pub points_alike : (count : ℕ) (site : Site) (panel line from : ℕ) (group : Group) → (group ≡ Missing line) ⊎ (group ≡ PointsOff line)
    → AreNamedBehind count site panel group from → AreNamedBehind count site panel (Missing line) from
points_alike count site panel line from group (inl is) named = subst (λ g. AreNamedBehind count site panel g from) is named
points_alike count site panel line from group (inr is) named = subst (λ g. AreNamedBehind count site panel g from) is named

pub outputs_alike : (count : ℕ) (site : Site) (panel from : ℕ) (group : Group)
    → (group ≡ Unconfirmed) ⊎ ((group ≡ Outputs) ⊎ ((group ≡ Confirmed) ⊎ (group ≡ OutputsOff)))
    → AreNamedBehind count site panel group from → AreNamedBehind count site panel Outputs from
outputs_alike count site panel from group (inl is) named = subst (λ g. AreNamedBehind count site panel g from) is named
outputs_alike count site panel from group (inr (inl is)) named = subst (λ g. AreNamedBehind count site panel g from) is named
outputs_alike count site panel from group (inr (inr (inl is))) named = subst (λ g. AreNamedBehind count site panel g from) is named
outputs_alike count site panel from group (inr (inr (inr is))) named = subst (λ g. AreNamedBehind count site panel g from) is named

-- what is named behind some things from a number on is so from the next on
pub named_later : (count : ℕ) (site : Site) (panel from : ℕ) (group : Group) → AreNamedBehind count site panel group from
    → AreNamedBehind count site panel group (from + 1)
named_later count site panel from group named number low = named number (omega (arith, low))

-- where none of the first things passes a test, what passes it is found behind them
pub found_after : {X : Type 0} (of_panel test : X → Bool) (xs : List X) (count : ℕ) → ((x : X) → test x ≡ true → of_panel x ≡ true)
    → list_any of_panel (take count xs) ≡ false → find test (drop count xs) ≡ find test xs
found_after of_panel test [] zero within none = refl
found_after of_panel test [] (suc count) within none = refl
found_after of_panel test (x ∷ xs) zero within none = refl
found_after of_panel test (x ∷ xs) (suc count) within none = go (of_panel x) (test x) refl refl none (found_after of_panel test xs count within)
  where
    go : (is tests : Bool) → of_panel x ≡ is → test x ≡ tests → (is || list_any of_panel (take count xs)) ≡ false
        → (list_any of_panel (take count xs) ≡ false → find test (drop count xs) ≡ find test xs)
        → find test (drop count xs) ≡ (if tests then Some x else find test xs)
    go true tests e f h later = cc
    go false true e f h later = absurd (let g : true ≡ false = sym (within x f) ∙ e in cc)
    go false false e f h later = later h

-- before the first place at which a test holds it holds nowhere, and nowhere at all where there is none
pub none_before : {X : Type 0} (test : X → Bool) (xs : List X) (place : ℕ) → position test xs ≡ Some place
    → list_any test (take place xs) ≡ false
none_before test xs place is =
    list_any_none test (take place xs)
    (λ k d within.
    let count = length-take place xs in
    let before : k < place = omega (arith, within, count) in
    ap test (get_or-take place xs k d before) ∙ (position-Some test xs place d is).2 k before)

pub none_there : {X : Type 0} (test : X → Bool) (xs : List X) → position test xs ≡ None → list_any test (take (length xs) xs) ≡ false
none_there test xs is =
    let past : length xs ≤ position_or_len test xs = ltb-false _ _ (passes_none _ _ is) in
    list_any_none test (take (length xs) xs)
    (λ k d within.
    let count = length-take (length xs) xs in
    let before : k < length xs = omega (arith, within, count) in
    ap test (get_or-take (length xs) xs k d before) ∙ fails_before_first test xs k d (omega (arith, before, past)))

-- ---- behind things of other panels

zones_found : (site : Site) (count panel n : ℕ) → list_any (λ (zone : Zone). zone.panel == panel) (take count site.zones) ≡ false
    → zone_name (without_first count site) panel n ≡ zone_name site panel n
zones_found site count panel n none =
    ap (option_map (λ (zone : Zone). zone.name.bytes))
    (found_after (λ (zone : Zone). zone.panel == panel) (λ (zone : Zone). (zone.panel == panel) && (zone.number == n)) site.zones count
    (λ zone h. (and_parts (zone.panel == panel) (zone.number == n) h).0) none)

outputs_found : (site : Site) (count panel n : ℕ) → list_any (λ (output : Output). output.panel == panel) (take count site.outputs) ≡ false
    → output_name (without_first count site) panel n ≡ output_name site panel n
outputs_found site count panel n none =
    ap (option_map (λ (output : Output). output.name.bytes))
    (found_after (λ (output : Output). output.panel == panel) (λ (output : Output). (output.panel == panel) && (output.number == n)) site.outputs count
    (λ output h. (and_parts (output.panel == panel) (output.number == n) h).0) none)

-- the point is on a loop of a panel
abbrev pub is_on : ℕ → ℕ → Point → Bool
is_on panel line point = (point.panel == panel) && (point.line == line)

points_found : (site : Site) (count panel line n : ℕ) → list_any (is_on panel line) (take count site.points) ≡ false
    → point_name (without_first count site) panel line n ≡ point_name site panel line n
points_found site count panel line n none =
    ap (option_map (λ (point : Point). point.name.bytes))
    (found_after (is_on panel line)
    (λ (point : Point). (point.panel == panel) && (point.line == line) && (point.address == n)) site.points count
    (λ point h. (and_parts ((point.panel == panel) && (point.line == line)) (point.address == n) h).0) none)

module _ (count : ℕ) (site : Site) (panel : ℕ) (group : Group) where
  pub behind_other_zones : (other : ℕ) (zones : List Zone) → (group ≡ Zones other) ⊎ (group ≡ Firsts other) → zones ≡ site.zones
      → list_any (λ (zone : Zone). zone.panel == other) (take count zones) ≡ false → AreNamedBehind count site panel group 1
  behind_other_zones other zones (inl is) same none n low =
      rw is (zones_found site count other n (ap (λ xs. list_any (λ (zone : Zone). zone.panel == other) (take count xs)) (sym same) ∙ none))
  behind_other_zones other zones (inr is) same none n low =
      rw is (zones_found site count other n (ap (λ xs. list_any (λ (zone : Zone). zone.panel == other) (take count xs)) (sym same) ∙ none))

  pub behind_zones : (zones : List Zone) → (group ≡ ZonesOff) ⊎ (group ≡ Tests) → zones ≡ site.zones
      → list_any (λ (zone : Zone). zone.panel == panel) (take count zones) ≡ false → AreNamedBehind count site panel group 1
  behind_zones zones (inl is) same none n low =
      rw is (zones_found site count panel n (ap (λ xs. list_any (λ (zone : Zone). zone.panel == panel) (take count xs)) (sym same) ∙ none))
  behind_zones zones (inr is) same none n low =
      rw is (zones_found site count panel n (ap (λ xs. list_any (λ (zone : Zone). zone.panel == panel) (take count xs)) (sym same) ∙ none))

  pub behind_points : (line : ℕ) (points : List Point) → (group ≡ Missing line) ⊎ (group ≡ PointsOff line) → points ≡ site.points
      → list_any (is_on panel line) (take count points) ≡ false → AreNamedBehind count site panel group 1
  behind_points line points (inl is) same none n low =
      rw is (points_found site count panel line n (ap (λ xs. list_any (is_on panel line) (take count xs)) (sym same) ∙ none))
  behind_points line points (inr is) same none n low =
      rw is (points_found site count panel line n (ap (λ xs. list_any (is_on panel line) (take count xs)) (sym same) ∙ none))

  pub behind_outputs : (outputs : List Output)
      → (group ≡ Unconfirmed) ⊎ ((group ≡ Outputs) ⊎ ((group ≡ Confirmed) ⊎ (group ≡ OutputsOff))) → outputs ≡ site.outputs
      → list_any (λ (output : Output). output.panel == panel) (take count outputs) ≡ false → AreNamedBehind count site panel group 1
  behind_outputs outputs is same none n low =
      go is (outputs_found site count panel n (ap (λ xs. list_any (λ (output : Output). output.panel == panel) (take count xs)) (sym same) ∙ none))
    where
      go : (group ≡ Unconfirmed) ⊎ ((group ≡ Outputs) ⊎ ((group ≡ Confirmed) ⊎ (group ≡ OutputsOff)))
          → output_name (without_first count site) panel n ≡ output_name site panel n
          → name_in (without_first count site) panel group n ≡ name_in site panel group n
      go (inl e) found = rw e found
      go (inr (inl e)) found = rw e found
      go (inr (inr (inl e))) found = rw e found
      go (inr (inr (inr e))) found = rw e found
