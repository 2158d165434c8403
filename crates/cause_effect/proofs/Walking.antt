-- The walk along the least terms from which one comes to a cycle.
use Rattle.std.proofs.Common.{◌≡◌, ◌≤◌, ◌<◌, ◌==◌, ◌-◌, ◌||◌, inl, inr, ℕ, zero, suc, Bool, true, false, List, []}
use Rattle.std.proofs.Common.{◌∷◌, ◌++◌, Option, Some, None, length, take, drop, get_or, refl, sym, ap, subst, ◌∙◌}
use Rattle.std.proofs.Common.{arith, length-append, length-drop, not}
use Rattle.std.proofs.Math.Seq.{drop-cons}
use Rattle.std.specs.Prelude.{slice_get, slice_index, is_some, Result, Ok, Err, IfOk}
use Rattle.std.specs.List.{list_any, AllByRecursion, IsDistinct}
use Rattle.std.proofs.lemmas.Bool.Decides.{nat_tests, eqb_tells}
use Rattle.std.proofs.lemmas.List.{take-append-drop, take_all}
use Rattle.std.proofs.lemmas.List.Folds.{list_any-append}
use Rattle.std.proofs.lemmas.Map.Steps.{length-le_from_distinct_below}
use Rattle.std.proofs.lemmas.Option.{get_or_from_slice_get, slice_get_within, slice_get-get_or}
use Rattle.site_types.specs.Valid.{IsValid}
use Rattle.site_types.specs.declared.site.Site.{Site}
use Rattle.site_types.specs.declared.term.Term.{Term}
use Rattle.site_types.specs.declared.marker.Marker.{Marker}
use Rattle.cause_effect.specs.Cycles.{is_among, is_marker, terms_of, has_term, Depends, directly, through, MeetsCycle, IsLeast, LeadsOn, GoesOn, IsWalk, IsFromLeast, IsCycle}
use Rattle.cause_effect.specs.Placed.{IsLeft, IsLeftTerm, LeavesCycles, PlaceIs, is_placed}
use Rattle.cause_effect.proofs.Depths.{none_equal}
use Rattle.cause_effect.proofs.Left.{term_there}
use Rattle.cause_effect.proofs.Truths.{one_passes, number_is}

-- ---- the next marker

pub terms_there : (markers xs : List Marker) (m : ℕ) (d : Marker) (terms : List Term) → m < length markers → xs ≡ markers
    → terms ≡ (get_or xs m d).terms →
    terms ≡ terms_of (slice_get markers m)
terms_there markers xs m d terms within same e = e ∙ (ap (λ ys. (get_or ys m d).terms) same ∙ sym (ap terms_of (slice_get-get_or markers m d within)))

record NextMet (site : Site) (m : ℕ) : Type 0 where
  next : ℕ
  term : has_term site m next ≡ true
  meets : MeetsCycle site next

first_term : (site : Site) (m met : ℕ) → Depends site m met → Depends site met met → NextMet site m
first_term site m met (directly a b term) round = record { next = b; term = term; meets = record { met = b; comes = inl refl; round = round } }
first_term site m met (through a next b term d) round = record { next = next; term = term; meets = record { met = b; comes = inr d; round = round } }

leads_on : (site : Site) (m : ℕ) → MeetsCycle site m → NextMet site m
leads_on site m w = first_term site m w.met (elim w.comes [
  | inl same ↦ subst (λ n. Depends site n w.met) (sym same) w.round
  | inr far ↦ far
]) w.round

-- a marker that is left has a term that is
pub never_none : (site : Site) (placed : List Bool) (m : ℕ) (terms : List Term) → LeavesCycles site placed → IsLeft site placed m
    → terms ≡ terms_of (slice_get site.markers m) →
    ((k : ℕ) → list_any (is_marker k) terms ≡ true → is_placed placed k ≡ true) → ⊥
never_none site placed m terms leaves left e none =
    let on = leads_on site m (leaves.meets m left) in
    let fresh = (leaves.left on.next on.meets).fresh in
    let placed_so = none on.next (ap (list_any (is_marker on.next)) e ∙ on.term) in
    cc (fresh, placed_so)

pub next_left : (site : Site) → IsValid site → (placed : List Bool) (m : ℕ) (terms : List Term) (next : ℕ) → IsLeft site placed m
    → terms ≡ terms_of (slice_get site.markers m) →
    IsLeast (IsLeftTerm placed terms) next → IsLeft site placed next
next_left site valid placed m terms next left e least = record {
  within = term_there site valid m next left.within (ap (list_any (is_marker next)) (sym e) ∙ least.is.term);
  fresh = least.is.fresh;
}

pub next_least : (site : Site) → IsValid site → (placed : List Bool) (m : ℕ) (terms : List Term) (next : ℕ) → LeavesCycles site placed
    → IsLeft site placed m →
    terms ≡ terms_of (slice_get site.markers m) → IsLeast (IsLeftTerm placed terms) next → IsLeast (LeadsOn site m) next
next_least site valid placed m terms next leaves left e least = record {
  is = record {
    term = ap (list_any (is_marker next)) (sym e) ∙ least.is.term;
    meets = leaves.meets next (next_left site valid placed m terms next left e least);
  };
  below = λ k lead. least.below k (record { term = ap (list_any (is_marker k)) e ∙ lead.term; fresh = (leaves.left k lead.meets).fresh });
}

-- ---- lists with one more

all_push : (P : ℕ → Type 0) (xs : List ℕ) (x : ℕ) → AllByRecursion P xs → P x → AllByRecursion P (xs ++ x ∷ [])
all_push P [] x all p = (p, tt)
all_push P (y ∷ ys) x all p = (all.0, all_push P ys x all.1 p)

flip : (a b : ℕ) → (a == b) ≡ false → (b == a) ≡ false
flip a b h = grind (arith, nat_tests, h)

or_first : (a b : Bool) → (a || b) ≡ false → a ≡ false
or_first true b h = cc
or_first false b h = refl

or_second : (a b : Bool) → (a || b) ≡ false → b ≡ false
or_second true b h = cc
or_second false b h = h

pub distinct_push : (xs : List ℕ) (x : ℕ) → IsDistinct (λ a b. a == b) xs → list_any (λ y. x == y) xs ≡ false
    → IsDistinct (λ a b. a == b) (xs ++ x ∷ [])
unfolding IsDistinct
distinct_push [] x d fresh = (tt, tt)
distinct_push (y ∷ ys) x d fresh = (
  all_push (λ z. (y == z) ≡ false) ys x d.0 (flip x y (or_first (x == y) (list_any (λ z. x == z) ys) fresh)),
  distinct_push ys x d.1 (or_second (x == y) (list_any (λ z. x == z) ys) fresh),
)

goes_push : (site : Site) (m : ℕ) (xs : List ℕ) (at next : ℕ) → GoesOn site m (xs ++ at ∷ []) → IsLeast (LeadsOn site at) next
    → GoesOn site m ((xs ++ at ∷ []) ++ next ∷ [])
goes_push site m [] at next goes least = (goes.0, (least, tt))
goes_push site m (x ∷ xs) at next goes least = (goes.0, goes_push site x xs at next goes.1 least)

walk_push : (site : Site) (path : List ℕ) (at next : ℕ) → IsWalk site (path ++ at ∷ []) → IsLeast (LeadsOn site at) next
    → IsWalk site ((path ++ at ∷ []) ++ next ∷ [])
walk_push site [] at next walk least = (walk.0, (least, tt))
walk_push site (x ∷ xs) at next walk least = (walk.0, goes_push site x xs at next walk.1 least)

-- ---- the walk so far

-- the markers that were passed, the one at which it stands, and whether that one was passed before
pub record Walked (site : Site) (placed : List Bool) (path : List ℕ) (at : ℕ) (met : Option ℕ) : Type 0 where
  pub walk : IsWalk site (path ++ at ∷ [])
  pub once : IsDistinct (λ x y. x == y) path
  pub small : (q : ℕ) → is_among q path ≡ true → q < length site.markers
  pub left : IsLeft site placed at
  pub place : PlaceIs path at met

pub walk_begins : (site : Site) (placed : List Bool) (path : List ℕ) (first : ℕ) → LeavesCycles site placed → IsLeast (IsLeft site placed) first
    → path ≡ [] →
    Walked site placed path first None
unfolding IsDistinct
walk_begins site placed path first leaves least none = subst (λ xs. Walked site placed xs first None) (sym none) (record {
  walk = (record { is = leaves.meets first least.is; below = λ k meets. least.below k (leaves.left k meets) }, tt);
  once = tt;
  small = λ q h. cc;
  left = least.is;
  place = refl;
})

small_push : (site : Site) (path : List ℕ) (at : ℕ) → ((q : ℕ) → is_among q path ≡ true → q < length site.markers) → at < length site.markers →
    (q : ℕ) → (b : Bool) → is_among q path ≡ b → (b || ((q == at) || false)) ≡ true → q < length site.markers
small_push site path at small within q true e h = small q e
small_push site path at small within q false e h = subst (λ n. n < length site.markers) (sym (number_is q at (last (q == at) h))) within
  where
    last : (b : Bool) → (b || false) ≡ true → b ≡ true
    last true h = refl
    last false h = h

pub walk_on : (site : Site) (placed : List Bool) (path after : List ℕ) (at next : ℕ) (met : Option ℕ) → Walked site placed path at None
    → after ≡ path ++ at ∷ [] →
    IsLeast (LeadsOn site at) next → IsLeft site placed next → PlaceIs after next met → Walked site placed after next met
walk_on site placed path after at next met w e least left place = record {
  walk = subst (λ xs. IsWalk site (xs ++ next ∷ [])) (sym e) (walk_push site path at next w.walk least);
  once = subst (IsDistinct (λ x y. x == y)) (sym e) (distinct_push path at w.once w.place);
  small =
      λ q h. small_push site path at w.small w.left.within q (is_among q path) refl
      (sym (ap (is_among q) e ∙ list_any-append (λ x. q == x) path (at ∷ [])) ∙ h);
  left = left;
  place = place;
}

-- a marker that wasn't passed before finds room
pub path_fits : (site : Site) (placed : List Bool) (path : List ℕ) (at : ℕ) → Walked site placed path at None → length path < length site.markers
unfolding IsDistinct
path_fits site placed path at w =
    let few = length-le_from_distinct_below (at ∷ path) (length site.markers) (none_equal at path w.place, w.once)
    (λ q h. elim (eqb_tells q at) [
      | inl same ↦ subst (λ n. n < length site.markers) (sym same.1) w.left.within
      | inr apart ↦ w.small q (ap (λ b. b || is_among q path) (sym apart.0) ∙ h)
    ]) in
    omega (arith, few)

-- ---- the cycle

begins_at : (xs : List ℕ) (k m : ℕ) → slice_get xs k ≡ Some m → slice_get (drop k xs) 0 ≡ Some m
begins_at [] zero m at = at
begins_at [] (suc k) m at = cc
begins_at (x ∷ xs) zero m at = at
begins_at (x ∷ xs) (suc k) m at = begins_at xs k m at

pub the_cycle : (site : Site) (placed : List Bool) (path : List ℕ) (at start : ℕ) (markers : List ℕ) → Walked site placed path at (Some start)
    → IsFromLeast (drop start path) markers →
    IsCycle site markers
the_cycle site placed path at start markers w turned = record {
  before = take start path;
  round = drop start path;
  twice = at;
  begins = begins_at path start at w.place;
  walk = subst (λ xs. IsWalk site (xs ++ at ∷ [])) (sym (take-append-drop start path)) w.walk;
  once = subst (IsDistinct (λ x y. x == y)) (sym (take-append-drop start path)) w.once;
  from_least = turned;
}

pub turned : (round markers : List ℕ) (place : ℕ) → place < length round
    → ((k : ℕ) → k < length round → slice_index round place ≤ slice_index round k) →
    markers ≡ drop place round ++ take place round → IsFromLeast round markers
turned round markers place less smallest e = record {
  front = take place round;
  least = get_or round place 0;
  back = drop (suc place) round;
  parts = sym (take-append-drop place round) ∙ ap (λ xs. take place round ++ xs) (drop-cons round place 0 less);
  listed = e ∙ ap (λ xs. xs ++ take place round) (drop-cons round place 0 less);
  smallest = λ m h. (let w = one_passes (λ x. m == x) round h in
      let is = number_is m w.item w.passes in
      let low = smallest w.place (slice_get_within round w.place w.item w.at) in
      let item = get_or_from_slice_get round w.place w.item 0 w.at in
      omega (arith, low, item, is));
}

pub turned_items : (round markers none first whole : List ℕ) (place : ℕ) → place < length round
    → ((k : ℕ) → k < length round → slice_index round place ≤ slice_index round k) →
    none ≡ [] → first ≡ none ++ take (length round - place) (drop place round) → whole ≡ first ++ take place round → markers ≡ whole
    → IsFromLeast round markers
turned_items round markers none first whole place less smallest n e f g =
    let long = length-drop place round in
    let begun = e ∙ ap (λ xs. xs ++ take (length round - place) (drop place round)) n in
    turned round markers place less smallest
    (g ∙ (f ∙ ap (λ xs. xs ++ take place round) (begun ∙ take_all (length round - place) (drop place round) (omega (arith, long)))))

-- ---- how the walk ends

pub none_is : (o : Option ℕ) (b : Bool) → is_some o ≡ not b → b ≡ true → o ≡ None
none_is None b e t = refl
none_is (Some x) true e t = cc
none_is (Some x) false e t = cc

pub walked_none : (site : Site) (placed : List Bool) (path : List ℕ) (at : ℕ) (met : Option ℕ) → Walked site placed path at met → met ≡ None
    → Walked site placed path at None
walked_none site placed path at met w e = subst (Walked site placed path at) e w

pub met_within : (site : Site) (placed : List Bool) (path : List ℕ) (at start : ℕ) (met : Option ℕ) → Walked site placed path at met
    → met ≡ Some start → start < length path
met_within site placed path at start met w e = slice_get_within path start at (subst (Walked site placed path at) e w).place

pub less_room : (path after : List ℕ) (at : ℕ) → after ≡ path ++ at ∷ [] → length path < 256 → 256 - length after < 256 - length path
less_room path after at e less =
    let long = ap length e ∙ length-append path (at ∷ []) in
    let one : length {A = ℕ} (at ∷ []) ≡ 1 = refl in
    omega (arith, long, one, less)

pub ok_weaker : {T E : Type 0} (P Q : T → Type 0) (r : Result T E) → ((x : T) → P x → Q x) → IfOk r P → IfOk r Q
ok_weaker P Q (Ok x) weaker h = weaker x h
ok_weaker P Q (Err e) weaker h = h

pub rest_is_there : (path round : List ℕ) (start : ℕ) → round ≡ drop start path → start < length path → 0 < length round
rest_is_there path round start e less = let long = ap length e ∙ length-drop start path in omega (arith, long, less)
