-- Finding a name in a list that rises.
use Rattle.std.proofs.Common.{◌≡◌, ◌<◌, ◌+◌, ◌↔◌, inl, inr, ℕ, zero, suc, Bool, true, false, List, [], ◌∷◌, Some, None, refl, sym, ◌∙◌, ap, subst, length, get_or, arith}
use Rattle.std.specs.Prelude.{slice_get, if◌then◌else◌}
use Rattle.std.specs.Str.{bytes_eq}
use Rattle.std.specs.Cmp.Lexicographic.{slice_cmp}
use Rattle.std.specs.Ordering.{nat_cmp, ordering_index, ordering_reverse, is_eq, is_lt}
use Rattle.std.specs.declared.cmp.Ordering.{Ordering}
use Rattle.std.specs.declared.cmp.Ordering.TheVariants.{Less, Equal, Greater}
use Rattle.std.specs.List.{HoldsAt}
use Rattle.std.specs.List.Sorted.{IsNonDecreasingBy, IsPartitionPoint}
use Rattle.std.proofs.lemmas.Bool.{cases_lt}
use Rattle.std.proofs.lemmas.Cmp.{nat_list_cmp_total, alike_right, tied_itself}
use Rattle.std.proofs.lemmas.List.Sorted.{searchable_from_sorted}
use Rattle.std.proofs.lemmas.Slice.Eq.{bytes_eq-Decides}
use Rattle.std.proofs.lemmas.Map.Text.{is_eq-slice_cmp}
use Rattle.std.proofs.lemmas.Option.{same_Some, slice_get-get_or, get_or_from_slice_get, slice_get_within}
use Rattle.site_types.specs.declared.site.Site.{Site}
use Rattle.site_types.specs.declared.named.Named.{Named}
use Rattle.site_types.specs.declared.named.Thing.{Thing}
use Rattle.site_types.specs.Things.{name_at, thing_in, thing_named}
use Rattle.site_types.specs.Valid.{AreNames, IsRising}

rising_rest : (named : Named) (rest : List Named) → IsRising (named ∷ rest) → IsRising rest
rising_rest named rest up j k a b less p q = up (suc j) (suc k) a b (omega (arith, less)) p q

-- the test of bytes is that of their order
same_bytes : (a b : List ℕ) (o : Ordering) → slice_cmp nat_cmp a b ≡ o → bytes_eq a b ≡ is_eq o
same_bytes a b o is = sym (is_eq-slice_cmp a b) ∙ ap is_eq is

-- an entry of the name is the one that is found
pub thing_at : (names : List Named) → IsRising names → (name : List ℕ) (k : ℕ) (named : Named) → slice_get names k ≡ Some named →
    slice_cmp nat_cmp named.name.bytes name ≡ Equal → thing_in names name ≡ Some named.thing
thing_at [] up name k named at same = cc
thing_at (first ∷ rest) up name zero named at same =
    let is : first ≡ named = same_Some first named at in
    let test : bytes_eq first.name.bytes name ≡ true =
    ap (λ (n : Named). bytes_eq n.name.bytes name) is ∙ same_bytes named.name.bytes name Equal same in
    rw test (ap (λ (n : Named). Some n.thing) is)
thing_at (first ∷ rest) up name (suc k) named at same =
    let less = up 0 (suc k) first named (omega arith) refl at in
    let far : slice_cmp nat_cmp first.name.bytes name ≡ Less =
    sym (alike_right nat_list_cmp_total named.name.bytes name first.name.bytes same) ∙ less in
    let test : bytes_eq first.name.bytes name ≡ false = same_bytes first.name.bytes name Less far in
    rw test (thing_at rest (rising_rest first rest up) name k named at same)

-- where no entry has the name, none is found
pub thing_none : (names : List Named) (name : List ℕ) →
    ((k : ℕ) (named : Named) → slice_get names k ≡ Some named → bytes_eq named.name.bytes name ≡ false) → thing_in names name ≡ None
thing_none [] name none = refl
thing_none (first ∷ rest) name none =
    let test : bytes_eq first.name.bytes name ≡ false = none 0 first refl in
    rw test (thing_none rest name (λ k named at. none (suc k) named at))

-- what is found has an entry of the name
pub record IsEntry (names : List Named) (name : List ℕ) (thing : Thing) : Type 0 where
  pub place : ℕ
  pub named : Named
  pub is : slice_get names place ≡ Some named
  pub same : bytes_eq named.name.bytes name ≡ true
  pub thing_is : named.thing ≡ thing

found_first : (first : Named) (rest : List Named) (name : List ℕ) (thing : Thing) (b : Bool) → bytes_eq first.name.bytes name ≡ b →
    (if b then Some first.thing else thing_in rest name) ≡ Some thing → (thing_in rest name ≡ Some thing → IsEntry rest name thing)
    → IsEntry (first ∷ rest) name thing
found_first first rest name thing true test found later =
    record { place = 0; named = first; is = refl; same = test; thing_is = same_Some first.thing thing found }
found_first first rest name thing false test found later =
    let entry = later found in
    record { place = suc entry.place; named = entry.named; is = entry.is; same = entry.same; thing_is = entry.thing_is }

pub found_entry : (names : List Named) (name : List ℕ) (thing : Thing) → thing_in names name ≡ Some thing → IsEntry names name thing
found_entry [] name thing found = cc
found_entry (first ∷ rest) name thing found =
    found_first first rest name thing (bytes_eq first.name.bytes name) refl found (found_entry rest name thing)

-- what a binary search for the name gives
searchable : (names : List Named) → IsRising names → (name : List ℕ) →
    IsNonDecreasingBy (λ (n : Named). ordering_index (slice_cmp nat_cmp n.name.bytes name)) names
searchable names up name = searchable_from_sorted nat_list_cmp_total (λ (n : Named). n.name.bytes) names name
    (λ k d low small.
    let a = slice_get-get_or names k d (omega (arith, small)) in
    let b = slice_get-get_or names (k + 1) d small in
    let less = up k (k + 1) (get_or names k d) (get_or names (k + 1) d) (omega arith) a b in
    ap is_lt (IsTotalOrder-antisymm (get_or names (k + 1) d).name.bytes (get_or names k d).name.bytes ∙ ap ordering_reverse less))
  where
    IsTotalOrder-antisymm : (x y : List ℕ) → slice_cmp nat_cmp x y ≡ ordering_reverse (slice_cmp nat_cmp y x)
    IsTotalOrder-antisymm x y = nat_list_cmp_total.antisymm x y

pub search_found : (names : List Named) → IsRising names → (name : List ℕ) (place : ℕ) (d : Named) → place < length names →
    HoldsAt (λ (n : Named). slice_cmp nat_cmp n.name.bytes name ≡ Equal) names place → Some (get_or names place d).thing ≡ thing_in names name
search_found names up name place d small holds =
    sym (thing_at names up name place (get_or names place d) (slice_get-get_or names place d small) (holds d))

pub search_none : (names : List Named) → IsRising names → (name : List ℕ) (place : ℕ) →
    (IsNonDecreasingBy (λ (n : Named). ordering_index (slice_cmp nat_cmp n.name.bytes name)) names →
    IsPartitionPoint (λ (n : Named). slice_cmp nat_cmp n.name.bytes name ≡ Less) (λ (n : Named). slice_cmp nat_cmp n.name.bytes name ≡ Greater) names
    place) →
    None ≡ thing_in names name
search_none names up name place parts =
    let point = parts (searchable names up name) in
    sym (thing_none names name (λ k named at.
    let within = slice_get_within names k named at in
    let here : get_or names k named ≡ named = get_or_from_slice_get names k named named at in
    elim (cases_lt k place) [
      | inl less ↦
          same_bytes named.name.bytes name Less
          (subst (λ (n : Named). slice_cmp nat_cmp n.name.bytes name ≡ Less) here (point.0 k named (omega arith) less))
      | inr more ↦
          same_bytes named.name.bytes name Greater
          (subst (λ (n : Named). slice_cmp nat_cmp n.name.bytes name ≡ Greater) here (point.1 k named more within))
    ]))

equal_bytes : (a b : List ℕ) → bytes_eq a b ≡ true → a ≡ b
equal_bytes a b same = (bytes_eq-Decides a b).0 same

found_has : (site : Site) → AreNames site → (name : List ℕ) (thing : Thing) → IsEntry site.names name thing → name_at site thing ≡ Some name
found_has site names name thing entry =
    let at = get_or_from_slice_get site.names entry.place entry.named entry.named entry.is in
    let right = subst (λ (n : Named). name_at site n.thing ≡ Some n.name.bytes) at
    (names.right entry.place entry.named (slice_get_within site.names entry.place entry.named entry.is)) in
    let bytes : entry.named.name.bytes ≡ name = equal_bytes entry.named.name.bytes name entry.same in
    subst (λ (t : Thing). name_at site t ≡ Some name) entry.thing_is (right ∙ ap (λ (b : List ℕ). Some b) bytes)

has_found : (site : Site) → AreNames site → (name : List ℕ) (thing : Thing) → name_at site thing ≡ Some name → thing_named site name ≡ Some thing
has_found site names name thing has =
    let whole = names.whole thing name has in
    let k = whole.0 in
    let named = whole.1 in
    let at = whole.2 in
    let is = whole.3 in
    let right = subst (λ (n : Named). name_at site n.thing ≡ Some n.name.bytes) (get_or_from_slice_get site.names k named named at)
    (names.right k named (slice_get_within site.names k named at)) in
    let right_here = subst (λ (t : Thing). name_at site t ≡ Some named.name.bytes) is right in
    let bytes : named.name.bytes ≡ name = same_Some named.name.bytes name (sym right_here ∙ has) in
    let same : slice_cmp nat_cmp named.name.bytes name ≡ Equal =
    subst (λ (b : List ℕ). slice_cmp nat_cmp named.name.bytes b ≡ Equal) bytes (tied_itself nat_list_cmp_total named.name.bytes) in
    thing_at site.names names.rising name k named at same ∙ ap (λ (t : Thing). Some t) is

-- a name is found exactly where a thing of the site has it
pub thing_named_iff : (site : Site) → AreNames site → (name : List ℕ) (thing : Thing) →
    (thing_named site name ≡ Some thing) ↔ (name_at site thing ≡ Some name)
thing_named_iff site names name thing =
    (λ found. found_has site names name thing (found_entry site.names name thing found), has_found site names name thing)
