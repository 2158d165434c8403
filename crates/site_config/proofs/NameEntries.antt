-- The entries of a map of names, as a list of names.
use Rattle.std.proofs.Common.{◌≡◌, ℕ, List, [], ◌∷◌, Bool, true, false, Option, Some, map, cond, String, string_bytes, BTreeMap, Global, refl, ap, sym, subst, ◌∙◌, Less, if◌then◌else◌}
use Rattle.std.proofs.lemmas.Map.Text.{is_eq-slice_cmp}
use Rattle.std.specs.BTreeMap.{IsOrdered, is_at}
use Rattle.std.specs.Cmp.Lexicographic.{slice_cmp}
use Rattle.std.specs.List.{AllByRecursion}
use Rattle.std.specs.List.Sorted.{IsStrictlySortedBy}
use Rattle.std.specs.Map.{keys_of, lookup}
use Rattle.std.specs.Ordering.{nat_cmp}
use Rattle.std.specs.String.{string_cmp}
use Rattle.site_types.specs.declared.named.Named.{Named}
use Rattle.site_types.specs.declared.named.Thing.{Thing}
use Rattle.site_config.specs.NamedList.{AreListed, Rise, entries_view, named_view, thing_among}
use Rattle.site_config.specs.NameMaps.{look_up}

above : (key : String Global) (es : List (String Global × Thing)) → AllByRecursion (λ (y : String Global). string_cmp key y ≡ Less) (keys_of es)
    → AllByRecursion (λ (other : List ℕ × Thing). slice_cmp nat_cmp (string_bytes key) other.0 ≡ Less) (entries_view es)
above key [] all = tt
above key (e ∷ es) all = (all.0, above key es all.1)

rises : (es : List (String Global × Thing)) → IsStrictlySortedBy string_cmp (keys_of es) → Rise (entries_view es)
unfolding IsStrictlySortedBy
rises [] sorted = tt
rises (e ∷ es) sorted = (above e.0 es sorted.0, rises es sorted.1)

pick : (a b : Bool) (x : Thing) (m n : Option Thing) → a ≡ b → m ≡ n → (if a then Some x else m) ≡ cond b (Some x) n
pick true b x m n e f = rw (← e)
pick false b x m n e f = rw (← e) f

finds : (es : List (String Global × Thing)) (name : List ℕ) →
    thing_among (entries_view es) name ≡ lookup (is_at (λ (k : String Global). slice_cmp nat_cmp name (string_bytes k))) es
finds [] name = refl
finds (e ∷ es) name = pick _ _ e.1 _ _ (sym (is_eq-slice_cmp name (string_bytes e.0))) (finds es name)

pub listed : (names : BTreeMap (String Global) Thing) (xs : List Named) → map named_view xs ≡ entries_view names.entries → IsOrdered string_cmp names
    → AreListed (look_up names) xs
listed names xs same ordered = record {
  rising = subst Rise (sym same) (rises names.entries ordered);
  found = λ name. ap (λ es. thing_among es name) same ∙ finds names.entries name;
}
