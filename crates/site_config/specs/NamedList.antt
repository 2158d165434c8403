-- The list of names of a site, in the order of the names.
use Rattle.std.specs.Prelude.{◌≡◌, ℕ, List, [], ◌∷◌, Option, Some, None, map, String, string_bytes, if◌then◌else◌}
use Rattle.std.specs.Cmp.Lexicographic.{slice_cmp}
use Rattle.std.specs.List.{AllByRecursion}
use Rattle.std.specs.Ordering.{nat_cmp}
use Rattle.std.specs.Str.{bytes_eq}
use Rattle.std.specs.declared.alloc.Global.{Global}
use Rattle.std.specs.declared.cmp.Ordering.TheVariants.{Less}
use Rattle.site_types.specs.declared.named.Named.{Named}
use Rattle.site_types.specs.declared.named.Thing.{Thing}

abbrev pub named_view : Named → List ℕ × Thing
named_view named = (named.name.bytes, named.thing)

abbrev pub entry_view : String Global × Thing → List ℕ × Thing
entry_view entry = (string_bytes entry.0, entry.1)

abbrev pub entries_view : List (String Global × Thing) → List (List ℕ × Thing)
entries_view entries = map entry_view entries

-- each name is below those after it, by their bytes
abbrev pub Rise : List (List ℕ × Thing) → Type 0
Rise [] = Unit {0}
Rise (named ∷ rest) =
    AllByRecursion (λ (other : List ℕ × Thing). slice_cmp nat_cmp named.0 other.0 ≡ Less) rest × Rise rest

-- what a name stands for in a list of names
abbrev pub thing_among : List (List ℕ × Thing) → List ℕ → Option Thing
thing_among [] name = None
thing_among (named ∷ rest) name = if bytes_eq name named.0 then Some named.1 else thing_among rest name

-- the names rise strictly, and each stands for what this says, and for nothing else
pub record AreListed (look : List ℕ → Option Thing) (names : List Named) : Type 0 where
  pub rising : Rise (map named_view names)
  pub found : (name : List ℕ) → thing_among (map named_view names) name ≡ look name
