-- What a map of names has at a name, and a map of numbers at a number.
use Rattle.std.specs.Prelude.{ℕ, List, Bool, Option, is_some, String}
use Rattle.std.specs.BTreeMap.{BTreeMap, get_by, get_by_text}
use Rattle.std.specs.Cmp.Lexicographic.{slice_cmp}
use Rattle.std.specs.Ordering.{nat_cmp}
use Rattle.std.specs.declared.alloc.Global.{Global}
use Rattle.site_types.specs.declared.named.Thing.{Thing}

-- what the name stands for
abbrev pub look_up : BTreeMap (String Global) Thing → List ℕ → Option Thing
look_up names name = get_by_text names name

-- the number is in the map
abbrev pub is_in : BTreeMap (List ℕ) (Unit {0}) → List ℕ → Bool
is_in numbers number = is_some (get_by (slice_cmp nat_cmp number) numbers)
