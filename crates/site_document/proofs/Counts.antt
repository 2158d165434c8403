-- The items of a list are as many as its values.
use Rattle.std.proofs.Common.{◌≡◌, length, List, [], ◌∷◌, arith}
use Rattle.toml.specs.declared.value.Value.{Value}
use Rattle.toml.specs.View.{items_view}
use Rattle.site_document.specs.Tables.{count_of}

pub count_of_view : (vs : List Value) → count_of (items_view vs) ≡ length vs
count_of_view [] = omega arith
count_of_view (v ∷ vs) = omega (arith, count_of_view vs)
