-- Tables of words, and what each says.
use Rattle.std.specs.Prelude.{◌==◌, ℕ, Bool, true, false, List, [], ◌∷◌, codes, bytes_eq, Option, Some, None}
use Rattle.std.specs.Prelude.{if◌then◌else◌}

-- the value that stands beside the word in a table, if the word stands there
abbrev pub value_beside : {Value : Type 0} → List ℕ → List (List ℕ × Value) → Option Value
value_beside word [] = None
value_beside word (row ∷ rows) = if bytes_eq word row.0 then Some row.1 else value_beside word rows

-- the value that stands beside the letter in a table, if the letter stands there
abbrev pub value_beside_letter : {Value : Type 0} → ℕ → List (ℕ × Value) → Option Value
value_beside_letter letter [] = None
value_beside_letter letter (row ∷ rows) = if letter == row.0 then Some row.1 else value_beside_letter letter rows

abbrev pub truths : List (List ℕ × Bool)
truths = (codes "on", true) ∷ (codes "off", false) ∷ []

-- what `on` and `off` say
abbrev pub truth_of : List ℕ → Option Bool
truth_of word = value_beside word truths
