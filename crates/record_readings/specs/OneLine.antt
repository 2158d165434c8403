-- Bytes that end one line.
use Rattle.std.specs.Prelude.{◌≡◌, ◌==◌, ◌++◌, ℕ, Bool, true, List, [], ◌∷◌, not}
use Rattle.std.specs.List.{list_all}

-- the byte ends no line
abbrev pub is_within_line : ℕ → Bool
is_within_line byte = not (byte == 10)

-- bytes of which the last one alone ends a line
pub record EndsOneLine (bytes : List ℕ) : Type 0 where
  pub text : List ℕ
  pub is : bytes ≡ text ++ 10 ∷ []
  pub within : list_all is_within_line text ≡ true
