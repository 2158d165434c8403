-- Rows of a table, one behind the other.
use Rattle.std.proofs.Common.{◌≡◌, ◌∙◌, ◌++◌, ℕ, List, ap}
use Rattle.desk_answers.specs.Objects.{number_behind}

-- a row more
pub row_put : (words : List ℕ) (number shown : ℕ) (old told text : List ℕ) → old ≡ told → text ≡ old ++ number_behind words number → number ≡ shown
    → text ≡ told ++ number_behind words shown
row_put words number shown old told text before put is =
    put ∙ ap (λ (xs : List ℕ). xs ++ number_behind words number) before ∙ ap (λ (n : ℕ). told ++ number_behind words n) is
