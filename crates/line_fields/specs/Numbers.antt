-- The numbers of fields, with so many bits.
use Rattle.std.specs.Prelude.{ℕ, Bool, nat_lt, List, Option, Some, None, is_some, if◌then◌else◌}
use Rattle.std.specs.Option.{option_and_then}
use Rattle.site_types.specs.Numbers.{number_of}

-- a number below 2 ^ 64
abbrev pub is_number : List ℕ → Bool
is_number text = is_some (number_of text)

-- the number of a field, if it is below a bound
abbrev pub number_below : ℕ → List ℕ → Option ℕ
number_below bound text =
    option_and_then (λ number. if nat_lt number bound then Some number else None) (number_of text)
