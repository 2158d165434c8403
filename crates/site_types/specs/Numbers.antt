-- The form of a number of a record, and the number that a text of this form spells.
use Rattle.std.specs.Prelude.{◌+◌, ◌-◌, ◌*◌, ◌^◌, ◌&&◌, ◌==◌, ℕ, Bool, true, false, not, nat_le, nat_lt, List, []}
use Rattle.std.specs.Prelude.{◌∷◌, Option, Some, None, if◌then◌else◌}

-- a digit, `0` to `9`
abbrev pub is_digit : ℕ → Bool
is_digit byte = nat_le 48 byte && nat_le byte 57

abbrev pub all_digits : List ℕ → Bool
all_digits [] = true
all_digits (byte ∷ rest) = is_digit byte && all_digits rest

-- the number that digits spell after those that spelled another
abbrev pub value_after : ℕ → List ℕ → ℕ
value_after number [] = number
value_after number (digit ∷ rest) = value_after (10 * number + (digit - 48)) rest

-- a text that is not empty, and has no `0` in front of anything
abbrev pub begins_as_number : List ℕ → Bool
begins_as_number [] = false
begins_as_number (byte ∷ []) = true
begins_as_number (byte ∷ next ∷ rest) = not (byte == 48)

-- digits without sign or leading zero
abbrev pub has_number_form : List ℕ → Bool
has_number_form text = begins_as_number text && all_digits text

-- the number of a text, if it has the form and lies below 2 ^ 64
unfoldable pub number_of : List ℕ → Option ℕ
number_of text =
    if has_number_form text && nat_lt (value_after 0 text) (2 ^ 64) then Some (value_after 0 text) else None
