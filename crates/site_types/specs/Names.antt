-- The form of a name and of a code.
use Rattle.std.specs.Prelude.{◌&&◌, ◌||◌, ◌==◌, ℕ, Bool, false, nat_le, List, [], ◌∷◌, length, Option, Some, None}
use Rattle.std.specs.Prelude.{if◌then◌else◌}
use Rattle.std.specs.List.{list_all}
use Rattle.site_types.specs.Limits.{name_bytes}
use Rattle.site_types.specs.Numbers.{is_digit}

-- a letter, `a` to `z`
abbrev pub is_letter : ℕ → Bool
is_letter byte = nat_le 97 byte && nat_le byte 122

-- a letter, a digit or `-`
abbrev pub is_name_byte : ℕ → Bool
is_name_byte byte = is_letter byte || is_digit byte || (byte == 45)

abbrev pub begins_with_letter : List ℕ → Bool
begins_with_letter [] = false
begins_with_letter (byte ∷ rest) = is_letter byte

-- 1 to 16 of these, beginning with a letter
abbrev pub is_name : List ℕ → Bool
is_name text = begins_with_letter text && nat_le (length text) name_bytes && list_all is_name_byte text

-- a letter or a digit
abbrev pub is_code_byte : ℕ → Bool
is_code_byte byte = is_letter byte || is_digit byte

-- 1 to 16 of these
abbrev pub is_code : List ℕ → Bool
is_code text = nat_le 1 (length text) && nat_le (length text) 16 && list_all is_code_byte text

-- the name or the code that a text spells
abbrev pub name_of : List ℕ → Option (List ℕ)
name_of text = if is_name text then Some text else None

abbrev pub code_of : List ℕ → Option (List ℕ)
code_of text = if is_code text then Some text else None
