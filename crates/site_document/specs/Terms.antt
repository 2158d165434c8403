-- The terms of a marker, and digests, as texts.
use Rattle.std.specs.Prelude.{ℕ, ◌==◌, List, Bool, false, ◌&&◌, ◌||◌, nat_le, Option, Some, None, is_some, codes}
use Rattle.std.specs.Prelude.{length, take, drop, if◌then◌else◌}
use Rattle.std.specs.List.{list_all}
use Rattle.std.specs.Str.{bytes_eq}
use Rattle.site_types.specs.Names.{is_name}
use Rattle.site_types.specs.Numbers.{is_digit, number_of}
use Rattle.site_document.specs.declared.terms.TermKind.{TermKind}
use Rattle.site_document.specs.declared.terms.TermKind.TheVariants as kind

-- what follows a word at the beginning of a text
abbrev pub after : List ℕ → List ℕ → Option (List ℕ)
after word text = if bytes_eq (take (length word) text) word then Some (drop (length word) text) else None

-- the kind of a term and what follows its word
abbrev pub split_as : TermKind → Option (List ℕ) → Option (TermKind × List ℕ) → Option (TermKind × List ℕ)
split_as kind (Some rest) otherwise = Some (kind, rest)
split_as kind None otherwise = otherwise

unfoldable pub split_term : List ℕ → Option (TermKind × List ℕ)
split_term text =
    split_as kind.Zone (after (codes "zone:") text)
    (split_as kind.Manual (after (codes "manual:") text)
    (split_as kind.Fault (after (codes "fault:") text)
    (split_as kind.Marker (after (codes "marker:") text) None)))

-- a term names a zone or a marker by its name, and a panel by its number
abbrev pub is_operand : TermKind → List ℕ → Bool
is_operand kind.Zone rest = is_name rest
is_operand kind.Manual rest = is_name rest
is_operand kind.Fault rest = is_some (number_of rest)
is_operand kind.Marker rest = is_name rest

abbrev pub is_split_term : Option (TermKind × List ℕ) → Bool
is_split_term None = false
is_split_term (Some parts) = is_operand parts.0 parts.1

-- `zone:NAME`, `manual:NAME`, `fault:PANEL` or `marker:NAME`
unfoldable pub is_term : List ℕ → Bool
is_term text = is_split_term (split_term text)

-- a digit or `a` to `f`
abbrev pub is_hex_digit : ℕ → Bool
is_hex_digit byte = is_digit byte || (nat_le 97 byte && nat_le byte 102)

-- 64 of these
unfoldable pub is_digest : List ℕ → Bool
is_digest text = (length text == 64) && list_all is_hex_digit text
