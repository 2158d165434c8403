-- Fourth refusal of a site file: a key that isn't one of its table, or isn't one for the table's type or
-- kind.
use Rattle.std.specs.Prelude.{ℕ, List, Bool, ◌&&◌, Option, Some, None, if◌then◌else◌}
use Rattle.std.specs.List.{list_any}
use Rattle.std.specs.Str.{bytes_eq}
use Rattle.toml.specs.Data.{Members, no_members, member}
use Rattle.site_document.specs.declared.place.Place.{Place}
use Rattle.site_document.specs.declared.row_kind.RowKind.{RowKind}
use Rattle.site_document.specs.Needs.{is_allowed}
use Rattle.site_document.specs.Refusals.{Refusal, unknown, or_later}
use Rattle.site_document.specs.Rules.{keys_of}
use Rattle.site_document.specs.Texts.{key_text, key_word}

-- a table of this kind may have a key of this name
unfoldable pub is_known : RowKind → Members → List ℕ → Bool
is_known kind row name = list_any (λ key. bytes_eq (key_word key) name && is_allowed key row) (keys_of kind)

-- the first unknown key among some of the members of a table, which stand in the order of their keys
abbrev pub unknown_among : Place → Members → Members → Option Refusal
unknown_among place row no_members = None
unknown_among place row (member name value rest) =
    or_later (if is_known place.kind row name then None else Some (unknown (key_text place name)))
    (unknown_among place row rest)

unfoldable pub unknown_in : Place → Members → Option Refusal
unknown_in place row = unknown_among place row row
