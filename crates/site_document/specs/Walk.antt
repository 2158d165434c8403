-- A site file looked at in passes: each pass looks at the table of the whole file first, then at loops,
-- zones, points, outputs and markers, each list in its order and the keys of each table in alphabetical
-- order.
use Rattle.std.specs.Prelude.{ℕ, ◌+◌, List, [], ◌∷◌, Option, Some, None}
use Rattle.toml.specs.Data.{Data, string, integer, float, boolean, datetime, array, table, Items, no_items, item}
use Rattle.toml.specs.Data.{Members}
use Rattle.site_document.specs.declared.key.Key.{Key}
use Rattle.site_document.specs.declared.place.Place.{Place}
use Rattle.site_document.specs.declared.row_kind.RowKind.{RowKind}
use Rattle.site_document.specs.declared.row_kind.RowKind.TheVariants as kind
use Rattle.site_document.specs.declared.pass.Pass.{Pass}
use Rattle.site_document.specs.declared.pass.Pass.TheVariants as pass
use Rattle.site_document.specs.Missing.{missing_at}
use Rattle.site_document.specs.Ranges.{out_at}
use Rattle.site_document.specs.Refusals.{Refusal, wrong_kind, or_later, first_found}
use Rattle.site_document.specs.Rules.{keys_of, row_kinds}
use Rattle.site_document.specs.Tables.{items_at, list_key}
use Rattle.site_document.specs.Texts.{row_text}
use Rattle.site_document.specs.Unknown.{unknown_in}
use Rattle.site_document.specs.WrongKind.{wrong_at}

-- what a pass finds at a key of a table, under the table of the whole file; unknown keys are not among these
unfoldable pub found_at : Pass → Place → Members → Members → Key → Option Refusal
found_at pass.Missing place top row key = missing_at place row key
found_at pass.WrongKind place top row key = wrong_at place row key
found_at pass.Unknown place top row key = None
found_at pass.OutOfRange place top row key = out_at place top row key

abbrev pub found_at_keys : Pass → Place → Members → Members → Option Refusal
found_at_keys pass place top row = first_found (found_at pass place top row) (keys_of place.kind)

-- what a pass finds in a table
unfoldable pub found_in : Pass → Place → Members → Members → Option Refusal
found_in pass.Missing place top row = found_at_keys pass.Missing place top row
found_in pass.WrongKind place top row = found_at_keys pass.WrongKind place top row
found_in pass.Unknown place top row = unknown_in place row
found_in pass.OutOfRange place top row = found_at_keys pass.OutOfRange place top row

-- what stands in a list of tables and isn't one is looked at for its kind alone
abbrev pub found_stray : Pass → Place → Option Refusal
found_stray pass.Missing place = None
found_stray pass.WrongKind place = Some (wrong_kind (row_text place))
found_stray pass.Unknown place = None
found_stray pass.OutOfRange place = None

-- what a pass finds in an item of a list of tables
unfoldable pub found_in_row : Pass → Place → Members → Data → Option Refusal
found_in_row pass place top (table row) = found_in pass place top row
found_in_row pass place top (string _) = found_stray pass place
found_in_row pass place top (integer _) = found_stray pass place
found_in_row pass place top (float _) = found_stray pass place
found_in_row pass place top (boolean _) = found_stray pass place
found_in_row pass place top (datetime _) = found_stray pass place
found_in_row pass place top (array _) = found_stray pass place

-- the items of a list from the one with place n on
abbrev pub found_in_rows : Pass → RowKind → Members → ℕ → Items → Option Refusal
found_in_rows pass kind top n no_items = None
found_in_rows pass kind top n (item value items) =
    or_later (found_in_row pass (record { kind = kind; number = n }) top value)
    (found_in_rows pass kind top (n + 1) items)

unfoldable pub found_in_list : Pass → Members → RowKind → Option Refusal
found_in_list pass top kind = found_in_rows pass kind top 1 (items_at (list_key kind) top)

abbrev pub whole : Place
whole = record { kind = kind.Top; number = 0 }

-- what a pass finds in a document
unfoldable pub found_by : Members → Pass → Option Refusal
found_by top pass = or_later (found_in pass whole top top) (first_found (found_in_list pass top) row_kinds)

abbrev pub passes : List Pass
passes = pass.Missing ∷ pass.WrongKind ∷ pass.Unknown ∷ pass.OutOfRange ∷ []

-- the first finding of the first pass that finds anything
unfoldable pub finding : Members → Option Refusal
finding top = first_found (found_by top) passes
