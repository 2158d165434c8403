-- Third refusal of a site file: a value hasn't the kind of its key, or a text isn't of its form.
use Rattle.std.specs.Prelude.{ℕ, ◌+◌, List, Bool, true, false, is_some, Option, Some, None, if◌then◌else◌}
use Rattle.toml.specs.Data.{Data, Items, no_items, item, Members, as_integer, as_array, as_str}
use Rattle.site_types.specs.Names.{is_name}
use Rattle.site_document.specs.declared.form.Form.{Form}
use Rattle.site_document.specs.declared.form.Form.TheVariants as form
use Rattle.site_document.specs.declared.key.Key.{Key}
use Rattle.site_document.specs.declared.place.Place.{Place}
use Rattle.site_document.specs.Refusals.{Refusal, wrong_kind}
use Rattle.site_document.specs.Rules.{form_of}
use Rattle.site_document.specs.Tables.{items_in, value_at}
use Rattle.site_document.specs.Terms.{is_digest, is_term}
use Rattle.site_document.specs.Texts.{key_text, item_text, key_word}
use Rattle.site_document.specs.Words.{zone_type_of, is_manual_of, output_kind_of, marker_kind_of}

-- there is a text, and it passes the test
abbrev pub text_passes : (List ℕ → Bool) → Option (List ℕ) → Bool
text_passes test None = false
text_passes test (Some text) = test text

-- the value has the form; a list has it whatever its items are
unfoldable pub fits : Form → Data → Bool
fits form.Number value = is_some (as_integer value)
fits form.Name value = text_passes is_name (as_str value)
fits form.ZoneType value = text_passes (λ text. is_some (zone_type_of text)) (as_str value)
fits form.PointKind value = text_passes (λ text. is_some (is_manual_of text)) (as_str value)
fits form.OutputKind value = text_passes (λ text. is_some (output_kind_of text)) (as_str value)
fits form.MarkerKind value = text_passes (λ text. is_some (marker_kind_of text)) (as_str value)
fits form.Digests value = is_some (as_array value)
fits form.Numbers value = is_some (as_array value)
fits form.Terms value = is_some (as_array value)
fits form.Tables value = is_some (as_array value)

-- an item of a list has its form; tables are looked at with their own list
unfoldable pub item_fits : Form → Data → Bool
item_fits form.Number value = true
item_fits form.Name value = true
item_fits form.ZoneType value = true
item_fits form.PointKind value = true
item_fits form.OutputKind value = true
item_fits form.MarkerKind value = true
item_fits form.Digests value = text_passes is_digest (as_str value)
item_fits form.Numbers value = is_some (as_integer value)
item_fits form.Terms value = text_passes is_term (as_str value)
item_fits form.Tables value = true

-- the place of the first item that hasn't its form, the first of these items having place n
abbrev pub first_misfit : Form → ℕ → Items → Option ℕ
first_misfit form n no_items = None
first_misfit form n (item value items) =
    if item_fits form value then first_misfit form (n + 1) items else Some n

abbrev pub wrong_item : Place → Key → Option ℕ → Option Refusal
wrong_item place key None = None
wrong_item place key (Some n) = Some (wrong_kind (item_text place (key_word key) n))

abbrev pub wrong_value : Place → Key → Option Data → Option Refusal
wrong_value place key None = None
wrong_value place key (Some value) =
    if fits (form_of key) value then wrong_item place key
    (first_misfit (form_of key) 1 (items_in (Some value))) else Some
    (wrong_kind (key_text place (key_word key)))

unfoldable pub wrong_at : Place → Members → Key → Option Refusal
wrong_at place row key = wrong_value place key (value_at key row)
