-- Second refusal of a site file: a needed key is absent.
use Rattle.std.specs.Prelude.{Option, Some, None, ◌&&◌, is_none, if◌then◌else◌}
use Rattle.toml.specs.Data.{Members}
use Rattle.site_document.specs.declared.key.Key.{Key}
use Rattle.site_document.specs.declared.place.Place.{Place}
use Rattle.site_document.specs.Needs.{is_needed}
use Rattle.site_document.specs.Refusals.{Refusal, missing}
use Rattle.site_document.specs.Tables.{value_at}
use Rattle.site_document.specs.Texts.{key_text, key_word}

unfoldable pub missing_at : Place → Members → Key → Option Refusal
missing_at place row key =
    if is_needed key row && is_none (value_at key row) then Some (missing (key_text place (key_word key)))
    else None
