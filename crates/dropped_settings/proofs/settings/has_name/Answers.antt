use Rattle.std.proofs.Common.{◌∙◌, ap, sym}
use Rattle.dropped_settings.specs.Names.{has_name}
use Rattle.site_types.proofs.Finding.{thing_named_iff}
use Rattle.dropped_settings.proofs.Named.{kind_by_name}
use Rattle.dropped_settings.proofs.settings.has_name.Goals as goal

pub returns-in-Some : goal.returns-in-Some
returns-in-Some c =
    c.is_of_kind.ensures
    ∙ kind_by_name c.args.site.now c.args.kind c.as_bytes.result.now (thing_named_iff c.args.site.now c.requires.names c.as_bytes.result.now) _
    (sym c.find.ensures ∙ c.in-Some.is)
    ∙ ap (has_name c.args.site.now c.args.kind) (c.as_bytes.ensures.value ∙ c.as_str.ensures.value)

pub returns-in-None : goal.returns-in-None
returns-in-None c =
    kind_by_name c.args.site.now c.args.kind c.as_bytes.result.now (thing_named_iff c.args.site.now c.requires.names c.as_bytes.result.now) _
    (sym c.find.ensures ∙ c.in-None.is)
    ∙ ap (has_name c.args.site.now c.args.kind) (c.as_bytes.ensures.value ∙ c.as_str.ensures.value)
