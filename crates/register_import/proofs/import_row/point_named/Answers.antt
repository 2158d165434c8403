use Rattle.std.proofs.Common.{◌∙◌, Some, sym, ap}
use Rattle.std.specs.Prelude.{option_copied}
use Rattle.site_types.specs.declared.named.Thing.{Thing}
use Rattle.register_import.proofs.Spelled.{named_point, no_named_point}
use Rattle.register_import.proofs.import_row.point_named.Goals as goal

pub returns-in-Some : goal.returns-in-Some
returns-in-Some c =
    named_point c.args.site.now c.requires c.args.text.now c.in-Some-Point.place c.in-Some.point.now
    (sym c.find.ensures ∙ c.in-Some-Point.is ∙ ap (λ (t : Thing). Some t) c.in-Some-Point.field-0-is)
    (sym c.get.ensures ∙ ap option_copied c.in-Some.is)

pub returns-in-None : goal.returns-in-None
returns-in-None c =
    absurd (no_named_point c.args.site.now c.requires c.args.text.now c.in-Some-Point.place
    (sym c.find.ensures ∙ c.in-Some-Point.is ∙ ap (λ (t : Thing). Some t) c.in-Some-Point.field-0-is)
    (sym c.get.ensures ∙ ap option_copied c.in-None.is))
