use Rattle.std.proofs.Common.{◌∙◌, sym}
use Rattle.site_types.proofs.Labels.{copied_name}
use Rattle.site_types.proofs.names.read_name.Goals as goal

pub returns-then-has_name_form : goal.returns-then-has_name_form
returns-then-has_name_form c = copied_name c.args.text.now _ (sym c.has_name_form.ensures ∙ c.if-has_name_form.true) c.copy.ensures
