use Rattle.std.proofs.Common.{◌∙◌, sym}
use Rattle.site_types.proofs.Labels.{copied_code}
use Rattle.site_types.proofs.names.read_code.Goals as goal

pub returns-then-has_code_form : goal.returns-then-has_code_form
returns-then-has_code_form c = copied_code c.args.text.now _ (sym c.has_code_form.ensures ∙ c.if-has_code_form.true) c.copy.ensures
