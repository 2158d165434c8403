use Rattle.std.proofs.Common.{◌∙◌, sym}
use Rattle.site_types.proofs.Spelling.{begun, not_begun}
use Rattle.site_types.proofs.numbers.read_number.Goals as goal

pub returns-then-has_number_start : goal.returns-then-has_number_start
returns-then-has_number_start c = c.read_digits.ensures ∙ begun c.args.text.now (sym c.has_number_start.ensures ∙ c.if-has_number_start.true)

pub returns-else-has_number_start : goal.returns-else-has_number_start
returns-else-has_number_start c = not_begun c.args.text.now (sym c.has_number_start.ensures ∙ c.if-has_number_start.false)
