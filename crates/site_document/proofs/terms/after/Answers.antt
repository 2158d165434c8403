use Rattle.site_document.proofs.Prefixes.{stripped}
use Rattle.site_document.proofs.terms.after.Goals as goal

pub returns : goal.returns
returns c = stripped c.args.word.now c.args.text.now c.strip_prefix.result c.strip_prefix.ensures.cases
