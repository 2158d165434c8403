use Rattle.std.proofs.Common.{◌∙◌, sym, subst}
use Rattle.site_types.specs.declared.word.Word.{Word}
use Rattle.panel_links.specs.Words.{IsNewest}
use Rattle.panel_links.proofs.Chains.{kept_is_newest}
use Rattle.panel_links.proofs.ring.Ring.word.Goals as goal

pub returns-clause-newest : goal.returns-clause-newest
returns-clause-newest c panels calls stands rise =
    subst (λ (w : Word). IsNewest panels c.args.of c.args.at calls w) (sym (c.kept.ensures ∙ stands.words c.args.at c.args.of c.requires.at c.requires.from))
    (kept_is_newest panels c.args.of c.args.at calls rise)
