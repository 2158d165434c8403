use Rattle.std.proofs.Common.{◌∙◌}
use Rattle.plain_panel.proofs.Elsewhere.{shows_nothing}
use Rattle.plain_panel.proofs.face_shown.word_shown.Goals as goal

pub returns-else-source-site : goal.returns-else-source-site
returns-else-source-site c kept done before s =
    c.no_word.ensures ∙ shows_nothing c.args.site.now kept done c.args.panel before c.args.source c.requires.panel c.if-source-site.false
