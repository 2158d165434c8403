use Rattle.std.proofs.Common.{◌++◌, ◌∙◌, ap}
use Rattle.drill_site.specs.Files.{marker_head, term_text}
use Rattle.drill_site.proofs.Each.{begins, grows}
use Rattle.drill_site.proofs.files.push_marker.Goals as goal

pub loop-before-init : goal.loop-before-init
loop-before-init c =
    c.in_ok-push_line.ensures
    ∙ ap (λ xs. c.args.text.now.items ++ xs) (c.as_str.ensures.value ∙ c.marker_head.ensures)
    ∙ begins (c.args.text.now.items ++ marker_head c.args.panel) (term_text c.args.panel)

pub loop-before-preserved : goal.loop-before-preserved
loop-before-preserved c =
    let pushed = c.in_ok-push_line-2.ensures in
    let is = c.as_str-in-loop-before.ensures.value ∙ c.term_text.ensures in
    grows (c.args.text.now.items ++ marker_head c.args.panel) _ _ _ (term_text c.args.panel) c.loop-before.before c.loop-before.invariant pushed is
