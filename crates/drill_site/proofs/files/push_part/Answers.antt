use Rattle.std.proofs.Common.{◌++◌, ◌∙◌, ap, refl}
use Rattle.drill_site.specs.Files.{list_head, text_of_panel}
use Rattle.drill_site.proofs.Each.{begins, grows}
use Rattle.drill_site.proofs.files.push_part.Goals as goal

pub loop-before-init : goal.loop-before-init
loop-before-init c =
    c.in_ok-extend_from_slice.ensures.items
    ∙ ap (λ xs. c.args.text.now.items ++ xs) c.key_of.ensures
    ∙ begins (c.args.text.now.items ++ list_head c.args.part) (text_of_panel c.args.part)

pub loop-before-preserved : goal.loop-before-preserved
loop-before-preserved c = grows (c.args.text.now.items ++ list_head c.args.part) _ _ _ (text_of_panel c.args.part) c.loop-before.before c.loop-before.invariant c.in_ok-push_panel.ensures (refl)
