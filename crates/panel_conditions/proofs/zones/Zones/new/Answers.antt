use Rattle.std.proofs.Common.{◌∙◌, ◌++◌, [], ◌∷◌, ap, sym, rules}
use Rattle.panel_conditions.specs.Stands.{are_first_watches}
use Rattle.panel_conditions.proofs.Firsts.{first_more}
use Rattle.panel_conditions.proofs.zones.Zones.new.Goals as goal

pub loop-bit-init : goal.loop-bit-init
unfolding are_first_watches
loop-bit-init c = search rules

pub loop-bit-preserved : goal.loop-bit-preserved
loop-bit-preserved c =
    c.in_ok-push.ensures.items
    ∙ ap (λ l. l ++ c.watch_of.result ∷ []) c.loop-bit.invariant
    ∙ ap (λ w. are_first_watches c.args.site.now c.args.panel c.loop-bit.bit ++ w ∷ []) c.watch_of.ensures
    ∙ sym (first_more c.args.site.now c.args.panel c.loop-bit.bit)
