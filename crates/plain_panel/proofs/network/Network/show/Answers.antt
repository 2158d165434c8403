use Rattle.std.proofs.Common.{◌∙◌, ◌-◌, ◌∷◌, ap, arith, slice_set, subst, sym}
use Rattle.tick_units.specs.declared.task.Task.TheVariants.{Hold}
use Rattle.panel_rules.specs.Moments.{IsPanel, Turned}
use Rattle.plain_panel.specs.declared.indications.Indications.{Indications}
use Rattle.plain_panel.specs.Network.{indications_then}
use Rattle.plain_panel.proofs.HoldsShown.{AreShown, shown_now}
use Rattle.plain_panel.proofs.network.Network.show.Goals as goal

pub returns-clause-stands : goal.returns-clause-stands
returns-clause-stands c site kept done before stands tick faults word =
    let size = stands.size in
    let few = c.args.self.now.few in
    let p : IsPanel site.panels c.args.panel = (c.requires.0, omega (arith, size, c.requires.1)) in
    let shown =
    shown_now site kept done before c.args.self.now.indications (record { words = stands.words; faults = stands.faults; news = stands.news }) (omega arith)
    (omega (arith, size, few)) c.args.panel p
    c.args.now c.args.word c.args.faults tick faults word in
    let made = c.then.ensures ∙ ap (λ (o : Indications). indications_then o c.args.now c.args.word c.args.faults) c.indications-shown.ensures in
    let now = subst (λ (o : Indications). AreShown site kept done (Turned c.args.panel Hold ∷ before) (slice_set c.args.self.now.indications (c.args.panel - 1) o))
    (sym made) shown in
    record { size = stands.size; ring = stands.ring; words = now.words; faults = now.faults; news = now.news }
