use Rattle.std.proofs.Common.{◌∙◌, ℕ, ap, arith, refl}
use Rattle.panel_rules.specs.Moments.{IsPanel}
use Rattle.plain_panel.specs.declared.indications.Indications.{Indications}
use Rattle.plain_panel.proofs.HoldsShown.{none_shown}
use Rattle.panel_bridges.proofs.NoFaultsYet.{no_faults_yet}
use Rattle.plain_panel.proofs.network.Network.new.Goals as goal

pub returns-clause-stands : goal.returns-clause-stands
returns-clause-stands c kept done =
    let few = c.requires.forms.panels.1 in
    let none =
    λ (panel : ℕ) (p : IsPanel c.args.site.now.panels panel). none_shown c.nothing.result panel c.nothing.ensures p.0 (omega (arith, p.1, few)) in
    record {
      size = refl;
      ring = c.new.ensures.stands;
      words = λ panel p. ap (λ (o : Indications). o.word) (none panel p);
      faults = λ panel p. ap (λ (o : Indications). o.faults) (none panel p) ∙ no_faults_yet c.args.site.now kept done panel;
      news = λ panel p. ap (λ (o : Indications). o.news.0) (none panel p);
    }
