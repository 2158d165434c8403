use Rattle.std.proofs.Common.{◌∷◌, List, Vec, Global, subst, sym}
use Rattle.panel_rules.specs.Run.{facts_of}
use Rattle.plain_outputs.specs.declared.driving.Driving.{Driving}
use Rattle.plain_words.specs.declared.entering.Entering.{Entering}
use Rattle.plain_outputs.specs.Drives.{DrivesFor}
use Rattle.plain_words.specs.Enterings.{AllAsk, AreEntering}
use Rattle.plain_history.specs.Histories.{all_done, history, moment_of}
use Rattle.plain_words.proofs.EnteringPanels.{all_ask}
use Rattle.plain_panel.proofs.SiteStates.{panels_stepped}
use Rattle.plain_panel.proofs.site_state.SiteState.step.Goals as goal

pub step_all-requires : goal.step_all-requires
step_all-requires c =
    subst (λ (xs : List Entering). AllAsk c.args.settings.now.site.now xs) (sym c.deref_mut.ensures.value)
    (all_ask c.args.settings.now.site.now c.args.settings.now.kept.now (all_done c.args.settings.now.done.now) (history c.args.before.now) 1 c.args.self.now.panels.items
    c.requires.stands.panels.all)

pub facts_now-facts-requires : goal.facts_now-facts-requires
facts_now-facts-requires c = c.requires.stands.network.size

pub hear-requires : goal.hear-requires
hear-requires c =
    let site = c.args.settings.now.site.now in
    let kept = c.args.settings.now.kept.now in
    let done = all_done c.args.settings.now.done.now in
    let before = history c.args.before.now in
    let s = c.requires.stands in
    record {
      valid = c.requires.valid;
      panels = panels_stepped site kept done c.args.tick.0 before (moment_of c.args.moment.now) c.args.self.now.panels _ c.step_all.new.panels c.step_all.auto.panels c.deref_mut.ensures.value
          c.in_ok-step_all.ensures c.requires.ticks s.panels;
      network = s.network;
      driving = c.in_ok-step.ensures (facts_of site kept done) before s.driving (c.facts_now-facts.ensures kept done before c.requires.valid s.network);
      ticks = c.requires.ticks;
    }

pub returns : goal.returns
returns c =
    let site = c.args.settings.now.site.now in
    let kept = c.args.settings.now.kept.now in
    let done = all_done c.args.settings.now.done.now in
    let before = history c.args.before.now in
    let moment = moment_of c.args.moment.now in
    let s = c.requires.stands in
    record {
      panels =
          subst (λ (v : Vec Entering Global). AreEntering site kept done (moment ∷ before) v.items) (sym c.hear.ensures.panels)
          (panels_stepped site kept done c.args.tick.0 before moment c.args.self.now.panels _ c.step_all.new.panels c.step_all.auto.panels c.deref_mut.ensures.value c.in_ok-step_all.ensures
          c.requires.ticks s.panels);
      network = c.hear.ensures.network;
      driving =
          subst (λ (d : Driving). DrivesFor site (facts_of site kept done) (moment ∷ before) d) (sym c.hear.ensures.driving)
          (c.in_ok-step.ensures (facts_of site kept done) before s.driving (c.facts_now-facts.ensures kept done before c.requires.valid s.network));
    }
