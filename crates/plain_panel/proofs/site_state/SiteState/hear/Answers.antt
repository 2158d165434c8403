use Rattle.std.proofs.Common.{◌≡◌, ◌≤◌, ◌∷◌, List, ap, arith, length, refl, subst, sym}
use Rattle.tick_units.specs.declared.task.Task.TheVariants.{Hold}
use Rattle.panel_rules.specs.Moments.{Moment as MomentOf, Turned}
use Rattle.panel_rules.specs.Run.{facts_of}
use Rattle.plain_words.specs.declared.entering.Entering.{Entering}
use Rattle.plain_outputs.specs.Drives.{DrivesFor}
use Rattle.plain_words.specs.Enterings.{AllEnter}
use Rattle.plain_history.specs.Histories.{all_done, history, moment_of}
use Rattle.plain_panel.specs.Network.{StandsFor}
use Rattle.plain_panel.proofs.site_state.SiteState.hear.Goals as goal

pub returns-in-Some : goal.returns-in-Some
returns-in-Some c =
    let site = c.args.settings.now.site.now in
    let kept = c.args.settings.now.kept.now in
    let done = all_done c.args.settings.now.done.now in
    let before = history c.args.before.now in
    let panel = c.in-Some.panel in
    let turned : moment_of c.args.moment.now ≡ Turned panel Hold = ap moment_of c.in-Some.ensures in
    let all : AllEnter site kept done (Turned panel Hold ∷ before) 1 c.deref.result.now =
    subst (λ (m : MomentOf). AllEnter site kept done (m ∷ before) 1 c.deref.result.now) turned
    (subst (λ (xs : List Entering). AllEnter site kept done (moment_of c.args.moment.now ∷ before) 1 xs) (sym c.deref.ensures.value)
    c.requires.panels.all) in
    let drives = subst (λ (m : MomentOf). DrivesFor site (facts_of site kept done) (m ∷ before) c.args.self.now.driving) turned c.requires.driving in
    record {
      panels = refl;
      network =
          subst (λ (m : MomentOf). StandsFor site kept done (m ∷ before) c.hold.new.self) (sym turned)
          (c.hold.ensures.stands c.requires.network (sym c.requires.ticks)
          (λ is.
          let last : panel ≤ length c.deref.result.now = omega (arith, is.1, c.requires.panels.count, ap length c.deref.ensures.value) in
          c.held_at-held.ensures site kept done (Turned panel Hold ∷ before) all (is.0, last))
          (λ is. c.outputs_in-unconfirmed.ensures (facts_of site kept done) (Turned panel Hold ∷ before) drives));
      driving = refl;
    }

pub returns-in-None : goal.returns-in-None
returns-in-None c =
    record {
      panels = refl;
      network =
          c.step.ensures.stands c.in-None.ensures c.args.settings.now.site.now c.args.settings.now.kept.now (all_done c.args.settings.now.done.now)
          (history c.args.before.now) c.requires.network (sym c.requires.ticks);
      driving = refl;
    }
