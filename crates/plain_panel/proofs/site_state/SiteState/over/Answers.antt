use Rattle.std.proofs.Common.{◌≡◌, ◌∙◌, ◌+◌, ◌∷◌, List, ap, subst, sym, take}
use Rattle.panel_rules.specs.Moments.{Moment as MomentOf, tick_of}
use Rattle.plain_history.specs.Histories.{all_done, history, moment_of}
use Rattle.plain_panel.specs.SiteStates.{StandsForSite}
use Rattle.plain_panel.proofs.SiteStates.{history_at}
use Rattle.plain_panel.proofs.site_state.SiteState.over.Goals as goal

pub loop-place-preserved : goal.loop-place-preserved
loop-place-preserved c =
    let moments = c.args.moments.now in
    let k = c.loop-place.place in
    let moment = c.index-moments-place.result in
    let before = history (take k moments) in
    let same : history (take (k + 1) moments) ≡ moment_of moment ∷ before =
    history_at moments k moment c.loop-place-test.true ∙ ap (λ m. moment_of m ∷ before) (sym c.index-moments-place.is) in
    record {
      stands =
          subst (λ (h : List MomentOf). StandsForSite c.args.settings.now.site.now c.args.settings.now.kept.now (all_done c.args.settings.now.done.now) h c.step.new.self) (sym same)
          c.in_ok-step.ensures;
      ticks = ap tick_of same ∙ c.in_ok-tick.ensures before c.loop-place.invariant.ticks;
    }
