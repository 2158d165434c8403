use Rattle.std.proofs.Common.{◌≡◌, take}
use Rattle.panel_rules.specs.Moments.{tick_of}
use Rattle.plain_history.specs.Histories.{all_done, history}
use Rattle.plain_panel.specs.SiteStates.{StandsForSite}
use Rattle.plain_panel.proofs.site_state.SiteState.over.Given as goal

abbrev pub invariant-loop-place : goal.invariant-loop-place
invariant-loop-place l = record {
  stands : StandsForSite l.settings.site.now l.settings.kept.now (all_done l.settings.done.now) (history (take l.place l.moments)) l.state;
  ticks : tick_of (history (take l.place l.moments)) ≡ l.tick.0;
}
