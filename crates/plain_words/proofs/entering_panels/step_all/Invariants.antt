use Rattle.std.proofs.Common.{◌≡◌, ◌+◌, ℕ, List, ◌∷◌, take, drop}
use Rattle.panel_rules.specs.Moments.{Moment, tick_of}
use Rattle.plain_words.specs.Enterings.{AllAsk, AllEnter}
use Rattle.plain_history.specs.Histories.{all_done, moment_of}
use Rattle.plain_words.proofs.entering_panels.step_all.Given as goal

abbrev pub invariant-loop-entering : goal.invariant-loop-entering
invariant-loop-entering l = record {
  rest : AllAsk l.settings.site.now (drop l.entering-index l.panels);
  stepped : (first : ℕ) (history : List Moment) → AllEnter l.settings.site.now l.settings.kept.now (all_done l.settings.done.now) history first l.initial.panels → tick_of history ≡ l.tick.0
      → AllEnter l.settings.site.now l.settings.kept.now (all_done l.settings.done.now) (moment_of l.moment ∷ history) first (take l.entering-index l.panels)
      × AllEnter l.settings.site.now l.settings.kept.now (all_done l.settings.done.now) history (first + l.entering-index) (drop l.entering-index l.panels);
}
