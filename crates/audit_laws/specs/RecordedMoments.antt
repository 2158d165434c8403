-- What befell a site, as a record tells it: all but the failures of Keep.
use Rattle.std.specs.Prelude.{◌≡◌, ℕ, false, List, [], ◌∷◌}
use Rattle.tick_units.specs.declared.task.Task.{Task}
use Rattle.site_types.specs.declared.site.Site.{Site}
use Rattle.panel_rules.specs.Answers.{answers}
use Rattle.panel_rules.specs.Kept.{kept_at, made_at}
use Rattle.panel_rules.specs.Moments.{Moment, Began, Happened, Turned, Kept, TickBlock}
use Rattle.panel_rules.specs.Moments.{latest_turn, moments, tick_of, up_to}
use Rattle.panel_rules.specs.Operations.{requests}
use Rattle.panel_rules.specs.Zones.{held_answers}
use Rattle.run_text.specs.Failures.{as_recorded}

-- moments without the failures
abbrev pub without_failures : List Moment → List Moment
without_failures [] = []
without_failures (Began ∷ before) = Began ∷ without_failures before
without_failures (Happened event ∷ before) = Happened event ∷ without_failures before
without_failures (Turned panel task ∷ before) = Turned panel task ∷ without_failures before
without_failures (Kept failed ∷ before) = Kept false ∷ without_failures before

-- the moments of the ticks as a record tells them are those, up to each tick
abbrev pub RecordsTellRuns : Type 0
RecordsTellRuns =
    (ticks : List TickBlock) (tick : ℕ)
    → up_to tick (moments (as_recorded ticks)) ≡ without_failures (up_to tick (moments ticks))

-- moments with and without the failures of Keep are of the same tick, have the same operations, answers of points and
-- turns, and the same words are made and kept in them
pub record TellsTheSame (site : Site) (before : List Moment) : Type 0 where
  pub tick : tick_of (without_failures before) ≡ tick_of before
  pub asked : requests site (without_failures before) ≡ requests site before
  pub answers : (panel : ℕ) → answers site panel (without_failures before) ≡ answers site panel before
  pub taken : (panel : ℕ) → held_answers site panel (without_failures before) ≡ held_answers site panel before
  pub turns : (panel : ℕ) (task : Task)
      → latest_turn panel task (without_failures before) ≡ latest_turn panel task before
  pub made : (panel : ℕ) → made_at panel (without_failures before) ≡ without_failures (made_at panel before)
  pub kept : (panel source : ℕ)
      → kept_at site.panels panel source (without_failures before)
      ≡ without_failures (kept_at site.panels panel source before)

abbrev pub RunsAreRecorded : Type 0
RunsAreRecorded = (site : Site) (before : List Moment) → TellsTheSame site before
