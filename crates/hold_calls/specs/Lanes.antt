-- What lies in the lanes of a panel.
use Rattle.std.specs.Prelude.{ℕ, List, take, drop}
use Rattle.tick_units.specs.Lane.{LaneState}
use Rattle.tick_units.specs.declared.task.Task.{Task}
use Rattle.tick_units.specs.declared.task.Task.TheVariants.{Decide, Hold}
use Rattle.site_types.specs.declared.answer.Answer.{Answer}
use Rattle.site_types.specs.declared.retained.Retained.{Retained}
use Rattle.site_types.specs.declared.site.Site.{Site}
use Rattle.site_types.specs.Done.{Done}
use Rattle.coincidence_rules.specs.declared.finding.Finding.{Finding}
use Rattle.coincidence_rules.specs.Findings.{findings_of}
use Rattle.panel_rules.specs.Moments.{Moment}
use Rattle.panel_rules.specs.Answers.{answers}
use Rattle.panel_rules.specs.Counts.{answer_count, taken_by_decide, taken_by_hold}

-- how many a task has taken; tasks but Decide and Hold take none
abbrev pub taken_by : Task → Site → ℕ → List Moment → ℕ
taken_by Decide site panel before = taken_by_decide site panel before
taken_by Hold site panel before = taken_by_hold site panel before
taken_by _ site panel before = 0

-- the answers that Decide has taken
abbrev pub decided : Site → ℕ → List Moment → List Answer
decided site panel before = take (taken_by_decide site panel before) (answers site panel before)

-- the answers that it has yet to take
abbrev pub answer_lane : Site → ℕ → List Moment → LaneState Answer
answer_lane site panel before =
    record {
      items = drop (taken_by_decide site panel before) (answers site panel before);
      put =
          answer_count site panel before;
      taken = taken_by_decide site panel before;
      quota = 32;
      capacity = 64;
    }

-- what Decide found of the answers that it took
abbrev pub found : Site → Retained → List Done → ℕ → List Moment → List Finding
found site kept done panel before = findings_of site kept panel done (decided site panel before)

-- the findings that Hold has yet to take
abbrev pub finding_lane : Site → Retained → List Done → ℕ → List Moment → LaneState Finding
finding_lane site kept done panel before =
    record {
      items = drop (taken_by_hold site panel before) (found site kept done panel before);
      put =
          taken_by_decide site panel before;
      taken = taken_by_hold site panel before;
      quota = 32;
      capacity =
          64;
    }
