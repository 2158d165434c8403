-- The answers of a panel's points, the oldest first.
use Rattle.std.specs.Prelude.{ℕ, ◌==◌, ◌++◌, List, [], ◌∷◌, if◌then◌else◌}
use Rattle.tick_units.specs.declared.task.Task.TheVariants.{Poll}
use Rattle.site_types.specs.declared.answer.Answer.{Answer}
use Rattle.site_types.specs.declared.site.Site.{Site}
use Rattle.panel_rules.specs.Moments.{Moment, Began, Happened, Turned, Kept, tick_of}
use Rattle.panel_rules.specs.States.{state_of, piece_of}
use Rattle.loop_poller.specs.Asked.{asked_in}

-- what a turn of the panel's Poll puts now
abbrev pub asked : Site → ℕ → List Moment → List Answer
asked site panel before =
    asked_in site panel (λ point. state_of point before) (λ line piece. piece_of panel line piece before)
    (tick_of before)

-- all answers so far
abbrev pub answers : Site → ℕ → List Moment → List Answer
answers site panel [] = []
answers site panel (Began ∷ before) = answers site panel before
answers site panel (Happened event ∷ before) = answers site panel before
answers site panel (Turned other Poll ∷ before) = if other == panel then answers site panel before
    ++ asked site panel before else answers site panel before
answers site panel (Turned other task ∷ before) = answers site panel before
answers site panel (Kept failed ∷ before) = answers site panel before
