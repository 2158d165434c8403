-- Lists that the program keeps with the oldest first, as the definitions have them: with the newest first.
use Rattle.std.specs.Prelude.{List, [], ◌∷◌}
use Rattle.site_types.specs.Done.{Done as DoneOf}
use Rattle.panel_rules.specs.Moments.{Moment as MomentOf, Began as BeganOf, Happened as HappenedOf}
use Rattle.panel_rules.specs.Moments.{Turned as TurnedOf, Kept as KeptOf}
use Rattle.plain_history.specs.declared.done.Done.{Done}
use Rattle.plain_history.specs.declared.moment.Moment.{Moment}
use Rattle.plain_history.specs.declared.moment.Moment.TheVariants.{Began, Happened, Turned, Kept}

abbrev pub moment_of : Moment → MomentOf
moment_of Began = BeganOf
moment_of (Happened event) = HappenedOf event
moment_of (Turned panel task) = TurnedOf panel task
moment_of (Kept failed) = KeptOf failed

-- moments after a history, each further one later
abbrev pub and_moments : List Moment → List MomentOf → List MomentOf
and_moments [] before = before
and_moments (moment ∷ moments) before = and_moments moments (moment_of moment ∷ before)

-- the history that some moments are, the oldest of them first
abbrev pub history : List Moment → List MomentOf
history moments = and_moments moments []

abbrev pub done_of : Done → DoneOf
done_of done = record { tick = done.tick.0; panel = done.panel; operation = done.operation }

abbrev pub and_done : List Done → List DoneOf → List DoneOf
and_done [] before = before
and_done (done ∷ later) before = and_done later (done_of done ∷ before)

-- the operations done, the oldest of them first
abbrev pub all_done : List Done → List DoneOf
all_done done = and_done done []
