-- Which moments report of a cable or a supply.
use Rattle.std.specs.Prelude.{ℕ, ◌==◌, ◌&&◌, Bool, false, List, ◌∷◌}
use Rattle.site_types.specs.declared.event.Event.TheVariants.{Cable, Supply}
use Rattle.site_types.specs.declared.loop_plan.LoopPlan.{LoopPlan}
use Rattle.site_types.specs.declared.supply_kind.SupplyKind.{SupplyKind}
use Rattle.supply_monitor.specs.Supply.{place_of}
use Rattle.isolators.specs.declared.loop_line.LoopLine.{LoopLine}
use Rattle.isolators.specs.Stands.{StandsFor}
use Rattle.panel_rules.specs.States.{piece_of}
use Rattle.panel_rules.specs.Moments.{Moment, Happened}

-- a moment reports a supply of a panel bad
abbrev pub tells_bad : ℕ → SupplyKind → Moment → Bool
tells_bad panel kind (Happened (Supply other told bad)) =
    bad && ((other == panel) && (place_of kind == place_of told))
tells_bad panel kind _ = false

-- a moment reports on the cable of a loop
abbrev pub tells_cable : ℕ → ℕ → Moment → Bool
tells_cable panel line (Happened (Cable of_panel of_line piece state)) =
    (of_panel == panel) && (of_line == line)
tells_cable panel line _ = false

-- the cable of a loop of a panel is told a moment, whatever its plan and what befell it before
abbrev pub TakesReport : ℕ → ℕ → Moment → LoopLine → LoopLine → Type 0
TakesReport panel line moment earlier later =
    (plan : LoopPlan) (before : List Moment) → StandsFor plan (λ piece. piece_of panel line piece before) earlier
    → StandsFor plan (λ piece. piece_of panel line piece (moment ∷ before)) later
