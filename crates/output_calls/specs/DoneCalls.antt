-- What operations that were done tell a part of their panel. The latest stands first.
use Rattle.std.specs.Prelude.{◌==◌, ◌&&◌, ℕ, List, [], ◌∷◌, map, if◌then◌else◌}
use Rattle.tick_units.specs.Earliest.{IsFalling}
use Rattle.site_types.specs.declared.operation.Operation.{Operation}
use Rattle.site_types.specs.declared.retained.Retained.{Retained}
use Rattle.site_types.specs.declared.site.Site.{Site}
use Rattle.site_types.specs.Done.{Done}
use Rattle.panel_rules.specs.Moments.{Moment}
use Rattle.panel_rules.specs.Operations.{operations}

-- no operation was done in a later tick than those that stand ahead of it
abbrev pub IsLatestFirst : List Done → Type 0
IsLatestFirst done = IsFalling (map (λ (d : Done). d.tick) done)

-- of the operations done in a run none was done in a later tick than those that stand ahead of it
abbrev pub DoneIsLatestFirst : Type 0
DoneIsLatestFirst = (site : Site) (kept : Retained) (moments : List Moment)
    → IsLatestFirst (operations site kept moments).done

-- after these calls, those for what was done at a panel in a tick, by what each operation adds
abbrev pub and_done_in : {C : Type 0} → (Operation → List C → List C) → ℕ → ℕ → List Done → List C → List C
and_done_in adds panel tick [] calls = calls
and_done_in adds panel tick (d ∷ ds) calls =
    if (d.panel == panel) && (d.tick == tick) then adds d.operation
    (and_done_in adds panel tick ds calls) else and_done_in adds panel tick ds calls
