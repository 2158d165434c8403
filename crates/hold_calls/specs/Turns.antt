-- The turns that a panel's Hold makes over a run: the findings that each takes from the lane, and what the other
-- parts tell it. What the panel is told from elsewhere is an argument.
use Rattle.std.specs.Prelude.{ℕ, ◌==◌, List, [], ◌∷◌, if◌then◌else◌}
use Rattle.tick_units.specs.declared.task.Task.TheVariants.{Hold}
use Rattle.site_types.specs.declared.retained.Retained.{Retained}
use Rattle.site_types.specs.declared.site.Site.{Site}
use Rattle.site_types.specs.Done.{Done}
use Rattle.panel_conditions.specs.declared.outside.Outside.{Outside}
use Rattle.panel_conditions.specs.Changes.{turn_from}
use Rattle.panel_conditions.specs.Turns.{HoldTurn}
use Rattle.panel_rules.specs.Faults.{outside_at}
use Rattle.panel_rules.specs.Moments.{Moment, Began, Happened, Turned, Kept, tick_of}
use Rattle.hold_calls.specs.Lanes.{finding_lane}
use Rattle.hold_calls.specs.Told.{Told, told_in_ring}

-- what the other parts tell a turn made now: supplies, loops, silent panels, links that are down and outputs
-- without confirmation, by what befell before it
abbrev pub outside_now : Site → Retained → List Done → Told → ℕ → List Moment → Outside
outside_now site kept done told panel before =
    outside_at site told.facts kept done (told.stamps before) (told.up before) panel before

-- a turn of a panel's Hold made now, by what the panel is told from elsewhere
abbrev pub hold_turn : Site → Retained → List Done → Told → ℕ → List Moment → HoldTurn
hold_turn site kept done told panel before =
    turn_from (tick_of before) (finding_lane site kept done panel before)
    (outside_now site kept done told panel before)

-- all turns so far of the Hold of a panel, by what the panel is told from elsewhere, the newest first
abbrev pub hold_turns : Site → Retained → List Done → Told → ℕ → List Moment → List HoldTurn
hold_turns site kept done told panel [] = []
hold_turns site kept done told panel (Began ∷ before) = hold_turns site kept done told panel before
hold_turns site kept done told panel (Happened event ∷ before) = hold_turns site kept done told panel before
hold_turns site kept done told panel (Turned other Hold ∷ before) =
    if other == panel then hold_turn site kept done told panel before
    ∷ hold_turns site kept done told panel before else hold_turns site kept done told panel before
hold_turns site kept done told panel (Turned other task ∷ before) = hold_turns site kept done told panel before
hold_turns site kept done told panel (Kept failed ∷ before) = hold_turns site kept done told panel before

-- all turns so far of the Hold of a panel in the ring, the newest first
abbrev pub ring_turns : Site → Retained → List Done → ℕ → List Moment → List HoldTurn
ring_turns site kept done panel before = hold_turns site kept done (told_in_ring site kept done panel) panel before
