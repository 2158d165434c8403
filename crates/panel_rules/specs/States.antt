-- What points, pieces of cable, supplies and links are at, by the last event that spoke of them.
use Rattle.std.specs.Prelude.{ℕ, ◌==◌, ◌&&◌, Bool, true, false, List, [], ◌∷◌, if◌then◌else◌}
use Rattle.site_types.specs.declared.event.Event.{Event}
use Rattle.site_types.specs.declared.event.Event.TheVariants.{Point, Cable, Supply, Link}
use Rattle.site_types.specs.declared.point_state.PointState.{PointState}
use Rattle.site_types.specs.declared.point_state.PointState.TheVariants.{Quiet}
use Rattle.site_types.specs.declared.piece_state.PieceState.{PieceState}
use Rattle.site_types.specs.declared.piece_state.PieceState.TheVariants.{Sound}
use Rattle.site_types.specs.declared.supply_kind.SupplyKind.{SupplyKind}
use Rattle.site_types.specs.declared.supply_kind.SupplyKind.TheVariants.{Mains, Standby, Voltage, Charger}
use Rattle.panel_rules.specs.Moments.{Moment, Began, Happened, Turned, Kept}

-- the state of a point after an event
abbrev pub told_point : ℕ → Event → PointState → PointState
told_point point (Point other state) was = if other == point then state else was
told_point point _ was = was

-- of a piece of cable, by panel, loop and piece
abbrev pub told_piece : ℕ → ℕ → ℕ → Event → PieceState → PieceState
told_piece panel line piece (Cable other_panel other_line other state) was =
    if (other_panel == panel) && ((other_line == line) && (other == piece)) then state else was
told_piece panel line piece _ was = was

abbrev pub supply_number : SupplyKind → ℕ
supply_number Mains = 0
supply_number Standby = 1
supply_number Voltage = 2
supply_number Charger = 3

-- whether a supply of a panel is bad
abbrev pub told_supply : ℕ → SupplyKind → Event → Bool → Bool
told_supply panel kind (Supply other_panel other bad) was =
    if (other_panel == panel) && (supply_number other == supply_number kind) then bad else was
told_supply panel kind _ was = was

-- whether a link is up
abbrev pub told_link : ℕ → Event → Bool → Bool
told_link link (Link other up) was = if other == link then up else was
told_link link _ was = was

-- at the start points are quiet
abbrev pub state_of : ℕ → List Moment → PointState
state_of point [] = Quiet
state_of point (Began ∷ before) = state_of point before
state_of point (Happened event ∷ before) = told_point point event (state_of point before)
state_of point (Turned panel task ∷ before) = state_of point before
state_of point (Kept failed ∷ before) = state_of point before

-- pieces are sound
abbrev pub piece_of : ℕ → ℕ → ℕ → List Moment → PieceState
piece_of panel line piece [] = Sound
piece_of panel line piece (Began ∷ before) = piece_of panel line piece before
piece_of panel line piece (Happened event ∷ before) =
    told_piece panel line piece event (piece_of panel line piece before)
piece_of panel line piece (Turned other task ∷ before) = piece_of panel line piece before
piece_of panel line piece (Kept failed ∷ before) = piece_of panel line piece before

-- supplies are good
abbrev pub is_bad : ℕ → SupplyKind → List Moment → Bool
is_bad panel kind [] = false
is_bad panel kind (Began ∷ before) = is_bad panel kind before
is_bad panel kind (Happened event ∷ before) = told_supply panel kind event (is_bad panel kind before)
is_bad panel kind (Turned other task ∷ before) = is_bad panel kind before
is_bad panel kind (Kept failed ∷ before) = is_bad panel kind before

-- links are up
abbrev pub is_up : ℕ → List Moment → Bool
is_up link [] = true
is_up link (Began ∷ before) = is_up link before
is_up link (Happened event ∷ before) = told_link link event (is_up link before)
is_up link (Turned other task ∷ before) = is_up link before
is_up link (Kept failed ∷ before) = is_up link before
