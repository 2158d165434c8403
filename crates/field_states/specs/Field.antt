-- What is kept of the states of points and of cables.
use Rattle.std.specs.Prelude.{◌≡◌, ℕ, ◌<◌, List, length, slice_index_or}
use Rattle.site_types.specs.declared.point_state.PointState.{PointState}
use Rattle.site_types.specs.declared.point_state.PointState.TheVariants.{Quiet}
use Rattle.site_types.specs.declared.site.Site.{Site}
use Rattle.panel_rules.specs.Moments.{Moment}
use Rattle.panel_rules.specs.States.{state_of}
use Rattle.field_states.specs.declared.field_states.FieldStates.{FieldStates}
use Rattle.field_states.specs.Lines.{LinesStand}

-- the states of so many points after what befell
pub record StatesStand (count : ℕ) (before : List Moment) (states : List PointState) : Type 0 where
  pub size : length states ≡ count
  pub each : (point : ℕ) → point < count → slice_index_or states point Quiet ≡ state_of point before

pub record FieldStands (site : Site) (before : List Moment) (field : FieldStates) : Type 0 where
  pub states : StatesStand (length site.points) before field.states.items
  pub lines : LinesStand site.loops before field.lines.items
