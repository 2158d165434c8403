-- When a point is in alarm and reached, whether or not it is blocked.
use Rattle.std.specs.Prelude.{ℕ, ◌&&◌, Bool, true, false, List}
use Rattle.site_types.specs.declared.point_state.PointState.{PointState}
use Rattle.site_types.specs.declared.point_state.PointState.TheVariants.{Alarm}
use Rattle.site_types.specs.declared.site.Site.{Site}
use Rattle.panel_rules.specs.Due.{reached_at}
use Rattle.panel_rules.specs.Moments.{Moment}
use Rattle.panel_rules.specs.States.{state_of}

abbrev pub is_alarm_state : PointState → Bool
is_alarm_state Alarm = true
is_alarm_state _ = false

-- after what befell a point is in alarm and reached
abbrev pub sounds_at : Site → List Moment → ℕ → Bool
sounds_at site before point = is_alarm_state (state_of point before) && reached_at site point before
