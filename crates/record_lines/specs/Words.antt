-- The fixed words of lines, and what each says.
use Rattle.std.specs.Prelude.{ℕ, Bool, true, false, List, [], ◌∷◌, codes, Option}
use Rattle.site_types.specs.declared.point_state.PointState.{PointState}
use Rattle.site_types.specs.declared.point_state.PointState.TheVariants.{Quiet, Alarm, Gone}
use Rattle.site_types.specs.declared.piece_state.PieceState.{PieceState}
use Rattle.site_types.specs.declared.piece_state.PieceState.TheVariants.{Sound, Open, Short}
use Rattle.site_types.specs.declared.supply_kind.SupplyKind.{SupplyKind}
use Rattle.site_types.specs.declared.supply_kind.SupplyKind.TheVariants.{Mains, Standby, Voltage, Charger}
use Rattle.tick_units.specs.declared.task.Task.{Task}
use Rattle.tick_units.specs.declared.task.Task.TheVariants.{Poll, Decide, Supply, Desk, Hold, Link, Effect, Drive}
use Rattle.line_fields.specs.Words.{value_beside_letter, value_beside}
use Rattle.record_lines.specs.declared.form.Kind.{Kind}
use Rattle.record_lines.specs.declared.form.Kind.TheVariants.{Point as PointKind, Zone as ZoneKind}
use Rattle.record_lines.specs.declared.form.Kind.TheVariants.{Output as OutputKind}

-- ---- the tables

abbrev pub point_states : List (List ℕ × PointState)
point_states = (codes "quiet", Quiet) ∷ (codes "alarm", Alarm) ∷ (codes "gone", Gone) ∷ []

abbrev pub piece_states : List (List ℕ × PieceState)
piece_states = (codes "sound", Sound) ∷ (codes "open", Open) ∷ (codes "short", Short) ∷ []

abbrev pub supply_kinds : List (List ℕ × SupplyKind)
supply_kinds =
    (codes "mains", Mains) ∷ (codes "standby", Standby) ∷ (codes "voltage", Voltage)
    ∷ (codes "charger", Charger) ∷ []

-- whether a supply is bad
abbrev pub supply_states : List (List ℕ × Bool)
supply_states = (codes "ok", false) ∷ (codes "bad", true) ∷ []

-- whether a link is up
abbrev pub link_states : List (List ℕ × Bool)
link_states = (codes "up", true) ∷ (codes "down", false) ∷ []

-- what may be disabled
abbrev pub kinds : List (List ℕ × Kind)
kinds = (codes "point", PointKind) ∷ (codes "zone", ZoneKind) ∷ (codes "output", OutputKind) ∷ []

-- the letters of seats that a panel's number follows: `p`, `d`, `s`, `o`, `h`, `l`, `e`, `r`
abbrev pub letters : List (ℕ × Task)
letters =
    (112, Poll) ∷ (100, Decide) ∷ (115, Supply) ∷ (111, Desk) ∷ (104, Hold) ∷ (108, Link) ∷ (101, Effect)
    ∷ (114, Drive) ∷ []

-- ---- what a word says

abbrev pub point_state_of : List ℕ → Option PointState
point_state_of word = value_beside word point_states

abbrev pub piece_state_of : List ℕ → Option PieceState
piece_state_of word = value_beside word piece_states

abbrev pub supply_kind_of : List ℕ → Option SupplyKind
supply_kind_of word = value_beside word supply_kinds

abbrev pub is_bad_of : List ℕ → Option Bool
is_bad_of word = value_beside word supply_states

abbrev pub is_up_of : List ℕ → Option Bool
is_up_of word = value_beside word link_states

abbrev pub kind_of : List ℕ → Option Kind
kind_of word = value_beside word kinds

abbrev pub task_of : ℕ → Option Task
task_of letter = value_beside_letter letter letters
