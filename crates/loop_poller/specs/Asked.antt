-- Which points of a panel are asked in a tick, and what they answer.
use Rattle.std.specs.Prelude.{ℕ, ◌-◌, ◌/◌, ◌%◌, ◌==◌, ◌&&◌, Bool, false, List, Option, Some, None, option_map}
use Rattle.std.specs.Prelude.{if◌then◌else◌}
use Rattle.std.specs.List.{filter_map, flat_map, position, range_with_len}
use Rattle.site_types.specs.declared.answer.Answer.{Answer}
use Rattle.site_types.specs.declared.heard.Heard.{Heard}
use Rattle.site_types.specs.declared.heard.Heard.TheVariants.{Quiet as HeardQuiet, Alarm as HeardAlarm, Silent}
use Rattle.site_types.specs.declared.loop_plan.LoopPlan.{LoopPlan}
use Rattle.site_types.specs.declared.point_state.PointState.{PointState}
use Rattle.site_types.specs.declared.point_state.PointState.TheVariants.{Quiet, Alarm, Gone}
use Rattle.site_types.specs.declared.site.Site.{Site}
use Rattle.site_types.specs.Limits.{most_loops}
use Rattle.site_types.specs.Things.{loop_of}
use Rattle.site_types.specs.Profile.{asked_at_once, last_address_of, round_of}
use Rattle.isolators.specs.declared.line_status.LineStatus.{LineStatus}
use Rattle.isolators.specs.Reach.{Cable, is_reached, status_of}

-- an address is asked once in a round, eight addresses of a loop in a tick
abbrev pub is_asked : ℕ → ℕ → ℕ → Bool
is_asked format address tick = (tick % round_of format) == ((address - 1) / asked_at_once)

-- the point at an address of a loop of a panel
abbrev pub point_at : Site → ℕ → ℕ → ℕ → Option ℕ
point_at site panel line address =
    position (λ p. (p.panel == panel) && ((p.line == line) && (p.address == address))) site.points

-- an address of a loop is reached; where there is no loop, none is
abbrev pub is_reached_on : Option LoopPlan → Cable → ℕ → Bool
is_reached_on None cable address = false
is_reached_on (Some plan) cable address = is_reached plan cable address

-- what a point answers: its state, where it is there and reached
abbrev pub heard_of : PointState → Bool → Heard
heard_of Quiet reached = if reached then HeardQuiet else Silent
heard_of Alarm reached = if reached then HeardAlarm else Silent
heard_of Gone reached = Silent

-- the answer of a point, with the points and the pieces of each loop in these states
abbrev pub answer_of : Site → ℕ → (ℕ → PointState) → (ℕ → Cable) → ℕ → ℕ → ℕ → ℕ → Answer
answer_of site panel points cables tick line address point =
    record {
      stamp = record { 0 = tick };
      point = point;
      heard =
          heard_of (points point) (is_reached_on (loop_of site panel line) (cables line) address);
    }

-- the answer from an address of a loop in a tick, where it is asked and there is a point
abbrev pub answer_from : Site → ℕ → (ℕ → PointState) → (ℕ → Cable) → ℕ → ℕ → ℕ → Option Answer
answer_from site panel points cables tick line address =
    if is_asked site.format address tick then option_map
    (answer_of site panel points cables tick line address) (point_at site panel line address) else None

-- the answers of a loop in a tick, in order of address
abbrev pub asked_on : Site → ℕ → (ℕ → PointState) → (ℕ → Cable) → ℕ → ℕ → List Answer
asked_on site panel points cables tick line =
    filter_map (answer_from site panel points cables tick line)
    (range_with_len 1 (last_address_of site.format))

-- the answers of a panel in a tick, in order of loop, then address
unfoldable pub asked_in : Site → ℕ → (ℕ → PointState) → (ℕ → Cable) → ℕ → List Answer
asked_in site panel points cables tick =
    flat_map (asked_on site panel points cables tick) (range_with_len 1 most_loops)

-- what is wrong with the cable of a loop; where there is no loop, nothing
abbrev pub status_on : Option LoopPlan → Cable → LineStatus
status_on None cable = record { broken = false; shorted = false }
status_on (Some plan) cable = status_of plan cable
