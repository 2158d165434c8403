-- Which addresses of a loop are reached, and what is wrong with its cable.
use Rattle.std.specs.Prelude.{ℕ, ◌+◌, ◌-◌, ◌==◌, ◌&&◌, ◌||◌, Bool, true, false, not, List, if◌then◌else◌}
use Rattle.std.specs.List.{list_any, list_all, range_with_len}
use Rattle.site_types.specs.declared.loop_plan.LoopPlan.{LoopPlan}
use Rattle.site_types.specs.declared.piece_state.PieceState.{PieceState}
use Rattle.site_types.specs.declared.piece_state.PieceState.TheVariants.{Sound, Open, Short}
use Rattle.site_types.specs.Sections.{section_of, section_of_piece}
use Rattle.isolators.specs.declared.line_status.LineStatus.{LineStatus}

abbrev pub is_open : PieceState → Bool
is_open Sound = false
is_open Open = true
is_open Short = false

abbrev pub is_short : PieceState → Bool
is_short Sound = false
is_short Open = false
is_short Short = true

-- what the pieces of a loop are at: piece 0 runs from end A to address 1, piece k from address k to k + 1,
-- piece `last` to end B
abbrev pub Cable : Type 0
Cable = ℕ → PieceState

abbrev pub pieces_of : LoopPlan → List ℕ
pieces_of plan = range_with_len 0 (plan.last + 1)

-- a piece of the section that begins at this place is short
abbrev pub holds_short : LoopPlan → Cable → ℕ → Bool
holds_short plan cable place =
    list_any (λ piece. is_short (cable piece) && (section_of_piece plan.isolators piece == place))
    (pieces_of plan)

-- a piece is not open and lies in no section that holds a short
abbrev pub is_passed : LoopPlan → Cable → ℕ → Bool
is_passed plan cable piece =
    not (is_open (cable piece)) && not (holds_short plan cable (section_of_piece plan.isolators piece))

-- every piece from end A up to the address is passed
abbrev pub is_reached_from_a : LoopPlan → Cable → ℕ → Bool
is_reached_from_a plan cable address = list_all (is_passed plan cable) (range_with_len 0 address)

-- every piece from end B up to the address is passed
abbrev pub is_reached_from_b : LoopPlan → Cable → ℕ → Bool
is_reached_from_b plan cable address =
    list_all (is_passed plan cable) (range_with_len address (plan.last + 1 - address))

-- an address is reached: its own section holds no short, and every piece up to it from one end is passed
abbrev pub is_reached : LoopPlan → Cable → ℕ → Bool
is_reached plan cable address =
    not (holds_short plan cable (section_of plan.isolators address))
    && (is_reached_from_a plan cable address || is_reached_from_b plan cable address)

-- which faults of the cable are there
abbrev pub status_of : LoopPlan → Cable → LineStatus
status_of plan cable =
    record {
      broken = list_any (λ piece. is_open (cable piece)) (pieces_of plan);
      shorted =
          list_any (λ piece. is_short (cable piece)) (pieces_of plan);
    }

-- the cable of a loop on which nothing was reported
abbrev pub sound_cable : Cable
sound_cable piece = Sound

-- the cable after a piece was reported
abbrev pub with_piece : Cable → ℕ → PieceState → Cable
with_piece cable piece state = λ other. if other == piece then state else cable other
