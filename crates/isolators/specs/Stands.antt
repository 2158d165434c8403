-- What a line keeps of its plan and of the cable.
use Rattle.std.specs.Prelude.{◌≡◌, ℕ, ◌+◌, ◌-◌, ◌<◌, ◌≤◌, Bool, true, false, List, slice_index, slice_index_or}
use Rattle.site_types.specs.declared.loop_plan.LoopPlan.{LoopPlan}
use Rattle.site_types.specs.declared.piece_state.PieceState.TheVariants.{Sound}
use Rattle.isolators.specs.declared.loop_line.LoopLine.{LoopLine}
use Rattle.isolators.specs.Reach.{Cable, holds_short, is_passed, status_of}
use Rattle.site_types.specs.Sections.{section_of_piece}

-- the pieces that a line was told of
pub record Cables (plan : LoopPlan) (cable : Cable) (line : LoopLine) : Type 0 where
  pub last : line.last ≡ plan.last
  pub begins : (piece : ℕ) → piece < 256
      → slice_index line.begins piece ≡ section_of_piece plan.isolators piece
  pub pieces : (piece : ℕ) → piece < 256 → slice_index_or line.pieces piece Sound ≡ cable piece

-- the places at which a section begins that holds a short
abbrev pub HoldShorts : LoopPlan → Cable → List Bool → Type 0
HoldShorts plan cable shorted = (place : ℕ) → place < 256
    → slice_index_or shorted place false ≡ holds_short plan cable place

-- so many pieces of a loop from end A on are passed, and no more
pub record PassAhead (plan : LoopPlan) (cable : Cable) (ahead : ℕ) : Type 0 where
  pub passed : (piece : ℕ) → piece < ahead → is_passed plan cable piece ≡ true
  pub within : ahead ≤ plan.last + 1
  pub ends : ahead ≤ plan.last → is_passed plan cable ahead ≡ false

-- the pieces from this one on up to end B are passed, and no more
pub record PassBehind (plan : LoopPlan) (cable : Cable) (behind : ℕ) : Type 0 where
  pub passed : (piece : ℕ) → behind ≤ piece → piece ≤ plan.last → is_passed plan cable piece ≡ true
  pub within : behind ≤ plan.last + 1
  pub ends : 0 < behind → is_passed plan cable (behind - 1) ≡ false

-- a line stands for a loop and what its cable is at
pub record StandsFor (plan : LoopPlan) (cable : Cable) (line : LoopLine) : Type 0 where
  pub cables : Cables plan cable line
  pub shorts : HoldShorts plan cable line.shorted
  pub ahead : PassAhead plan cable line.ahead
  pub behind : PassBehind plan cable line.behind
  pub status : line.status ≡ status_of plan cable
