-- What a poller was told of its panel's points and cables.
use Rattle.std.specs.Prelude.{ℕ, ◌+◌, ◌==◌, List, [], ◌∷◌, if◌then◌else◌}
use Rattle.site_types.specs.declared.piece_state.PieceState.{PieceState}
use Rattle.site_types.specs.declared.point_state.PointState.{PointState}
use Rattle.site_types.specs.declared.point_state.PointState.TheVariants.{Quiet}
use Rattle.site_types.specs.declared.site.Site.{Site}
use Rattle.site_types.specs.Bits.{mask_of}
use Rattle.site_types.specs.Limits.{most_loops}
use Rattle.site_types.specs.Things.{loop_of}
use Rattle.isolators.specs.Reach.{Cable, sound_cable, with_piece}
use Rattle.loop_poller.specs.Asked.{status_on}

-- a report on a point, or on a piece of the cable of a loop; lists of these have the newest first
pub data Call : Type 0 where
  Reported : (point : ℕ) → (state : PointState) → Call
  Cabled : (line piece : ℕ) → (state : PieceState) → Call

-- the state of a point: what was last reported of it, at the start quiet
abbrev pub told_point : List Call → ℕ → PointState
told_point [] point = Quiet
told_point (Reported other state ∷ calls) point = if other == point then state else told_point calls point
told_point (Cabled line piece state ∷ calls) point = told_point calls point

-- what the cable of a loop is at: what was last reported of each piece, at the start sound
abbrev pub told_cable : List Call → ℕ → Cable
told_cable [] line = sound_cable
told_cable (Reported point state ∷ calls) line = told_cable calls line
told_cable (Cabled other piece state ∷ calls) line =
    if other == line then with_piece (told_cable calls line) piece state else told_cable calls line

-- the loops of a panel whose cable has an open piece, by what was told of it, bit `loop - 1` each
abbrev pub told_broken : Site → ℕ → List Call → ℕ
told_broken site panel calls =
    mask_of most_loops (λ k. (status_on (loop_of site panel (k + 1)) (told_cable calls (k + 1))).broken)

-- the loops of a panel whose cable has a short piece, by what was told of it, bit `loop - 1` each
abbrev pub told_shorted : Site → ℕ → List Call → ℕ
told_shorted site panel calls =
    mask_of most_loops (λ k. (status_on (loop_of site panel (k + 1)) (told_cable calls (k + 1))).shorted)
