use Rattle.std.proofs.Common.{◌≡◌, ◌+◌, ℕ, sym, refl, ◌∙◌, ap, arith}
use Rattle.site_types.specs.declared.piece_state.PieceState.TheVariants.{Sound, Open, Short}
use Rattle.isolators.specs.Reach.{is_open, is_short}
use Rattle.isolators.proofs.Reached.{found_same, found_here}
use Rattle.isolators.proofs.loop_line.LoopLine.faults.Goals as goal
use Rattle.isolators.proofs.loop_line.LoopLine.faults.Goals.{in-Sound, in-Open, in-Short}

pub loop-piece-preserved : goal.loop-piece-preserved
loop-piece-preserved c plan cable h =
    let k = c.loop-piece.piece in
    let bound = c.count-piece-end.ensures.bound in
    let known = h.pieces k (omega arith) in
    let so_far = c.loop-piece.invariant plan cable h in
    let open_test = λ (piece : ℕ). is_open (cable piece) in
    let short_test = λ (piece : ℕ). is_short (cable piece) in
    elim c.match-self-piece.branch [
      | in-Sound w ↦ (let state : cable k ≡ Sound = sym known ∙ w.in-Sound.is in
          (found_same open_test k _ _ so_far.0 (ap is_open state) w.broken-is, found_same short_test k _ _ so_far.1 (ap is_short state) w.shorted-is))
      | in-Open w ↦ (let state : cable k ≡ Open = sym known ∙ w.in-Open.is in
          (found_here open_test k _ _ so_far.0 (ap is_open state) w.broken-is, found_same short_test k _ _ so_far.1 (ap is_short state) w.shorted-is))
      | in-Short w ↦ (let state : cable k ≡ Short = sym known ∙ w.in-Short.is in
          (found_same open_test k _ _ so_far.0 (ap is_open state) w.broken-is, found_here short_test k _ _ so_far.1 (ap is_short state) w.shorted-is))
    ]

pub returns : goal.returns
returns c plan cable h =
    let count = c.count-piece-end.ensures.value plan cable h in
    let all : c.loop-piece.piece ≡ plan.last + 1 = omega arith in
    let found = rw all at (c.loop-piece.invariant plan cable h) in
    rw (found.0, found.1) refl
