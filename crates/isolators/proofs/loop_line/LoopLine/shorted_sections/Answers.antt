use Rattle.std.proofs.Common.{◌≡◌, ◌+◌, sym, ◌∙◌, arith, refl, ap, false, slice_index}
use Rattle.std.proofs.lemmas.List.{get_or-replicate}
use Rattle.std.proofs.lemmas.Grind.{common_steps}
use Rattle.isolators.specs.Reach.{is_short}
use Rattle.isolators.proofs.Reached.{short_not, short_here, not_short}
use Rattle.isolators.proofs.loop_line.LoopLine.shorted_sections.Goals as goal
use Rattle.isolators.proofs.loop_line.LoopLine.shorted_sections.Goals.{then-matches, else-matches, in-Short, in_default}

pub loop-piece-init : goal.loop-piece-init
loop-piece-init c = record { size = refl; known = λ plan cable h place within. get_or-replicate 256 place false false within }

pub loop-piece-preserved : goal.loop-piece-preserved
loop-piece-preserved c =
    let k = c.loop-piece.piece in
    let size = c.loop-piece.invariant.size in
    let bound = c.count-piece-end.ensures.bound in
    record {
      size = elim c.if-matches.branch [ then-matches w ↦ grind (arith, common_steps) | else-matches w ↦ grind (arith, common_steps) ];
      known = λ plan cable h place within.
          let known = c.loop-piece.invariant.known plan cable h place within in
          let short : c.match-matches.matches ≡ is_short (cable k) =
          sym (ap is_short (sym (h.pieces k (omega arith))) ∙ elim c.match-matches.branch [
            | in-Short v ↦ ap is_short v.in-Short.is ∙ sym v.matches-is
            | in_default v ↦ not_short _ v.in_default.not-Short ∙ sym v.matches-is
          ]) in
          elim c.if-matches.branch [
            | then-matches w ↦
                rw w.shorted-is (short_here plan cable k place c.loop-piece.shorted known (slice_index c.args.self.now.begins k)
                (sym short ∙ w.if-matches.true) (h.begins k (omega arith)) (omega arith))
            | else-matches w ↦ rw w.shorted-is (short_not plan cable k place c.loop-piece.shorted known (sym short ∙ w.if-matches.false))
          ];
    }

pub returns : goal.returns
returns c plan cable h =
    let count = c.count-piece-end.ensures.value plan cable h in
    let all : c.loop-piece.piece ≡ plan.last + 1 = omega arith in
    rw all at (c.loop-piece.invariant.known plan cable h)
