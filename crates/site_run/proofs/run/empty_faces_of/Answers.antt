use Rattle.std.proofs.Common.{◌∙◌, ◌+◌, ◌++◌, [], ◌∷◌, map, ap, arith, sym}
use Rattle.std.specs.List.{range_with_len}
use Rattle.std.proofs.lemmas.List.FromFn.{map-range_with_len_more}
use Rattle.face_text.specs.Faces.{empty_face}
use Rattle.site_run.proofs.run.empty_faces_of.Goals as goal

pub loop-before-preserved : goal.loop-before-preserved
loop-before-preserved c =
    let k = c.loop-before.before in
    let pushed = rw c.in_ok-push.was at c.push.ensures.items in
    pushed
    ∙ ap (λ xs. xs ++ c.empty.result ∷ []) c.loop-before.invariant
    ∙ ap (λ face. map empty_face (range_with_len 1 k) ++ face ∷ []) c.empty.ensures
    ∙ sym (map-range_with_len_more empty_face 1 k (k + 1) (omega arith))
