use Rattle.std.proofs.Common.{[], ◌∷◌, arith}
use Rattle.face_text.proofs.Marks.{low_marked}
use Rattle.face_text.proofs.masks.one_mask.Goals as goal

pub returns : goal.returns
returns c number low high = low_marked (c.args.mask ∷ 0 ∷ []) number low (omega (arith, high))
