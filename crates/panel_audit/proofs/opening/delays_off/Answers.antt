use Rattle.std.proofs.Common.{◌≡◌, ◌∙◌, ◌+◌, ap}
use Rattle.face_text.specs.declared.face.Face.{Face}
use Rattle.face_reading.specs.Reading.{face_at}
use Rattle.panel_audit.proofs.EightFlags.{mask_of_flags}
use Rattle.panel_audit.proofs.opening.delays_off.Goals as goal

off : {one other : Face} → one ≡ other → one.delays_off ≡ other.delays_off
off same = ap (λ (face : Face). face.delays_off) same

pub returns : goal.returns
returns c =
    c.mask_from_8.ensures
    ∙ mask_of_flags (λ k. (face_at c.args.faces.now (k + 1)).delays_off) _ _ _ _ _ _ _ _ (off c.face_of.ensures) (off c.face_of-2.ensures)
    (off c.face_of-3.ensures) (off c.face_of-4.ensures) (off c.face_of-5.ensures) (off c.face_of-6.ensures) (off c.face_of-7.ensures)
    (off c.face_of-8.ensures)
