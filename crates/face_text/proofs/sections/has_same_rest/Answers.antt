use Rattle.std.proofs.Common.{◌∙◌, sym}
use Rattle.face_text.proofs.SameFaces.{no_truth, number, points_is}
use Rattle.face_text.proofs.sections.has_same_rest.Goals.{then-before-after, else-before-after, then-before-after-2, else-before-after-2}
use Rattle.face_text.proofs.sections.has_same_rest.Goals.{then-before-after-3, else-before-after-3, then-eq, else-eq}
use Rattle.face_text.proofs.sections.has_same_rest.Goals as goal

pub returns-then-before-after-4 : goal.returns-then-before-after-4
returns-then-before-after-4 c = λ test. elim c.if-before-after-3.branch [
  | else-before-after-3 w ↦ no_truth _ (w.value-is ∙ w.if-before-after-3.false) c.if-before-after-4.true
  | then-before-after-3 w ↦ elim c.if-eq.branch [
    | else-eq v ↦ no_truth _ (v.value-is ∙ v.if-eq.false) w.if-before-after-3.true
    | then-eq v ↦ elim c.if-before-after-2.branch [
      | else-before-after-2 u ↦ no_truth _ (u.value-is ∙ u.if-before-after-2.false) v.if-eq.true
      | then-before-after-2 u ↦ elim c.if-before-after.branch [
        | else-before-after t ↦ absurd (t.if-before-after.false (number _ _ (sym t.value-is ∙ u.if-before-after-2.true)))
        | then-before-after t ↦ (
          t.if-before-after.true,
          number _ _ (sym t.value-is ∙ u.if-before-after-2.true),
          points_is c.args.before.now.points_off c.args.after.now.points_off (sym u.eq.ensures ∙ sym u.value-is ∙ v.if-eq.true),
          number _ _ (sym v.value-is ∙ w.if-before-after-3.true),
          number _ _ (sym w.value-is ∙ c.if-before-after-4.true),
          number _ _ test,
        )
      ]
    ]
  ]
]
