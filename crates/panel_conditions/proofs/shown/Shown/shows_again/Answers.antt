use Rattle.std.proofs.Common.{◌∙◌, sym}
use Rattle.panel_conditions.proofs.Alike.{faults_same, same_buzzer, same_faults, same_number}
use Rattle.panel_conditions.proofs.shown.Shown.shows_again.Goals as goal
use Rattle.panel_conditions.proofs.shown.Shown.shows_again.Goals.{then-self-before, else-self-before, then-self-before-2, else-self-before-2}

pub returns-then-eq-clause-same : goal.returns-then-eq-clause-same
returns-then-eq-clause-same c same =
    elim c.if-self-before-2.branch [
      | then-self-before-2 w ↦
          elim c.if-self-before.branch [
            | then-self-before v ↦ record {
              alarm = v.if-self-before.true;
              first = same_number _ _ _ v.value-is w.if-self-before-2.true;
              faults = same_faults _ _ (sym c.eq-then-eq.ensures ∙ same);
              buzzer = same_buzzer _ _ _ (w.value-is ∙ w.eq.ensures) c.if-eq.true;
            }
            | else-self-before v ↦ absurd (v.if-self-before.false (same_number _ _ _ v.value-is w.if-self-before-2.true))
          ]
      | else-self-before-2 w ↦ absurd (let e = sym c.if-eq.true ∙ w.value-is ∙ w.if-self-before-2.false in cc)
    ]

pub returns-then-eq-clause-must : goal.returns-then-eq-clause-must
returns-then-eq-clause-must c again = c.eq-then-eq.ensures ∙ faults_same _ _ again.faults
