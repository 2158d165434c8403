use Rattle.std.proofs.Common.{◌+◌, subst, sym}
use Rattle.std.proofs.lemmas.Bool.{ne_eqb}
use Rattle.panel_rules.proofs.AnswersTell.{eq_true}
use Rattle.caused_zones.specs.Marks.{AreEachAfter}
use Rattle.caused_zones.proofs.JudgedBelow.{alarms_below, none_judged, one_judged}
use Rattle.caused_zones.proofs.judging.judge_alarms.Goals as goal
use Rattle.caused_zones.proofs.judging.judge_alarms.Goals.{then-marks-place, else-marks-place}

pub loop-place-preserved : goal.loop-place-preserved
loop-place-preserved c =
    let site = c.args.site.now in
    let marks = c.args.marks.now in
    let now = c.args.now.0 in
    let place = c.loop-place.place in
    elim c.if-marks-place.branch [
      | then-marks-place w ↦
          subst (AreEachAfter (alarms_below site marks now (place + 1)) c.args.alarms.now) (sym w.alarms-is)
          (one_judged site marks now place c.args.alarms.now c.loop-place.alarms _ (eq_true _ _ w.if-marks-place.true) c.loop-place.invariant w.judge_point.ensures)
      | else-marks-place w ↦
          subst (AreEachAfter (alarms_below site marks now (place + 1)) c.args.alarms.now) (sym w.alarms-is)
          (none_judged site marks now place c.args.alarms.now c.loop-place.alarms (ne_eqb _ _ w.if-marks-place.false) c.loop-place.invariant)
    ]
