use Rattle.std.proofs.Common.{◌∙◌, List, subst, sym}
use Rattle.caused_zones.specs.declared.point_mark.PointMark.{PointMark}
use Rattle.caused_zones.specs.Causes.{cause_with}
use Rattle.caused_zones.specs.Judging.{is_called_now, is_confirmed_now}
use Rattle.caused_zones.specs.Marks.{AreEachAfter}
use Rattle.caused_zones.proofs.PartSteps.{each_put}
use Rattle.caused_zones.proofs.Taken.{answered, unanswered}
use Rattle.caused_zones.proofs.caused_parts.CausedParts.answer.Goals as goal

pub returns-then-some_signal : goal.returns-then-some_signal
returns-then-some_signal c kept operations taken ticks tick valid ordered round_is next are tell stand =
    let site = c.args.site.now in
    let now = c.args.now.0 in
    answered site kept operations taken ticks tick c.args.runs.now valid ordered c.args.round now round_is next are tell c.args.self.now _
    (each_put _ c.args.self.now.marks c.deref_mut.result.now c.note_answers.new.marks c.deref_mut.ensures.value c.note_answers.ensures)
    (each_put _ c.args.self.now.alarms c.deref_mut-then-some_signal.result.now c.judge_alarms.new.alarms c.deref_mut-then-some_signal.ensures.value
    (subst (λ (marks : List PointMark). AreEachAfter (λ zone cause. cause_with (is_confirmed_now site marks now zone) cause)
    c.deref_mut-then-some_signal.result.now c.judge_alarms.new.alarms) c.deref.ensures.value c.judge_alarms.ensures))
    (each_put _ c.args.self.now.by_hand c.deref_mut-then-some_signal-2.result.now c.judge_calls.new.by_hand
    c.deref_mut-then-some_signal-2.ensures.value
    (subst (λ (marks : List PointMark). AreEachAfter (λ zone cause. cause_with (is_called_now site marks now zone) cause)
    c.deref_mut-then-some_signal-2.result.now c.judge_calls.new.by_hand) c.deref-then-some_signal.ensures.value c.judge_calls.ensures))
    stand

pub returns-else-some_signal : goal.returns-else-some_signal
returns-else-some_signal c kept operations taken ticks tick valid ordered round_is next are tell stand =
    unanswered c.args.site.now kept operations taken ticks tick c.args.runs.now valid ordered c.args.round c.args.now.0 round_is next are tell
    c.args.self.now (sym c.some_signal.ensures ∙ c.if-some_signal.false) stand
