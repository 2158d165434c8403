-- What a text says was done comes in the order of its ticks, and is what the rules take for done.
use Rattle.std.proofs.Common.{◌≡◌, ◌∙◌, ◌≤◌, ◌<◌, ◌++◌, ℕ, zero, suc, Bool, true, false, List, [], ◌∷◌, Option, Some, None, refl, sym, ap, subst, arith}
use Rattle.std.proofs.Common.{map, reverse, append_assoc, append-nil, slice_get, if◌then◌else◌}
use Rattle.std.proofs.lemmas.List.{reverse-append}
use Rattle.site_types.specs.declared.site.Site.{Site}
use Rattle.site_types.specs.Done.{Done}
use Rattle.face_text.specs.declared.op_answer.OpAnswer.{OpAnswer}
use Rattle.face_text.specs.declared.step.Step.{Step}
use Rattle.face_text.specs.declared.timeline.Timeline.{Timeline}
use Rattle.record_lines.specs.Judged.{line_view}
use Rattle.record_lines.specs.declared.line.Line.{Line}
use Rattle.panel_rules.specs.Moments.{moments}
use Rattle.audit_rules.specs.Breaches.{done_by_text}
use Rattle.audit_rules.specs.RecordTicks.{ticks_of_record}
use Rattle.audit_rules.specs.ToldDone.{tells_done}
use Rattle.shown_causes.specs.Faults.{DoStepsRise}
use Rattle.told_operations.specs.Asked.{asked_in_lines}
use Rattle.told_operations.specs.Doing.{DoneIsListed, asked_numbered, done_as, done_by_answer, done_by_answers, done_in_steps}
use Rattle.told_operations.specs.declared.asked_operation.AskedOperation.{AskedOperation}
use Rattle.blocked_points.specs.declared.done_operation.DoneOperation.{DoneOperation}
use Rattle.blocked_points.specs.Operations.{AreDoneInOrder, and_later_done, as_done, done_newest_first}

-- ---- the order of ticks

-- none was done in an earlier tick than one before it, and all from a tick on
abbrev pub AreToldFrom : ℕ → List Done → Type 0
AreToldFrom low [] = Unit {0}
AreToldFrom low (d ∷ later) = (low ≤ d.tick) × AreToldFrom d.tick later

from_lower : (low tick : ℕ) → low ≤ tick → (all : List Done) → AreToldFrom tick all → AreToldFrom low all
from_lower low tick by [] are = tt
from_lower low tick by (d ∷ later) are = (let first = are.0 in omega (arith, by, first), are.1)

from_answer : (low tick : ℕ) → low ≤ tick → (told : Bool) (found : Option AskedOperation) (later : List Done) → AreToldFrom tick later
    → AreToldFrom low ((if told then done_as tick found else []) ++ later)
from_answer low tick by true None later are = from_lower low tick by later are
from_answer low tick by true (Some asked) later are = (by, are)
from_answer low tick by false found later are = from_lower low tick by later are

from_answers : (asked : List AskedOperation) (low tick : ℕ) → low ≤ tick → (answers : List OpAnswer) (later : List Done) → AreToldFrom tick later
    → AreToldFrom low (done_by_answers asked tick answers ++ later)
from_answers asked low tick by [] later are = from_lower low tick by later are
from_answers asked low tick by (answer ∷ answers) later are =
    subst (AreToldFrom low) (sym (append_assoc (done_by_answer asked tick answer) (done_by_answers asked tick answers) later))
    (from_answer low tick by (tells_done answer.reply) (asked_numbered answer.number asked) (done_by_answers asked tick answers ++ later)
    (from_answers asked tick tick (omega arith) answers later are))

-- steps of which none is before a tick
record DoRiseFrom (low : ℕ) (steps : List Step) : Type 0 where
  from_low : (place : ℕ) (step : Step) → slice_get steps place ≡ Some step → low ≤ step.tick.0
  rise : (j k : ℕ) (one other : Step) → j < k → slice_get steps j ≡ Some one → slice_get steps k ≡ Some other → one.tick.0 < other.tick.0

behind_one : (low : ℕ) (step : Step) (steps : List Step) → DoRiseFrom low (step ∷ steps) → DoRiseFrom step.tick.0 steps
behind_one low step steps from = record {
  from_low = λ place other is. (let far = from.rise 0 (suc place) step other (omega arith) refl is in omega (arith, far));
  rise = λ j k one other earlier one_is other_is. from.rise (suc j) (suc k) one other (omega (arith, earlier)) one_is other_is;
}

from_steps : (asked : List AskedOperation) (low : ℕ) (steps : List Step) → DoRiseFrom low steps → AreToldFrom low (done_in_steps asked steps)
from_steps asked low [] from = tt
from_steps asked low (step ∷ steps) from =
    from_answers asked low step.tick.0 (from.from_low 0 step refl) step.answers.ops (done_in_steps asked steps)
    (from_steps asked step.tick.0 steps (behind_one low step steps from))

none_lower : (low : ℕ) (done : List DoneOperation) → AreToldFrom low (map as_done done) → (k : ℕ) (d : DoneOperation) → slice_get done k ≡ Some d
    → low ≤ d.tick.0
none_lower low [] are k d is = cc
none_lower low (x ∷ done) are zero d is = (let e : x ≡ d = same is in subst (λ (y : DoneOperation). low ≤ y.tick.0) e are.0)
  where
    same : Some x ≡ Some d → x ≡ d
    same e = cc
none_lower low (x ∷ done) are (suc k) d is =
    (let first = are.0 in let far = none_lower x.tick.0 done are.1 k d is in omega (arith, first, far))

in_order_from : (low : ℕ) (done : List DoneOperation) → AreToldFrom low (map as_done done) → AreDoneInOrder done
in_order_from low [] are j k a b by a_is b_is = cc
in_order_from low (x ∷ done) are zero k a b by a_is b_is =
    (let e : x ≡ a = same a_is in subst (λ (y : DoneOperation). y.tick.0 ≤ b.tick.0) e (none_lower x.tick.0 (x ∷ done) (omega arith, are.1) k b b_is))
  where
    same : Some x ≡ Some a → x ≡ a
    same e = cc
in_order_from low (x ∷ done) are (suc j) zero a b by a_is b_is = absurd (omega (arith, by))
in_order_from low (x ∷ done) are (suc j) (suc k) a b by a_is b_is = in_order_from x.tick.0 done are.1 j k a b (omega (arith, by)) a_is b_is

pub done_in_order : (asked : List AskedOperation) (steps : List Step) (done : List DoneOperation) → DoStepsRise steps
    → map as_done done ≡ done_in_steps asked steps → AreDoneInOrder done
done_in_order asked steps done rising are =
    in_order_from 0 done (subst (AreToldFrom 0) (sym are) (from_steps asked 0 steps (record {
      from_low = λ place step is. omega arith;
      rise = rising.rise;
    })))

-- ---- the newest first

later_behind : (done : List DoneOperation) (before : List Done) → and_later_done done before ≡ reverse (map as_done done) ++ before
later_behind [] before = refl
later_behind (d ∷ done) before =
    later_behind done (as_done d ∷ before) ∙ sym (append_assoc (reverse (map as_done done)) (as_done d ∷ []) before)
    ∙ sym (ap (λ xs. xs ++ before) (reverse-append (as_done d ∷ []) (map as_done done)))

pub newest_reversed : (done : List DoneOperation) → done_newest_first done ≡ reverse (map as_done done)
newest_reversed done = later_behind done [] ∙ append-nil _

-- what the rules take for done
pub newest_by_text : DoneIsListed → (site : Site) (lines : List Line) (timeline : Timeline) (asked : List AskedOperation) (done : List DoneOperation)
    → asked ≡ asked_in_lines site (map line_view lines) → map as_done done ≡ done_in_steps asked timeline.steps
    → done_newest_first done ≡ done_by_text site (ticks_of_record site (map line_view lines)) timeline
newest_by_text listed site lines timeline asked done asked_are done_are =
    newest_reversed done ∙ ap reverse done_are ∙ ap (λ all. reverse (done_in_steps all timeline.steps)) asked_are
    ∙ listed site (moments (ticks_of_record site (map line_view lines))) timeline.steps
