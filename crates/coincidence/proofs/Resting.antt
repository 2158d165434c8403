-- Answers that leave what is kept of their points leave all that is kept as it is.
use Rattle.std.proofs.Common.{◌≡◌, ◌⊎◌, ◌^◌, ◌&&◌, inl, inr, nat_lt, not, ℕ, ◌+◌, ◌≤◌, ◌<◌, ◌==◌, Bool, if◌then◌else◌, true, false, nat_le, refl, sym, ◌∙◌, ap, subst, arith}
use Rattle.std.proofs.Common.{List, [], ◌∷◌, ◌++◌, get_or, slice_get, set, Option, Some, None}
use Rattle.std.specs.Option.{is_none}
use Rattle.std.proofs.lemmas.Bool.{eqb-true}
use Rattle.std.proofs.lemmas.List.{set-get_or}
use Rattle.std.proofs.lemmas.Option.{get_or_from_slice_get}
use Rattle.answer_lanes.proofs.MaskBits.{lt_is, set_below}
use Rattle.site_types.proofs.Done.{lt_tells}
use Rattle.coincidence.proofs.Watched.{Watched, watched}
use Rattle.tick_units.specs.declared.tick.Tick.{Tick}
use Rattle.site_types.specs.declared.site.Site.{Site}
use Rattle.site_types.specs.declared.answer.Answer.{Answer}
use Rattle.site_types.specs.declared.heard.Heard.{Heard}
use Rattle.site_types.specs.declared.heard.Heard.TheVariants.{Quiet, Alarm, Silent}
use Rattle.site_types.specs.declared.retained.Retained.{Retained}
use Rattle.site_types.specs.Bits.{has_bit}
use Rattle.site_types.proofs.Masks.{has_bit-zero}
use Rattle.site_types.specs.Done.{Done}
use Rattle.site_types.specs.Profile.{missing_askings}
use Rattle.coincidence_rules.proofs.Lists.{and_both}
use Rattle.coincidence_rules.specs.Counted.{is_alarm, is_silent}
use Rattle.coincidence_rules.specs.Findings.{finding_of}
use Rattle.answer_lanes.specs.declared.run.Run.{Run}
use Rattle.answer_lanes.specs.declared.answer_group.AnswerGroup.{AnswerGroup}
use Rattle.answer_lanes.specs.Groups.{AreMatching, IsMatching}
use Rattle.answer_lanes.specs.Points.{answer_at, heard_at, mask_if}
use Rattle.coincidence.specs.declared.decide.Decide.{Decide}
use Rattle.coincidence.specs.declared.point_watch.PointWatch.{PointWatch}
use Rattle.coincidence.specs.Changes.{FindsNext, TakesAnswers}
use Rattle.coincidence.specs.GoingOn.{telling_of}
use Rattle.coincidence.specs.Parts.{is_at_rest, leaves_watch, point_noted, silent_then, stays_missing}
use Rattle.coincidence.specs.Places.{TellsEight}
use Rattle.coincidence.specs.Premises.{MayTake}
use Rattle.coincidence.specs.Resting.{AreStill, IsWithinEight, LeavesPoint, TellsChanging, plain_of}
use Rattle.coincidence.specs.Stands.{DecidesFor}
use Rattle.coincidence.proofs.Observations.{fits_last}
use Rattle.coincidence.proofs.FindingIs.{finding_by, quiet_is}
use Rattle.coincidence.proofs.TakenAnswer.{quiet_noted}

-- such an answer is no alarm
no_alarm_left : (heard : Heard) (watch : PointWatch) → leaves_watch heard watch ≡ true → is_alarm heard ≡ false
no_alarm_left Quiet watch left = refl
no_alarm_left Silent watch left = refl
no_alarm_left Alarm watch left = cc

none : (run : Option Tick) → is_none run ≡ true → run ≡ None
none None is = refl
none (Some tick) is = cc

same : {silent : ℕ} {run : Option Tick} (watch : PointWatch) → watch.silent ≡ silent → watch.run ≡ run
    → watch ≡ record watch { silent = silent; run = run }
same {silent} {run} watch e h = ap (λ n. record watch { silent = n }) e ∙ ap (λ r. record watch { silent = silent; run = r }) h

-- it leaves what is kept of its point, which is missing exactly where the answer is silent
same_watch : (heard : Heard) (stamp : Tick) (watch : PointWatch) → leaves_watch heard watch ≡ true
    → watch ≡ point_noted heard false (record { 0 = 0 }) stamp watch
same_watch Quiet stamp watch left =
    let both = and_both (watch.silent == 0) (is_none watch.run) left in
    same watch (eqb-true watch.silent 0 both.0) (none watch.run both.1)
same_watch Silent stamp watch left =
    let both = and_both (watch.silent == missing_askings) (is_none watch.run) left in
    let most = eqb-true watch.silent missing_askings both.0 in
    same watch (most ∙ sym (ap (silent_then Silent) most)) (none watch.run both.1)
same_watch Alarm stamp watch left = cc

missing_left : (heard : Heard) (watch : PointWatch) → leaves_watch heard watch ≡ true → is_silent heard ≡ nat_le missing_askings watch.silent
missing_left Quiet watch left =
    sym (ap (nat_le missing_askings) (eqb-true watch.silent 0 (and_both (watch.silent == 0) (is_none watch.run) left).0))
missing_left Silent watch left =
    sym (ap (nat_le missing_askings) (eqb-true watch.silent missing_askings (and_both (watch.silent == missing_askings) (is_none watch.run) left).0))
missing_left Alarm watch left = cc

module _ {site : Site} {kept : Retained} {panel : ℕ} {done : List Done} {taken : List Answer} {decide : Decide} (stands :
    DecidesFor site kept panel done taken decide) (answer : Answer) (may : MayTake site panel done taken (answer ∷ []))
    (leaves_point : LeavesPoint decide answer) where
  abbrev w : Watched site kept panel done taken decide answer.point
  w = watched stands answer.point (may.own 0 answer refl)

  left : leaves_watch answer.heard w.watch ≡ true
  left = leaves_point w.watch w.is_watch

  read : w.watch ≡ get_or decide.points answer.point w.watch
  read = sym (get_or_from_slice_get decide.points answer.point w.watch w.watch w.is_watch)

  same_points : set decide.points answer.point w.watch ≡ decide.points
  same_points = ap (set decide.points answer.point) read ∙ set-get_or decide.points answer.point w.watch

  pub stands_at_rest : DecidesFor site kept panel done (taken ++ answer ∷ []) decide
  stands_at_rest =
      quiet_noted stands answer may (no_alarm_left answer.heard w.watch left) w.watch decide.points read
      (sym same_points ∙ ap (set decide.points answer.point) (same_watch answer.heard answer.stamp w.watch left)) decide.going_on stands.going_on

  pub found_at_rest : plain_of answer ≡ finding_of site kept panel done taken answer
  found_at_rest =
      quiet_is stands_at_rest answer (fits_last site kept panel done taken answer may) (no_alarm_left answer.heard w.watch left) w.watch read
      (is_silent answer.heard) (missing_left answer.heard w.watch left)

-- a quiet answer of a point at rest leaves its point
pub left_quiet : (decide : Decide) (answer : Answer) (resting : Bool) → ((watch : PointWatch) → slice_get decide.points answer.point ≡ Some watch → resting ≡ is_at_rest watch)
    → resting ≡ true → answer.heard ≡ Quiet → LeavesPoint decide answer
left_quiet decide answer resting rests is heard watch there = ap (λ h. leaves_watch h watch) heard ∙ sym (rests watch there) ∙ is

-- what is heard where there is neither an alarm nor silence
pub quiet : (alarm silent : Bool) → not alarm ≡ true → silent ≡ false → (if alarm then Alarm else if silent then Silent else Quiet) ≡ Quiet
quiet true silent e f = absurd (cc)
quiet false true e f = absurd (cc)
quiet false false e f = refl

-- an answer that is quiet of a point at rest, or silent of one that stays missing, leaves its point
pub left_if : (decide : Decide) (answer : Answer) (resting silent : Bool) → ((watch : PointWatch) → slice_get decide.points answer.point ≡ Some watch → resting ≡ is_at_rest watch)
    → ((watch : PointWatch) → slice_get decide.points answer.point ≡ Some watch → silent ≡ stays_missing watch) → IsMatching answer.heard resting silent
    → LeavesPoint decide answer
left_if decide answer resting silent rests missing (inl is) watch there = left_quiet decide answer resting rests is.1 is.0 watch there
left_if decide answer resting silent rests missing (inr is) watch there =
    ap (λ h. leaves_watch h watch) is.0 ∙ sym (missing watch there) ∙ is.1

-- the answers of a group whose bits tell that their points are left as they are leave them
module _ (decide : Decide) (answers : AnswerGroup) (points : answers.point ≤ 65527) where
  pub point_is : (k : ℕ) → k < 8 → (answer_at answers k).point ≡ answers.point + k
  point_is k eight = omega (arith, eight, points)

  pub still_matching : (resting missing bits : ℕ) → TellsEight is_at_rest decide.points answers.point resting
      → TellsEight stays_missing decide.points answers.point missing → AreMatching answers 0 resting missing bits → AreStill decide answers bits
  still_matching resting missing bits rests misses match k eight set_bit =
      let here : 0 + k ≡ k = omega arith in
      left_if decide (answer_at answers k) (has_bit resting k) (has_bit missing k)
      (λ watch there. rests k watch eight (ap (slice_get decide.points) (sym (point_is k eight)) ∙ there))
      (λ watch there. misses k watch eight (ap (slice_get decide.points) (sym (point_is k eight)) ∙ there))
      (subst (λ n. IsMatching (heard_at answers.alarms answers.silents n) (has_bit resting k) (has_bit missing k)) here (match.set k eight set_bit))

  -- where none is silent those that are no alarms are quiet
  pub still_quiet : (resting alarms bits : ℕ) → TellsEight is_at_rest decide.points answers.point resting → answers.silents ≡ 0
      → ((k : ℕ) → k < 8 → has_bit alarms k ≡ has_bit answers.alarms (0 + k))
      → ((k : ℕ) → k < 8 → has_bit bits k ≡ (has_bit resting k && not (has_bit alarms k))) → AreStill decide answers bits
  still_quiet resting alarms bits rests none same_bits parts k eight set_bit =
      let here : 0 + k ≡ k = omega arith in
      let both = and_both (has_bit resting k) (not (has_bit alarms k)) (sym (parts k eight) ∙ set_bit) in
      let no_alarm = sym (ap not (same_bits k eight ∙ ap (has_bit answers.alarms) here)) ∙ both.1 in
      left_quiet decide (answer_at answers k) (has_bit resting k)
      (λ watch there. rests k watch eight (ap (slice_get decide.points) (sym (point_is k eight)) ∙ there)) both.0
      (quiet (has_bit answers.alarms k) (has_bit answers.silents k) no_alarm (ap (λ m. has_bit m k) none ∙ has_bit-zero k))

-- of a run the others may change them
pub changing_in_run : (decide : Decide) (run : Run AnswerGroup) (still behind front changing : ℕ) → IsWithinEight run → AreStill decide run.first still
    → ((k : ℕ) → has_bit behind k ≡ has_bit still (run.taken + k)) → ((k : ℕ) → has_bit front k ≡ nat_lt k run.count)
    → ((k : ℕ) → k < 8 → has_bit changing k ≡ (has_bit front k && not (has_bit behind k))) → changing < 2 ^ 8 → TellsChanging decide run changing
changing_in_run decide run still behind front changing within stills moved fronts parts fits = record {
  within = λ k set_bit. in_front k (lt_tells k run.count) (and_both (has_bit front k) (not (has_bit behind k)) (sym (parts k (set_below changing k fits set_bit)) ∙ set_bit)).0;
  left = λ k in_run clear.
      let places = within.places in
      stills (run.taken + k) (omega (arith, in_run, places))
      (sym (moved k) ∙ by (has_bit front k) (has_bit behind k) (fronts k ∙ lt_is k run.count in_run) (sym (parts k (omega (arith, in_run, places))) ∙ clear));
}
  where
    in_front : (k : ℕ) → ((nat_lt k run.count ≡ true) × (k < run.count)) ⊎ ((nat_lt k run.count ≡ false) × (run.count ≤ k)) → has_bit front k ≡ true → k < run.count
    in_front k (inl less) set_bit = less.1
    in_front k (inr past) set_bit = absurd (let is = sym (fronts k) ∙ set_bit in let no = past.0 in cc)

    by : (is kept : Bool) → is ≡ true → (is && not kept) ≡ false → kept ≡ true
    by true true e f = refl
    by true false e f = absurd (cc)
    by false kept e f = absurd (cc)

-- one answer, asked for by itself
pub left_one : (decide : Decide) (answer : Answer) (bits : ℕ) → TellsEight (leaves_watch answer.heard) decide.points answer.point bits → has_bit bits 0 ≡ true
    → LeavesPoint decide answer
left_one decide answer bits tells set watch there =
    let same : answer.point + 0 ≡ answer.point = omega arith in
    sym (tells 0 watch (omega arith) (ap (slice_get decide.points) same ∙ there)) ∙ set

pub finds_at_rest : (decide : Decide) (answer : Answer) → LeavesPoint decide answer → FindsNext decide answer (plain_of answer)
finds_at_rest decide answer leaves_point site kept panel done taken stands may = found_at_rest stands answer may leaves_point

pub takes_one_at_rest : (decide : Decide) (answer : Answer) → LeavesPoint decide answer → TakesAnswers decide (answer ∷ []) decide
takes_one_at_rest decide answer leaves_point site kept panel done taken stands may = stands_at_rest stands answer may leaves_point

-- whatever zones an alarm would tell of, such an answer tells of none
pub tells_none_at_rest : (decide : Decide) (answer : Answer) → LeavesPoint decide answer → (zones : ℕ) → FindsNext decide answer (telling_of zones answer)
tells_none_at_rest decide answer leaves_point zones site kept panel done taken stands may =
    let w = watched stands answer.point (may.own 0 answer refl) in
    told_none answer zones (no_alarm_left answer.heard w.watch (leaves_point w.watch w.is_watch)) ∙ found_at_rest stands answer may leaves_point
  where
    told_none : (answer : Answer) (zones : ℕ) → is_alarm answer.heard ≡ false → telling_of zones answer ≡ plain_of answer
    told_none answer zones quiet =
        ap (λ b. finding_by answer (mask_if b zones) (mask_if b zones) 0 (mask_if b zones) (is_silent answer.heard)) quiet
