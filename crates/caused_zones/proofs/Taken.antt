-- Which operations are taken before a tick, and how the parts of a tick make up the whole.
use Rattle.std.proofs.Common.{◌≡◌, ℕ, zero, suc, ◌+◌, ◌≤◌, ◌<◌, ◌&&◌, ◌||◌, Bool, true, false, if◌then◌else◌, List, [], ◌∷◌, length, get_or, take, Some, slice_get, inl, inr, refl, sym, ◌∙◌}
use Rattle.std.proofs.Common.{ap, subst, arith}
use Rattle.std.specs.Prelude.{nat_lt}
use Rattle.std.proofs.lemmas.Bool.{cases_lt, ne_eqb}
use Rattle.std.proofs.lemmas.Option.{slice_get-get_or}
use Rattle.site_types.specs.declared.retained.Retained.{Retained}
use Rattle.site_types.specs.declared.site.Site.{Site}
use Rattle.site_types.specs.Profile.{round_of}
use Rattle.site_types.specs.Valid.{IsValid}
use Rattle.panel_rules.specs.Moments.{TickBlock, moments, tick_of}
use Rattle.panel_rules.specs.Records.{AreOrdered}
use Rattle.run_text.proofs.TickTimes.{tick_moments}
use Rattle.blocked_points.specs.declared.done_operation.DoneOperation.{DoneOperation}
use Rattle.blocked_points.specs.Operations.{AreDoneInOrder, as_done, done_newest_first}
use Rattle.blocked_points.proofs.Counted.{earlier_on, later_on, one_more_done}
use Rattle.point_runs.specs.declared.point_run.PointRun.{PointRun}
use Rattle.caused_zones.specs.declared.cause.Cause.{Cause}
use Rattle.caused_zones.specs.declared.caused_parts.CausedParts.{CausedParts}
use Rattle.caused_zones.specs.declared.point_mark.PointMark.{PointMark}
use Rattle.caused_zones.specs.Causes.{cause_with, last_caused}
use Rattle.caused_zones.specs.Judging.{confirms_by, counts_now, is_called_now, is_confirmed_now, mark_at, touches}
use Rattle.caused_zones.specs.Marks.{AreEachAfter, after_answers, passes_below, has_run, is_asked_in, mark_noted, no_run}
use Rattle.caused_zones.specs.Stands.{AreTakenBefore, IsLastCaused, PartsAfter, PartsStand, TellSignals}
use Rattle.coincidence_rules.specs.Confirmed.{is_by_call_point}
use Rattle.caused_zones.proofs.EachAfter.{below_here, each_same}
use Rattle.caused_zones.proofs.PartSteps.{parts_answered, past_end}

-- before the first tick none is
pub none_taken : (operations : List DoneOperation) → AreDoneInOrder operations → AreTakenBefore operations 0 0
none_taken operations in_order = record {
  in_order = in_order;
  within = omega arith;
  earlier = λ place d l at. absurd (omega (arith, l));
  later = λ place d l at. omega arith;
}

-- a tick later
pub taken_on : (operations : List DoneOperation) (tick now taken end : ℕ) → AreTakenBefore operations tick taken → tick ≤ now → end ≤ length operations
    → ((place : ℕ) (d : DoneOperation) → taken ≤ place → place < end → slice_get operations place ≡ Some d → d.tick.0 < now)
    → ((d : DoneOperation) → slice_get operations end ≡ Some d → now ≤ d.tick.0) → AreTakenBefore operations now end
taken_on operations tick now taken end are up within earlier later = record {
  in_order = are.in_order;
  within = within;
  earlier = earlier_on operations taken end tick now up are.earlier earlier;
  later = later_on operations end now are.in_order later;
}

-- one more operation
pub parts_more : (site : Site) (kept : Retained) (operations : List DoneOperation) (place : ℕ) (ticks : List TickBlock) (other : DoneOperation) (parts :
    CausedParts) → place < length operations
    → PartsStand site kept (done_newest_first operations) (as_done (get_or operations place other) ∷ done_newest_first (take place operations))
    (moments ticks) parts
    → PartsAfter site kept operations (place + 1) ticks parts
parts_more site kept operations place ticks other parts less stand =
    subst (λ ds. PartsStand site kept (done_newest_first operations) ds (moments ticks) parts) (sym (one_more_done operations place other less)) stand

pub tick_at : (operations : List DoneOperation) (from end place : ℕ) (ticks : List TickBlock) (other : DoneOperation) → from ≤ place → place < end
    → place < length operations
    → ((k : ℕ) (d : DoneOperation) → from ≤ k → k < end → slice_get operations k ≡ Some d → d.tick.0 ≡ length ticks)
    → (get_or operations place other).tick.0 ≡ tick_of (moments ticks)
tick_at operations from end place ticks other low high inside each =
    each place (get_or operations place other) low high (slice_get-get_or operations place other inside) ∙ sym (tick_moments ticks)

-- what is last by now
pub last_told : (Caused : ℕ → Type 0) (ticks : List TickBlock) (now last : ℕ) (cause : Cause) → now ≡ length ticks → last ≡ last_caused now cause
    → IsLastCaused Caused (tick_of (moments ticks)) (last_caused (tick_of (moments ticks)) cause) → IsLastCaused Caused (length ticks) last
last_told Caused ticks now last cause at is told =
    subst (IsLastCaused Caused (length ticks)) (sym (is ∙ ap (λ t. last_caused t cause) at))
    (subst (λ t. IsLastCaused Caused t (last_caused t cause)) (tick_moments ticks) told)

module _ (site : Site) (kept : Retained) (operations : List DoneOperation) (taken : ℕ) (ticks : List TickBlock) (tick : TickBlock) (runs :
    List PointRun) (valid : IsValid site) (ordered : AreOrdered site.panels (tick ∷ ticks)) (round now : ℕ) (round_is : round ≡ round_of site.format)
    (next : now ≡ length ticks + 1) (are : AreTakenBefore operations now taken) (tell : TellSignals site kept operations (tick ∷ ticks) runs) where
  at : now ≡ tick_of (moments (tick ∷ ticks))
  at = let e = tick_moments (tick ∷ ticks) in omega (arith, e, next)

  -- the answers of the tick are taken
  pub answered : (old new : CausedParts) → AreEachAfter (after_answers site round now runs) old.marks.items new.marks.items
      → AreEachAfter (λ zone cause. cause_with (is_confirmed_now site new.marks.items now zone) cause) old.alarms.items new.alarms.items
      → AreEachAfter (λ zone cause. cause_with (is_called_now site new.marks.items now zone) cause) old.by_hand.items new.by_hand.items
      → PartsAfter site kept operations taken ticks old → PartsAfter site kept operations taken (tick ∷ ticks) new
  answered old new marks alarms hands stand =
      parts_answered site kept operations taken ticks tick runs valid ordered tell (subst (λ t. AreTakenBefore operations t taken) at are) old new stand
      (subst (λ t. AreEachAfter (after_answers site (round_of site.format) t runs) old.marks.items new.marks.items) at
      (subst (λ r. AreEachAfter (after_answers site r now runs) old.marks.items new.marks.items) round_is marks))
      (subst (λ t. AreEachAfter (λ zone cause. cause_with (is_confirmed_now site new.marks.items t zone) cause) old.alarms.items new.alarms.items) at
      alarms)
      (subst (λ t. AreEachAfter (λ zone cause. cause_with (is_called_now site new.marks.items t zone) cause) old.by_hand.items new.by_hand.items) at
      hands)

  -- no point signals
  pub unanswered : (old : CausedParts) → passes_below (has_run runs) (length runs) ≡ false → PartsAfter site kept operations taken ticks old
      → PartsAfter site kept operations taken (tick ∷ ticks) old
  unanswered old none stand =
      answered old old (each_same (after_answers site round now runs) old.marks.items mark_same)
      (each_same (λ zone cause. cause_with (is_confirmed_now site old.marks.items now zone) cause) old.alarms.items
      (λ zone cause. ap (λ b. cause_with b cause)
      (sym (none_passes (λ place. counts_now site old.marks.items now place
      && (touches site old.marks.items now place zone && confirms_by site old.marks.items now zone place)) (λ place. and_first _ _ (not_now place))
      (length old.marks.items)))))
      (each_same (λ zone cause. cause_with (is_called_now site old.marks.items now zone) cause) old.by_hand.items
      (λ zone cause. ap (λ b. cause_with b cause)
      (sym (none_passes (λ place. counts_now site old.marks.items now place && is_by_call_point site zone place)
      (λ place. and_first _ _ (not_now place)) (length old.marks.items)))))
      stand
    where
      and_first : (a b : Bool) → a ≡ false → (a && b) ≡ false
      and_first false b h = refl
      and_first true b h = absurd cc

      none_passes : (test : ℕ → Bool) → ((place : ℕ) → test place ≡ false) → (n : ℕ) → passes_below test n ≡ false
      none_passes test each zero = refl
      none_passes test each (suc n) = ap (λ b. b || test n) (none_passes test each n) ∙ each n

      is_false : (b : Bool) → (b ≡ true → passes_below (has_run runs) (length runs) ≡ true) → b ≡ false
      is_false false h = refl
      is_false true h = absurd (let e = sym (h refl) ∙ none in cc)

      no_signal : (place : ℕ) → has_run runs place ≡ false
      no_signal place =
          elim (cases_lt place (length runs)) [
            | inl l ↦ is_false (has_run runs place) (λ e. below_here (has_run runs) (length runs) place l e)
            | inr l ↦ ap (λ (r : PointRun). nat_lt 0 r.since) (past_end runs place no_run l)
          ]

      mark_same : (place : ℕ) (mark : PointMark) → mark ≡ after_answers site round now runs place mark
      mark_same place mark = sym (ap (λ b. if b && is_asked_in site round now place then mark_noted round now mark else mark) (no_signal place))

      not_now : (place : ℕ) → counts_now site old.marks.items now place ≡ false
      not_now place = ne_eqb (mark_at old.marks.items place).last now (λ e.
          (let past = ((stand.marks_stand place).last (omega (arith, e, next))).past in
          let t = tick_moments ticks in
          omega (arith, past, t, e, next)))
