-- A zone is due exactly where the least of its signals that have ended is.
use Rattle.std.proofs.Common.{◌≡◌, ◌≢◌, ◌↔◌, ◌⊎◌, inl, inr, ℕ, ◌+◌, ◌≤◌, List, Option, Some, None, slice_get, arith}
use Rattle.site_types.specs.declared.retained.Retained.{Retained}
use Rattle.site_types.specs.declared.rule.Rule.TheVariants.{C}
use Rattle.site_types.specs.declared.site.Site.{Site}
use Rattle.site_types.specs.Done.{Done}
use Rattle.site_types.specs.Profile.{round_of}
use Rattle.coincidence_rules.specs.Places.{rule_of}
use Rattle.panel_rules.specs.Moments.{Moment, tick_of}
use Rattle.panel_rules.specs.Due.{IsDue, IsDueAfter, IsDueByHand, IsDueOut, Signals, SignalsOut}
use Rattle.panel_rules.specs.Due.{by_call_point, by_hand, by_itself, by_one, by_pair, by_second, by_signal, by_two, by_way, own}
use Rattle.zone_signals.specs.declared.zone_settled.ZoneSettled.{ZoneSettled}
use Rattle.zone_signals.specs.Ended.{EndedAlone, EndedCalls, EndedRounds, EndedSeconds, EndedSignals, EndedSignalsOut, alone_ended, call_ended, hand_ended, round_ended, second_ended, signal_ended}
use Rattle.zone_signals.specs.Ended.{by_one as round_by_one, by_pair as round_by_pair, by_two as round_by_two}
use Rattle.zone_signals.specs.Least.{IsLeastTick, earlier_of_ticks}
use Rattle.zone_signals.specs.Stands.{ZoneStands}
use Rattle.zone_signals.specs.StandsFor.{IsDueSince}
use Rattle.zone_signals.proofs.LeastTicks.{least_either}

module _ (site : Site) (kept : Retained) (done : List Done) (moments : List Moment) (zone : ℕ) where
  -- a signal that counts from an earlier tick is due as well
  sooner : (panel settled earlier : ℕ) → earlier ≤ settled → IsDueAfter site kept done moments zone panel settled
      → IsDueAfter site kept done moments zone panel earlier
  sooner panel settled earlier by (own is late) = own is (omega (arith, by, late))
  sooner panel settled earlier by (by_way first last after past ends joined) = by_way first last (omega (arith, by, after)) past ends joined

  -- a signal that is due has ended
  long : (panel settled : ℕ) → IsDueAfter site kept done moments zone panel settled → settled + round_of site.format ≤ tick_of moments
  long panel settled (own is late) = omega (arith, late)
  long panel settled (by_way first last after past ends joined) = omega (arith, after, past)

  module _ (Ended : ℕ → Type 0) (panel : ℕ) where
    pub due_to : (o : Option ℕ) → IsLeastTick Ended o → (settled : ℕ) → Ended settled → IsDueAfter site kept done moments zone panel settled
        → IsDueSince site kept done moments zone panel o
    due_to None none settled ended late = none settled ended
    due_to (Some least) is settled ended late = sooner panel settled least (is.1 settled ended) late

    pub to_due : (o : Option ℕ) → IsLeastTick Ended o → IsDueSince site kept done moments zone panel o
        → (settled : ℕ) × Ended settled × IsDueAfter site kept done moments zone panel settled
    to_due None none due = absurd due
    to_due (Some least) is due = (least, is.0, due)

  ended_of : (settled : ℕ) → settled + round_of site.format ≤ tick_of moments → Signals site kept done moments zone (tick_of moments) settled
      → EndedSignals site kept done moments zone (tick_of moments) settled
  ended_of settled by (by_call_point signal) = call_ended (signal, by)
  ended_of settled by (by_one signal) = round_ended (round_by_one signal, by)
  ended_of settled by (by_itself signal) = alone_ended (signal, omega (arith, by))
  ended_of settled by (by_two signal) = round_ended (round_by_two signal, by)
  ended_of settled by (by_pair signal) = round_ended (round_by_pair signal, by)

  of_ended : (settled : ℕ) → EndedSignals site kept done moments zone (tick_of moments) settled
      → Signals site kept done moments zone (tick_of moments) settled
  of_ended settled (call_ended (signal, by)) = by_call_point signal
  of_ended settled (round_ended (round_by_one signal, by)) = by_one signal
  of_ended settled (round_ended (round_by_two signal, by)) = by_two signal
  of_ended settled (round_ended (round_by_pair signal, by)) = by_pair signal
  of_ended settled (alone_ended (signal, by)) = by_itself signal

  out_ended : (settled : ℕ) → settled + round_of site.format ≤ tick_of moments → SignalsOut site kept done moments zone (tick_of moments) settled
      → EndedSignalsOut site kept done moments zone (tick_of moments) settled
  out_ended settled by (by_signal other signal) = signal_ended other (ended_of settled by signal)
  out_ended settled by (by_hand signal) = hand_ended (signal, by)
  out_ended settled by (by_second signal) = second_ended (signal, by)

  ended_out : (settled : ℕ) → EndedSignalsOut site kept done moments zone (tick_of moments) settled
      → SignalsOut site kept done moments zone (tick_of moments) settled
  ended_out settled (signal_ended other signal) = by_signal other (of_ended settled signal)
  ended_out settled (hand_ended (signal, by)) = by_hand signal
  ended_out settled (second_ended (signal, by)) = by_second signal

  pub due_by : (panel : ℕ) (o : Option ℕ) → IsLeastTick (EndedSignals site kept done moments zone (tick_of moments)) o
      → IsDue site kept done moments zone panel ↔ IsDueSince site kept done moments zone panel o
  due_by panel o least = (
    λ due. due_to (EndedSignals site kept done moments zone (tick_of moments)) panel o least due.settled
        (ended_of due.settled (long panel due.settled due.late) due.signal) due.late,
    λ since. (let due = to_due (EndedSignals site kept done moments zone (tick_of moments)) panel o least since in
        record { settled = due.0; signal = of_ended due.0 due.1; late = due.2 }),
  )

  pub due_out_by : (panel : ℕ) (o : Option ℕ) → IsLeastTick (EndedSignalsOut site kept done moments zone (tick_of moments)) o
      → IsDueOut site kept done moments zone panel ↔ IsDueSince site kept done moments zone panel o
  due_out_by panel o least = (
    λ due. due_to (EndedSignalsOut site kept done moments zone (tick_of moments)) panel o least due.settled
        (out_ended due.settled (long panel due.settled due.late) due.signal) due.late,
    λ since. (let due = to_due (EndedSignalsOut site kept done moments zone (tick_of moments)) panel o least since in
        record { settled = due.0; signal = ended_out due.0 due.1; late = due.2 }),
  )

  pub due_by_hand : (panel : ℕ) (o : Option ℕ) → IsLeastTick (EndedCalls site kept done moments zone (tick_of moments)) o
      → IsDueByHand site kept done moments zone panel ↔ IsDueSince site kept done moments zone panel o
  due_by_hand panel o least = (
    λ due. due_to (EndedCalls site kept done moments zone (tick_of moments)) panel o least due.settled
        (due.signal, long panel due.settled due.late) due.late,
    λ since. (let due = to_due (EndedCalls site kept done moments zone (tick_of moments)) panel o least since in
        record { settled = due.0; signal = due.1.0; late = due.2 }),
  )

-- the least of the signals of a zone, of each kind the least one given
module _ (site : Site) (kept : Retained) (done : List Done) (moments : List Moment) (zone now : ℕ) (settled : ZoneSettled)
    (stands : ZoneStands site kept done moments now zone settled) where
  pub least_signal : IsLeastTick (EndedSignals site kept done moments zone now)
      (earlier_of_ticks (earlier_of_ticks settled.by_hand settled.round) settled.alone)
  least_signal =
      least_either (λ tick. EndedCalls site kept done moments zone now tick ⊎ EndedRounds site kept done moments zone now tick)
      (EndedAlone site kept done moments zone now) (EndedSignals site kept done moments zone now) either (λ tick ended. alone_ended ended) back
      (earlier_of_ticks settled.by_hand settled.round) settled.alone
      (least_either (EndedCalls site kept done moments zone now) (EndedRounds site kept done moments zone now)
      (λ tick. EndedCalls site kept done moments zone now tick ⊎ EndedRounds site kept done moments zone now tick) (λ tick ended. inl ended)
      (λ tick ended. inr ended) (λ tick ended. ended) settled.by_hand settled.round stands.by_hand stands.round) stands.alone
    where
      either : (tick : ℕ) → EndedCalls site kept done moments zone now tick ⊎ EndedRounds site kept done moments zone now tick
          → EndedSignals site kept done moments zone now tick
      either tick (inl ended) = call_ended ended
      either tick (inr ended) = round_ended ended

      back : (tick : ℕ) → EndedSignals site kept done moments zone now tick
          → (EndedCalls site kept done moments zone now tick ⊎ EndedRounds site kept done moments zone now tick)
          ⊎ EndedAlone site kept done moments zone now tick
      back tick (call_ended ended) = inl (inl ended)
      back tick (round_ended ended) = inl (inr ended)
      back tick (alone_ended ended) = inr ended

  -- for outputs of a zone of type C
  pub least_release : rule_of (slice_get site.zones zone) ≡ Some C
      → IsLeastTick (EndedSignalsOut site kept done moments zone now) (earlier_of_ticks settled.by_hand settled.second)
  least_release rule =
      least_either (EndedCalls site kept done moments zone now) (EndedSeconds site kept done moments zone now)
      (EndedSignalsOut site kept done moments zone now) (λ tick ended. hand_ended ended) (λ tick ended. second_ended ended) back settled.by_hand
      settled.second stands.by_hand stands.second
    where
      back : (tick : ℕ) → EndedSignalsOut site kept done moments zone now tick
          → EndedCalls site kept done moments zone now tick ⊎ EndedSeconds site kept done moments zone now tick
      back tick (signal_ended other ended) = absurd (other rule)
      back tick (hand_ended ended) = inl ended
      back tick (second_ended ended) = inr ended

  -- and of other zones
  pub least_out : (rule_of (slice_get site.zones zone) ≢ Some C)
      → IsLeastTick (EndedSignalsOut site kept done moments zone now)
      (earlier_of_ticks (earlier_of_ticks settled.by_hand settled.round) settled.alone)
  least_out other = go (earlier_of_ticks (earlier_of_ticks settled.by_hand settled.round) settled.alone) least_signal
    where
      back : (tick : ℕ) → EndedSignalsOut site kept done moments zone now tick → EndedSignals site kept done moments zone now tick
      back tick (signal_ended also ended) = ended
      back tick (hand_ended ended) = call_ended ended
      back tick (second_ended ended) = absurd (other ended.0.rule)

      go : (o : Option ℕ) → IsLeastTick (EndedSignals site kept done moments zone now) o → IsLeastTick (EndedSignalsOut site kept done moments zone now) o
      go None none = λ tick ended. none tick (back tick ended)
      go (Some least) is = (signal_ended other is.0, λ tick ended. is.1 tick (back tick ended))
