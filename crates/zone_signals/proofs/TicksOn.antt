-- A tick later a signal that has ended still counts where no floor came, and one more may have ended.
use Rattle.std.proofs.Common.{◌≡◌, ◌⊎◌, inl, inr, ℕ, suc, ◌+◌, ◌-◌, ◌≤◌, ◌<◌, ◌&&◌, max, Bool, true}
use Rattle.std.proofs.Common.{false, List, [], ◌∷◌, Some, None, refl, ap, subst, arith, if◌then◌else◌}
use Rattle.std.specs.Prelude.{nat_lt}
use Rattle.std.proofs.lemmas.Bool.{cases_lt}
use Rattle.site_types.specs.declared.retained.Retained.{Retained}
use Rattle.site_types.specs.declared.site.Site.{Site}
use Rattle.site_types.specs.Done.{Done, floor_before, latest_before, moves_floor}
use Rattle.site_types.specs.Profile.{round_of}
use Rattle.site_types.proofs.Done.{lt_false, lt_tells}
use Rattle.panel_rules.specs.Moments.{Moment, up_to}
use Rattle.panel_rules.specs.Due.{CallPointSignals, DetectorSignals, NoFloor, SecondSignals}
use Rattle.zone_signals.specs.Ended.{EndedAlone, EndedCalls, EndedRounds, EndedSeconds, RoundSignals, by_one, by_pair, by_two}
use Rattle.zone_signals.specs.Least.{IsLeastTick}
use Rattle.zone_signals.specs.Stands.{ZoneStands}
use Rattle.zone_signals.proofs.HeldRounds.{differ}
use Rattle.zone_signals.proofs.LeastTicks.{least_found, least_kept, least_none}
use Rattle.zone_signals.proofs.NoFloors.{floor_clear, floor_past}
use Rattle.zone_signals.proofs.SignalsMoved.{call_on, detector_on, round_on, second_on}

latest_by : (test : Done → Bool) (x : ℕ) (done : List Done) → latest_before test x done ≤ x
latest_by test x [] = omega arith
latest_by test x (d ∷ ds) = go (test d && nat_lt d.tick x) (test d) refl (lt_tells d.tick x) (latest_by test x ds)
  where
    go : (b on : Bool) → (on && nat_lt d.tick x) ≡ b → ((nat_lt d.tick x ≡ true) × (d.tick < x)) ⊎ ((nat_lt d.tick x ≡ false) × (x ≤ d.tick))
        → latest_before test x ds ≤ x → (if b then max d.tick (latest_before test x ds) else latest_before test x ds) ≤ x
    go false on e tells by = by
    go true on e (inl less) by = let l = less.1 in omega (arith, l, by)
    go true false e (inr past) by = absurd (cc)
    go true true e (inr past) by = let p = past.0 in absurd (differ (nat_lt d.tick x) e p)

-- the last operation of a kind before a tick is of the tick before, or is what it was
step_if : (on : Bool) (tick x later was : ℕ) → (later ≡ x) ⊎ (later ≡ was) → was ≤ x
    → ((if on && nat_lt tick (suc x) then max tick later else later) ≡ x)
    ⊎ ((if on && nat_lt tick (suc x) then max tick later else later) ≡ (if on && nat_lt tick x then max tick was else was))
step_if false tick x later was before by = before
step_if true tick x later was before by =
    elim (lt_tells tick (suc x)) [
      | inl low ↦ rw low.0 (reached low.1 (lt_tells tick x))
      | inr high ↦ (let far = high.1 in rw (high.0, lt_false tick x (omega (arith, far))) before)
    ]
  where
    reached : tick < suc x → ((nat_lt tick x ≡ true) × (tick < x)) ⊎ ((nat_lt tick x ≡ false) × (x ≤ tick))
        → (max tick later ≡ x) ⊎ (max tick later ≡ (if nat_lt tick x then max tick was else was))
    reached near (inl less) =
        rw less.0
        (let l = less.1 in elim before [ inl e ↦ inl (omega (arith, l, e)) | inr e ↦ inr (ap (max tick) e) ])
    reached near (inr here) =
        rw here.0 (let h = here.1 in elim before [ inl e ↦ inl (omega (arith, near, h, e)) | inr e ↦ inl (omega (arith, near, h, e, by)) ])

latest_step : (test : Done → Bool) (x : ℕ) (done : List Done)
    → (latest_before test (suc x) done ≡ x) ⊎ (latest_before test (suc x) done ≡ latest_before test x done)
latest_step test x [] = inr refl
latest_step test x (d ∷ ds) =
    step_if (test d) d.tick x (latest_before test (suc x) ds) (latest_before test x ds) (latest_step test x ds) (latest_by test x ds)

module _ (site : Site) (done : List Done) (zone now : ℕ) (begun : 1 ≤ now) (calm : floor_before site zone now done + 1 < now) where
  floor_same : floor_before site zone now done ≡ floor_before site zone (now - 1) done
  floor_same =
      elim (latest_step (moves_floor site zone) (now - 1) done) [
        | inl is ↦
            absurd (let e : suc (now - 1) ≡ now = omega (arith, begun) in
            let at : floor_before site zone now done ≡ now - 1 = subst (λ n. floor_before site zone n done ≡ now - 1) e is in
            omega (arith, at, calm))
        | inr is ↦ (let e : suc (now - 1) ≡ now = omega (arith, begun) in
            subst (λ n. floor_before site zone n done ≡ floor_before site zone (now - 1) done) e is)
      ]

  pub floors_on : (first : ℕ) → 1 ≤ first → NoFloor site done zone first (now - 1) → NoFloor site done zone first now
  floors_on first one none =
      let past = floor_past site done zone first (now - 1) (now - 1) one (omega arith) none in
      floor_clear site done zone first now (omega (arith, past, floor_same))

  pub floors_back : (first : ℕ) → 1 ≤ first → NoFloor site done zone first now → NoFloor site done zone first (now - 1)
  floors_back first one none =
      floor_clear site done zone first (now - 1) (floor_past site done zone first now (now - 1) one (omega arith) none)

-- signals that last a round from where they count
module _ (Signal : ℕ → ℕ → Type 0) (round now : ℕ) (begun : 1 ≤ now) (begins : (settled : ℕ) → Signal now settled → 1 ≤ settled)
    (on : (settled : ℕ) → settled + round ≤ now - 1 → Signal (now - 1) settled → Signal now settled)
    (back : (settled : ℕ) → settled + round ≤ now - 1 → Signal now settled → Signal (now - 1) settled) where
  abbrev Ended : ℕ → ℕ → Type 0
  Ended last settled = Signal last settled × (settled + round ≤ last)

  splits : (settled : ℕ) → Ended now settled → Ended (now - 1) settled ⊎ (settled ≡ now - round)
  splits settled (signal, by) =
      elim (cases_lt (now - 1) (settled + round)) [
        | inl late ↦ inr (omega (arith, by, late))
        | inr early ↦ inl (back settled early signal, early)
      ]

  pub round_kept : (least : ℕ) → IsLeastTick (Ended (now - 1)) (Some least) → IsLeastTick (Ended now) (Some least)
  round_kept least =
      least_kept (Ended (now - 1)) (Ended now) (now - round) least
      (λ settled ended. (on settled ended.1 ended.0, let by = ended.1 in omega (arith, by)))
      (λ settled ended. let by = ended.1 in omega (arith, by)) splits

  pub round_found : Signal now (now - round) → IsLeastTick (Ended (now - 1)) None → IsLeastTick (Ended now) (Some (now - round))
  round_found signal =
      least_found (Ended (now - 1)) (Ended now) (now - round) (signal, let one = begins (now - round) signal in omega (arith, one)) splits

  pub round_none : (Signal now (now - round) → ⊥) → IsLeastTick (Ended (now - 1)) None → IsLeastTick (Ended now) None
  round_none never = least_none (Ended (now - 1)) (Ended now) (now - round) (λ ended. never ended.0) splits

pub round_begins : (site : Site) (kept : Retained) (done : List Done) (moments : List Moment) (zone last settled : ℕ)
    → RoundSignals site kept done moments zone last settled → 1 ≤ settled
round_begins site kept done moments zone last settled (by_one signal) = signal.begins
round_begins site kept done moments zone last settled (by_two signal) =
    let begins = signal.held.begins in let follows = signal.held.follows in omega (arith, begins, follows)
round_begins site kept done moments zone last settled (by_pair signal) =
    let begins = signal.held.begins in let follows = signal.held.follows in omega (arith, begins, follows)

module _ (site : Site) (kept : Retained) (done : List Done) (moments : List Moment) (zone now : ℕ) (begun : 1 ≤ now) (some : 1 ≤ round_of site.format) (calm :
    floor_before site zone now done + 1 < now) where
  -- signals of manual call points
  call_begins : (settled : ℕ) → CallPointSignals site kept done moments zone now settled → 1 ≤ settled
  call_begins settled signal = signal.begins

  same : (tick : ℕ) → tick < now - 1 → up_to tick moments ≡ up_to tick moments
  same tick less = refl

  call_goes : (settled : ℕ) → settled + round_of site.format ≤ now - 1 → CallPointSignals site kept done moments zone (now - 1) settled
      → CallPointSignals site kept done moments zone now settled
  call_goes = call_on site kept done moments moments (now - 1) same zone (now - 1) now (floors_on site done zone now begun calm)

  call_back : (settled : ℕ) → settled + round_of site.format ≤ now - 1 → CallPointSignals site kept done moments zone now settled
      → CallPointSignals site kept done moments zone (now - 1) settled
  call_back = call_on site kept done moments moments (now - 1) same zone now (now - 1) (floors_back site done zone now begun calm)

  pub calls_kept : (least : ℕ) → IsLeastTick (EndedCalls site kept done moments zone (now - 1)) (Some least)
      → IsLeastTick (EndedCalls site kept done moments zone now) (Some least)
  calls_kept = round_kept (CallPointSignals site kept done moments zone) (round_of site.format) now begun call_begins call_goes call_back

  pub calls_found : CallPointSignals site kept done moments zone now (now - round_of site.format)
      → IsLeastTick (EndedCalls site kept done moments zone (now - 1)) None
      → IsLeastTick (EndedCalls site kept done moments zone now) (Some (now - round_of site.format))
  calls_found = round_found (CallPointSignals site kept done moments zone) (round_of site.format) now begun call_begins call_goes call_back

  pub calls_none : (CallPointSignals site kept done moments zone now (now - round_of site.format) → ⊥)
      → IsLeastTick (EndedCalls site kept done moments zone (now - 1)) None → IsLeastTick (EndedCalls site kept done moments zone now) None
  calls_none = round_none (CallPointSignals site kept done moments zone) (round_of site.format) now begun call_begins call_goes call_back

  -- signals from the beginning of a round
  rounds_begin : (settled : ℕ) → RoundSignals site kept done moments zone now settled → 1 ≤ settled
  rounds_begin settled = round_begins site kept done moments zone now settled

  round_goes : (settled : ℕ) → settled + round_of site.format ≤ now - 1 → RoundSignals site kept done moments zone (now - 1) settled
      → RoundSignals site kept done moments zone now settled
  round_goes = round_on site kept done moments moments (now - 1) same zone (now - 1) now (floors_on site done zone now begun calm)

  round_back : (settled : ℕ) → settled + round_of site.format ≤ now - 1 → RoundSignals site kept done moments zone now settled
      → RoundSignals site kept done moments zone (now - 1) settled
  round_back = round_on site kept done moments moments (now - 1) same zone now (now - 1) (floors_back site done zone now begun calm)

  pub rounds_kept : (least : ℕ) → IsLeastTick (EndedRounds site kept done moments zone (now - 1)) (Some least)
      → IsLeastTick (EndedRounds site kept done moments zone now) (Some least)
  rounds_kept = round_kept (RoundSignals site kept done moments zone) (round_of site.format) now begun rounds_begin round_goes round_back

  pub rounds_found : RoundSignals site kept done moments zone now (now - round_of site.format)
      → IsLeastTick (EndedRounds site kept done moments zone (now - 1)) None
      → IsLeastTick (EndedRounds site kept done moments zone now) (Some (now - round_of site.format))
  rounds_found = round_found (RoundSignals site kept done moments zone) (round_of site.format) now begun rounds_begin round_goes round_back

  pub rounds_none : (RoundSignals site kept done moments zone now (now - round_of site.format) → ⊥)
      → IsLeastTick (EndedRounds site kept done moments zone (now - 1)) None → IsLeastTick (EndedRounds site kept done moments zone now) None
  rounds_none = round_none (RoundSignals site kept done moments zone) (round_of site.format) now begun rounds_begin round_goes round_back

  -- signals of second points
  seconds_begin : (settled : ℕ) → SecondSignals site kept done moments zone now settled → 1 ≤ settled
  seconds_begin settled signal = let begins = signal.held.begins in let follows = signal.held.follows in omega (arith, begins, follows)

  second_goes : (settled : ℕ) → settled + round_of site.format ≤ now - 1 → SecondSignals site kept done moments zone (now - 1) settled
      → SecondSignals site kept done moments zone now settled
  second_goes = second_on site kept done moments moments (now - 1) same zone (now - 1) now (floors_on site done zone now begun calm)

  second_back : (settled : ℕ) → settled + round_of site.format ≤ now - 1 → SecondSignals site kept done moments zone now settled
      → SecondSignals site kept done moments zone (now - 1) settled
  second_back = second_on site kept done moments moments (now - 1) same zone now (now - 1) (floors_back site done zone now begun calm)

  pub seconds_kept : (least : ℕ) → IsLeastTick (EndedSeconds site kept done moments zone (now - 1)) (Some least)
      → IsLeastTick (EndedSeconds site kept done moments zone now) (Some least)
  seconds_kept = round_kept (SecondSignals site kept done moments zone) (round_of site.format) now begun seconds_begin second_goes second_back

  pub seconds_found : SecondSignals site kept done moments zone now (now - round_of site.format)
      → IsLeastTick (EndedSeconds site kept done moments zone (now - 1)) None
      → IsLeastTick (EndedSeconds site kept done moments zone now) (Some (now - round_of site.format))
  seconds_found = round_found (SecondSignals site kept done moments zone) (round_of site.format) now begun seconds_begin second_goes second_back

  pub seconds_none : (SecondSignals site kept done moments zone now (now - round_of site.format) → ⊥)
      → IsLeastTick (EndedSeconds site kept done moments zone (now - 1)) None → IsLeastTick (EndedSeconds site kept done moments zone now) None
  seconds_none = round_none (SecondSignals site kept done moments zone) (round_of site.format) now begun seconds_begin second_goes second_back

  -- signals of one detector
  alone_splits : (settled : ℕ) → EndedAlone site kept done moments zone now settled
      → EndedAlone site kept done moments zone (now - 1) settled ⊎ (settled ≡ now - round_of site.format + 1)
  alone_splits settled (signal, by) =
      elim (cases_lt (now - 1 + 1) (settled + round_of site.format)) [
        | inl late ↦ inr (let begins = signal.begins in let settles = signal.settles in omega (arith, by, late, begun, begins, settles))
        | inr early ↦
            inl (detector_on site kept done moments moments (now - 1) same zone now (now - 1) (floors_back site done zone now begun calm) settled early signal, early)
      ]

  pub alone_kept : (least : ℕ) → IsLeastTick (EndedAlone site kept done moments zone (now - 1)) (Some least)
      → IsLeastTick (EndedAlone site kept done moments zone now) (Some least)
  alone_kept least =
      least_kept (EndedAlone site kept done moments zone (now - 1)) (EndedAlone site kept done moments zone now) (now - round_of site.format + 1) least
      (λ settled ended. (
        detector_on site kept done moments moments (now - 1) same zone (now - 1) now (floors_on site done zone now begun calm) settled ended.1 ended.0,
        let by = ended.1 in omega (arith, by),
      ))
      (λ settled ended. let by = ended.1 in omega (arith, by)) alone_splits

  pub alone_found : DetectorSignals site kept done moments zone now (now - round_of site.format + 1)
      → IsLeastTick (EndedAlone site kept done moments zone (now - 1)) None
      → IsLeastTick (EndedAlone site kept done moments zone now) (Some (now - round_of site.format + 1))
  alone_found signal =
      least_found (EndedAlone site kept done moments zone (now - 1)) (EndedAlone site kept done moments zone now) (now - round_of site.format + 1)
      (signal, let begins = signal.begins in let settles = signal.settles in omega (arith, begins, settles, some)) alone_splits

  pub alone_none : (DetectorSignals site kept done moments zone now (now - round_of site.format + 1) → ⊥)
      → IsLeastTick (EndedAlone site kept done moments zone (now - 1)) None → IsLeastTick (EndedAlone site kept done moments zone now) None
  alone_none never =
      least_none (EndedAlone site kept done moments zone (now - 1)) (EndedAlone site kept done moments zone now) (now - round_of site.format + 1)
      (λ ended. never ended.0) alone_splits

-- where a floor came in the tick before, no signal has ended
module _ (site : Site) (kept : Retained) (done : List Done) (moments : List Moment) (zone now : ℕ) (some : 1 ≤ round_of site.format) (moved : now
    ≤ floor_before site zone now done + 1) where
  late_first : (first : ℕ) → 1 ≤ first → NoFloor site done zone first now → now ≤ first
  late_first first one none = let past = floor_past site done zone first now now one (omega arith) none in omega (arith, past, moved)

  pub no_calls : IsLeastTick (EndedCalls site kept done moments zone now) None
  no_calls settled ended =
      let late = late_first settled ended.0.begins ended.0.floor in let by = ended.1 in omega (arith, late, by, some)

  pub no_rounds : IsLeastTick (EndedRounds site kept done moments zone now) None
  no_rounds settled (by_one signal, by) = let late = late_first settled signal.begins signal.floor in omega (arith, late, by, some)
  no_rounds settled (by_two signal, by) =
      let late = late_first signal.first signal.held.begins signal.floor in let follows = signal.held.follows in omega (arith, late, by, follows, some)
  no_rounds settled (by_pair signal, by) =
      let late = late_first signal.first signal.held.begins signal.floor in let follows = signal.held.follows in omega (arith, late, by, follows, some)

  pub none_alone : IsLeastTick (EndedAlone site kept done moments zone now) None
  none_alone settled ended =
      let late = late_first ended.0.first ended.0.begins ended.0.floor in
      let settles = ended.0.settles in
      let by = ended.1 in
      omega (arith, late, by, settles, some)

  pub no_seconds : IsLeastTick (EndedSeconds site kept done moments zone now) None
  no_seconds settled ended =
      let late = late_first ended.0.first ended.0.held.begins ended.0.floor in
      let follows = ended.0.held.follows in
      let by = ended.1 in
      omega (arith, late, by, follows, some)

  pub none_ended : ZoneStands site kept done moments now zone (record { by_hand = None; round = None; alone = None; second = None })
  none_ended = record { by_hand = no_calls; round = no_rounds; alone = none_alone; second = no_seconds }
