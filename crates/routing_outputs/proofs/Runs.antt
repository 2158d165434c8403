-- What a turn and a confirmation do to runs, to outputs, and to what an output is at.
use Rattle.std.proofs.Common.{◌≡◌, ◌+◌, ◌-◌, ◌==◌, ◌&&◌, ℕ, Bool, true, false, List, [], ◌∷◌, Some, None, option_map, unwrap_or, if◌then◌else◌, refl, sym, ap, arith}
use Rattle.std.specs.Prelude.{not}
use Rattle.std.proofs.lemmas.Bool.{eq-eqb}
use Rattle.tick_units.specs.declared.tick.Tick.{Tick}
use Rattle.site_types.specs.declared.site.Site.{Site}
use Rattle.site_types.specs.Bits.{has_bit}
use Rattle.tick_units.proofs.Earliest.{earliest_more}
use Rattle.routing_outputs.specs.declared.watched_output.WatchedOutput.{WatchedOutput}
use Rattle.routing_outputs.specs.declared.routing_state.RoutingState.{RoutingState}
use Rattle.routing_outputs.specs.declared.routing_state.RoutingState.TheVariants.{Idle, Waiting, Confirmed as IsConfirmed, Unconfirmed}
use Rattle.routing_outputs.specs.Confirmations.{Call, Turned, Confirmed, is_watched, is_on, with_confirmation, run_of, has_confirmation, ticks_of, spans, state_in, is_confirmed, is_unconfirmed}
use Rattle.routing_outputs.specs.WatchedOutputs.{turned_by, is_late, is_late_since}
use Rattle.routing_outputs.specs.Stands.{since, watched_at, is_running}
use Rattle.tick_units.specs.Earliest.{earliest_of}
use Rattle.routing_outputs.proofs.Bits.{and_true, and_false}
use Rattle.tick_units.proofs.Listed.{passes}

-- ---- a turn

since_turned : (now : Tick) (on k : ℕ) (calls : List Call)
    → (if has_bit on k then Some (unwrap_or (since (k + 1) calls) now) else None) ≡ since (k + 1) (Turned now.0 on ∷ calls)
since_turned now on k calls =
    let at : k + 1 - 1 ≡ k = omega arith in
    rw at (go (has_bit on k))
  where
    go : (b : Bool)
        → (if b then Some (unwrap_or (since (k + 1) calls) now) else None)
        ≡ earliest_of (ticks_of (if b then Turned now.0 on ∷ run_of (k + 1) calls else []))
    go true = earliest_more now (ticks_of (run_of (k + 1) calls))
    go false = refl

-- an output after a turn
pub output_turned : (site : Site) (panel : ℕ) (calls : List Call) (now : Tick) (on k : ℕ)
    → option_map (turned_by now on) (watched_at site panel calls k) ≡ watched_at site panel (Turned now.0 on ∷ calls) k
output_turned site panel calls now on k = go (is_watched site panel (k + 1))
  where
    go : (w : Bool) → option_map (turned_by now on) (if w then Some (record { place = k; since = since (k + 1) calls }) else None)
        ≡ (if w then Some (record { place = k; since = since (k + 1) (Turned now.0 on ∷ calls) }) else None)
    go true = ap (λ s. Some (record { place = k; since = s })) (since_turned now on k calls)
    go false = refl

-- each output is of its place
pub output_place : (site : Site) (panel : ℕ) (calls : List Call) (k : ℕ) (output : WatchedOutput) → watched_at site panel calls k ≡ Some output → output.place ≡ k
output_place site panel calls k output = go (is_watched site panel (k + 1))
  where
    go : (w : Bool) → (if w then Some (record { place = k; since = since (k + 1) calls }) else None) ≡ Some output → output.place ≡ k
    go true e = cc
    go false e = cc

-- whether an output has been on for the limit
pub late_turned : (site : Site) (panel limit : ℕ) (calls : List Call) (now : Tick) (on k : ℕ) →
    passes (is_late now limit) (watched_at site panel (Turned now.0 on ∷ calls) k)
    ≡ (is_watched site panel (k + 1) && spans limit (ticks_of (run_of (k + 1) (Turned now.0 on ∷ calls))))
late_turned site panel limit calls now on k = go (is_watched site panel (k + 1))
  where
    by : (b : Bool) → is_late_since now limit (earliest_of (ticks_of (if b then Turned now.0 on ∷ run_of (k + 1) calls else [])))
        ≡ spans limit (ticks_of (if b then Turned now.0 on ∷ run_of (k + 1) calls else []))
    by true = refl
    by false = refl

    go : (w : Bool) → passes (is_late now limit) (if w then Some (record { place = k; since = since (k + 1) (Turned now.0 on ∷ calls) }) else None)
        ≡ (w && spans limit (ticks_of (run_of (k + 1) (Turned now.0 on ∷ calls))))
    go true = by (is_on (k + 1) on)
    go false = refl

-- whether it is on
pub on_turned : (w : Bool) (tick on k : ℕ) (calls : List Call) → (w && has_bit on k) ≡ (w && is_running (run_of (k + 1) (Turned tick on ∷ calls)))
on_turned w tick on k calls =
    let at : k + 1 - 1 ≡ k = omega arith in
    rw at (ap (λ b. w && b) (go (has_bit on k)))
  where
    go : (b : Bool) → b ≡ is_running (if b then Turned tick on ∷ run_of (k + 1) calls else [])
    go true = refl
    go false = refl

-- whether it is confirmed: going off ends that
pub confirmed_turned : (w : Bool) (tick on k : ℕ) (calls : List Call) →
    ((w && has_confirmation (k + 1) (run_of (k + 1) calls)) && has_bit on k)
    ≡ (w && has_confirmation (k + 1) (run_of (k + 1) (Turned tick on ∷ calls)))
confirmed_turned w tick on k calls =
    let at : k + 1 - 1 ≡ k = omega arith in
    rw at (go w (has_bit on k))
  where
    go : (w b : Bool)
        → ((w && has_confirmation (k + 1) (run_of (k + 1) calls)) && b)
        ≡ (w && has_confirmation (k + 1) (if b then Turned tick on ∷ run_of (k + 1) calls else []))
    go false b = refl
    go true true = and_true (has_confirmation (k + 1) (run_of (k + 1) calls))
    go true false = and_false (has_confirmation (k + 1) (run_of (k + 1) calls))

-- ---- a confirmation

same_ticks : (number : ℕ) (run : List Call) → ticks_of (with_confirmation number run) ≡ ticks_of run
same_ticks number [] = refl
same_ticks number (call ∷ calls) = refl

still_running : (number : ℕ) (run : List Call) → is_running run ≡ is_running (with_confirmation number run)
still_running number [] = refl
still_running number (call ∷ calls) = refl

pub on_confirmed : (w : Bool) (number : ℕ) (run : List Call) → (w && is_running run) ≡ (w && is_running (with_confirmation number run))
on_confirmed w number run = ap (λ b. w && b) (still_running number run)

-- an output after a confirmation is as before
pub output_confirmed : (site : Site) (panel number : ℕ) (calls : List Call) (k : ℕ)
    → watched_at site panel calls k ≡ watched_at site panel (Confirmed number ∷ calls) k
output_confirmed site panel number calls k =
    ap (λ s. if is_watched site panel (k + 1) then Some (record { place = k; since = earliest_of s }) else None)
    (sym (same_ticks number (run_of (k + 1) calls)))

pub late_confirmed : (w : Bool) (limit number k : ℕ) (calls : List Call) →
    (w && spans limit (ticks_of (run_of (k + 1) calls))) ≡ (w && spans limit (ticks_of (run_of (k + 1) (Confirmed number ∷ calls))))
late_confirmed w limit number k calls = ap (λ s. w && spans limit s) (sym (same_ticks number (run_of (k + 1) calls)))

-- a confirmation of another output, of one that is on, and of one that isn't
pub confirmed_other : (number other : ℕ) (run : List Call) → (other == number) ≡ false
    → has_confirmation number (with_confirmation other run) ≡ has_confirmation number run
confirmed_other number other [] apart = refl
confirmed_other number other (call ∷ calls) apart = rw apart refl

confirmed_running : (number : ℕ) (run : List Call) → is_running run ≡ true → has_confirmation number (with_confirmation number run) ≡ true
confirmed_running number [] on = cc
confirmed_running number (call ∷ calls) on = let same : (number == number) ≡ true = eq-eqb number number refl in rw same refl

pub confirmed_on : (w : Bool) (number : ℕ) (run : List Call) → (w && is_running run) ≡ true
    → (w && has_confirmation number (with_confirmation number run)) ≡ true
confirmed_on true number run on = confirmed_running number run on
confirmed_on false number run on = on

pub confirmed_off : (w : Bool) (number other : ℕ) (run : List Call) → (w && is_running run) ≡ false
    → (w && has_confirmation number run) ≡ (w && has_confirmation number (with_confirmation other run))
confirmed_off false number other run off = refl
confirmed_off true number other [] off = refl
confirmed_off true number other (call ∷ calls) off = cc

-- ---- what an output is at

choice : (c s : Bool) → is_confirmed (if c then IsConfirmed else (if s then Unconfirmed else Waiting)) ≡ c
choice true s = refl
choice false true = refl
choice false false = refl

other_choice : (c s : Bool) → is_unconfirmed (if c then IsConfirmed else (if s then Unconfirmed else Waiting)) ≡ (s && not c)
other_choice true true = refl
other_choice true false = refl
other_choice false true = refl
other_choice false false = refl

pub is_confirmed_in : (w : Bool) (limit number : ℕ) (run : List Call)
    → (w && has_confirmation number run) ≡ is_confirmed (if w then state_in limit number run else Idle)
is_confirmed_in false limit number run = refl
is_confirmed_in true limit number [] = refl
is_confirmed_in true limit number (call ∷ calls) = sym (choice (has_confirmation number (call ∷ calls)) (spans limit (ticks_of (call ∷ calls))))

pub is_unconfirmed_in : (w : Bool) (limit number : ℕ) (run : List Call) →
    ((w && spans limit (ticks_of run)) && not (w && has_confirmation number run)) ≡ is_unconfirmed (if w then state_in limit number run else Idle)
is_unconfirmed_in false limit number run = refl
is_unconfirmed_in true limit number [] = refl
is_unconfirmed_in true limit number (call ∷ calls) =
    sym (other_choice (has_confirmation number (call ∷ calls)) (spans limit (ticks_of (call ∷ calls))))

-- by the three bits of an output
abbrev pub state_by : Bool → Bool → Bool → RoutingState
state_by confirmed late on = if confirmed then IsConfirmed else (if late then Unconfirmed else (if on then Waiting else Idle))

pub state_is : (w : Bool) (limit number : ℕ) (run : List Call) →
    state_by (w && has_confirmation number run) (w && spans limit (ticks_of run)) (w && is_running run)
    ≡ (if w then state_in limit number run else Idle)
state_is false limit number run = refl
state_is true limit number [] = refl
state_is true limit number (call ∷ calls) = refl

-- ---- at the start

pub there_is_watched : (site : Site) (panel k : ℕ) → is_watched site panel (k + 1) ≡ true
    → watched_at site panel [] k ≡ Some (record { place = k; since = None })
there_is_watched site panel k watched = rw watched refl

pub none_is_watched : (site : Site) (panel k : ℕ) → is_watched site panel (k + 1) ≡ false → watched_at site panel [] k ≡ None
none_is_watched site panel k watched = rw watched refl
