-- What a turn does to timers, and what they hold back.
use Rattle.std.proofs.Common.{◌≡◌, ◌+◌, ◌-◌, ◌==◌, ◌&&◌, ◌||◌, ◌<◌, ℕ, Bool, true, false, List, [], ◌∷◌, length, map, Option, Some}
use Rattle.std.proofs.Common.{None, option_map, unwrap_or, if◌then◌else◌, nat_le, nat_lt, refl, sym, ◌∙◌, ap, arith}
use Rattle.std.specs.Prelude.{not}
use Rattle.std.specs.List.{filter_map, list_any}
use Rattle.std.proofs.lemmas.Bool.Decides.{nat_tests}
use Rattle.std.proofs.lemmas.List.{nil_from_length}
use Rattle.tick_units.specs.declared.tick.Tick.{Tick}
use Rattle.site_types.specs.declared.requests.Requests.{Requests}
use Rattle.site_types.specs.declared.site.Site.{Site}
use Rattle.site_types.specs.Bits.{has_bit}
use Rattle.tick_units.proofs.Earliest.{earliest_more}
use Rattle.output_delays.specs.declared.timer.Timer.{Timer}
use Rattle.output_delays.specs.Overrides.{last_before}
use Rattle.output_delays.specs.Runs.{Call, Turned, are_active, began, delay_of, is_over, is_through, overrides_of, request_ticks}
use Rattle.output_delays.specs.Stands.{since, timer_of}
use Rattle.tick_units.specs.Earliest.{IsFalling, earliest, earliest_of}
use Rattle.site_types.specs.Limits.{output_bits}
use Rattle.output_delays.specs.Timers.{is_holding, is_since, turned_by}
use Rattle.output_delays.proofs.Latest.{any_is}
use Rattle.tick_units.proofs.Listed.{any_at, map_found, passes}

-- ---- timers

since_turned : (now : Tick) (requests : Requests) (k : ℕ) (calls : List Call) →
    (if has_bit requests.asked k then Some (unwrap_or (since (k + 1) calls) now) else None) ≡ since (k + 1) (Turned now.0 requests ∷ calls)
since_turned now requests k calls =
    let at : k + 1 - 1 ≡ k = omega arith in
    rw at (go (has_bit requests.asked k))
  where
    go : (b : Bool)
        → (if b then Some (unwrap_or (since (k + 1) calls) now) else None) ≡ earliest_of (if b then now.0 ∷ request_ticks (k + 1) calls else [])
    go true = earliest_more now (request_ticks (k + 1) calls)
    go false = refl

-- a timer after a turn
pub timer_turned : (site : Site) (panel : ℕ) (calls : List Call) (now : Tick) (requests : Requests) (k : ℕ) →
    option_map (turned_by now requests.asked) (timer_of site panel calls k) ≡ timer_of site panel (Turned now.0 requests ∷ calls) k
timer_turned site panel calls now requests k = go (delay_of site panel (k + 1) == 0)
  where
    go : (b : Bool)
        → option_map (turned_by now requests.asked)
        (if b then None else Some (record { place = k; delay = delay_of site panel (k + 1); since = since (k + 1) calls }))
        ≡ (if b then None else Some (record { place = k; delay = delay_of site panel (k + 1); since = since (k + 1) (Turned now.0 requests ∷ calls) }))
    go true = refl
    go false = ap (λ s. Some (record { place = k; delay = delay_of site panel (k + 1); since = s })) (since_turned now requests k calls)

-- each timer is of its place
timer_place : (site : Site) (panel : ℕ) (calls : List Call) (k : ℕ) (timer : Timer) → timer_of site panel calls k ≡ Some timer → timer.place ≡ k
timer_place site panel calls k timer = go (delay_of site panel (k + 1) == 0)
  where
    go : (b : Bool) → (if b then None else Some (record { place = k; delay = delay_of site panel (k + 1); since = since (k + 1) calls })) ≡ Some timer
        → timer.place ≡ k
    go true e = cc
    go false e = cc

-- the outputs that are held back, by the list of timers
pub held_timers : (site : Site) (panel : ℕ) (calls : List Call) (now : Tick) (overridden : Option Tick) (k : ℕ) → k < 32 →
    list_any (λ timer. (timer.place == k) && is_holding now overridden timer) (filter_map (timer_of site panel calls) output_bits)
    ≡ passes (is_holding now overridden) (timer_of site panel calls k)
unfolding output_bits
held_timers site panel calls now overridden k small =
    any_at (timer_of site panel calls) (λ timer. timer.place) (is_holding now overridden) (λ j timer e. timer_place site panel calls j timer e) k 32
    small

-- ---- what a turn lets through

pub delays_off : (asked manual over : Bool) → asked ≡ (asked && (manual || (not false || over)))
delays_off true true over = refl
delays_off true false over = refl
delays_off false manual over = refl

before_delay : (passed delay : ℕ) → nat_lt passed delay ≡ not (nat_le delay passed)
before_delay passed delay = grind (arith, nat_tests)

by_cases : (o l m : Bool) → not ((not o && not l) && not m) ≡ (m || (not true || (false || (l || o))))
by_cases true true true = refl
by_cases true true false = refl
by_cases true false true = refl
by_cases true false false = refl
by_cases false true true = refl
by_cases false true false = refl
by_cases false false true = refl
by_cases false false false = refl

let_through : (asked manual none : Bool) (k delay : ℕ) (now : Tick) (overridden : Option Tick) (ticks : List ℕ) →
    (asked
    && not
    (passes (is_holding now overridden)
    (if none then None else Some (record { place = k; delay = delay; since = earliest_of (if asked then now.0 ∷ ticks else []) })) && not manual))
    ≡ (asked && (manual || (not true || (none || (nat_le delay (now.0 - earliest now.0 ticks) || is_since (earliest now.0 ticks) overridden)))))
let_through false manual none k delay now overridden ticks = refl
let_through true true true k delay now overridden ticks = refl
let_through true false true k delay now overridden ticks = refl
let_through true manual false k delay now overridden ticks =
    let first = earliest now.0 ticks in
    ap (λ b. not ((not (is_since first overridden) && b) && not manual)) (before_delay (now.0 - first) delay)
    ∙ by_cases (is_since first overridden) (nat_le delay (now.0 - first)) manual

-- an output is let through where it is asked for and not held back, or held back and asked for by hand
pub through_is : (site : Site) (panel : ℕ) (first : Bool) (calls : List Call) (now : Tick) (requests : Requests) (k : ℕ)
    → IsFalling (overrides_of calls) → are_active first calls ≡ true →
    (has_bit requests.asked k
    && not (passes (is_holding now (last_before now.0 (overrides_of calls))) (timer_of site panel (Turned now.0 requests ∷ calls) k)
    && not (has_bit requests.manual k)))
    ≡ is_through site panel first calls now.0 requests (k + 1)
through_is site panel first calls now requests k falls on =
    let at : k + 1 - 1 ≡ k = omega arith in
    let delay = delay_of site panel (k + 1) in
    let b = began (k + 1) now.0 calls in
    rw (at, on, any_is b now.0 (overrides_of calls) falls)
    (let_through (has_bit requests.asked k) (has_bit requests.manual k) (delay == 0) k delay now (last_before now.0 (overrides_of calls))
    (request_ticks (k + 1) calls))

pub through_off : (site : Site) (panel : ℕ) (first : Bool) (calls : List Call) (now : ℕ) (requests : Requests) (k : ℕ)
    → are_active first calls ≡ false →
    has_bit requests.asked k ≡ is_through site panel first calls now requests (k + 1)
through_off site panel first calls now requests k off =
    let at : k + 1 - 1 ≡ k = omega arith in
    rw (at, off)
    (delays_off (has_bit requests.asked k) (has_bit requests.manual k)
    (is_over (delay_of site panel (k + 1)) (began (k + 1) now calls) now calls))

-- where no output has a delay, all that are asked for are let through
unheld : (asked manual held : Bool) → held ≡ false → asked ≡ (asked && not (held && not manual))
unheld true manual true e = cc
unheld true manual false e = refl
unheld false manual held e = refl

module _ (site : Site) (panel : ℕ) (calls : List Call) (now : Tick) (requests : Requests) (items : List Timer) (few : length items ≡ 0)
    (is : items ≡ filter_map (timer_of site panel calls) output_bits) where
  abbrev after : List Call
  after = Turned now.0 requests ∷ calls

  pub none_turned : items ≡ filter_map (timer_of site panel after) output_bits
  none_turned =
      let none = nil_from_length items few in
      none
      ∙ ap (map (turned_by now requests.asked)) (sym none ∙ is)
      ∙ map_found (turned_by now requests.asked) (timer_of site panel calls) (timer_of site panel after) output_bits
      (timer_turned site panel calls now requests)

  pub all_through : (first : Bool) → IsFalling (overrides_of calls) → (k : ℕ) → k < 32
      → has_bit requests.asked k ≡ is_through site panel first calls now.0 requests (k + 1)
  all_through first falls k small = go (are_active first calls) refl
    where
      latest : Option Tick
      latest = last_before now.0 (overrides_of calls)

      none_held : passes (is_holding now latest) (timer_of site panel after k) ≡ false
      none_held =
          sym (held_timers site panel after now latest k small)
          ∙ ap (list_any (λ timer. (timer.place == k) && is_holding now latest timer)) (sym none_turned ∙ nil_from_length items few)

      go : (b : Bool) → are_active first calls ≡ b → has_bit requests.asked k ≡ is_through site panel first calls now.0 requests (k + 1)
      go true on =
          unheld (has_bit requests.asked k) (has_bit requests.manual k) (passes (is_holding now latest) (timer_of site panel after k)) none_held
          ∙ through_is site panel first calls now requests k falls on
      go false off = through_off site panel first calls now.0 requests k off

-- ---- at the start

pub timer_delayed : (site : Site) (panel k delay : ℕ) → delay ≡ delay_of site panel (k + 1) → 0 < delay
    → timer_of site panel [] k ≡ Some (record { place = k; delay = delay; since = None })
timer_delayed site panel k delay is some =
    let none : (delay_of site panel (k + 1) == 0) ≡ false = ap (λ d. d == 0) (sym is) ∙ not_zero delay some in
    rw none (ap (λ d. Some (record { place = k; delay = d; since = None })) (sym is))
  where
    not_zero : (d : ℕ) → 0 < d → (d == 0) ≡ false
    not_zero d h = grind (arith, nat_tests)

pub timer_undelayed : (site : Site) (panel k delay : ℕ) → delay ≡ delay_of site panel (k + 1) → delay ≡ 0 → timer_of site panel [] k ≡ None
timer_undelayed site panel k delay is none =
    let zero_delay : (delay_of site panel (k + 1) == 0) ≡ true = ap (λ d. d == 0) (sym is ∙ none) in
    rw zero_delay refl
