use Rattle.std.proofs.Common.{◌≡◌, ◌+◌, ◌==◌, ◌&&◌, ◌∷◌, ℕ, ◌++◌, take, drop, length, true, false, List, map, refl, sym, ◌∙◌, ap, arith}
use Rattle.std.specs.Prelude.{not}
use Rattle.std.specs.List.{filter_map, list_any}
use Rattle.tick_units.specs.declared.tick.Tick.{Tick}
use Rattle.site_types.specs.declared.requests.Requests.{Requests}
use Rattle.site_types.specs.declared.site.Site.{Site}
use Rattle.site_types.specs.Bits.{has_bit}
use Rattle.site_types.proofs.Masks.{mask_from_bits, mask_same}
use Rattle.output_delays.specs.declared.timer.Timer.{Timer}
use Rattle.output_delays.specs.Overrides.{last_before}
use Rattle.output_delays.specs.Runs.{Call, Turned, are_active, is_through, overrides_of}
use Rattle.output_delays.specs.Stands.{timer_of}
use Rattle.site_types.specs.Limits.{output_bits}
use Rattle.output_delays.specs.Timers.{is_holding, turned_by}
use Rattle.output_lists.proofs.Bits.{bit_is}
use Rattle.tick_units.proofs.Listed.{map_found, passes}
use Rattle.output_delays.proofs.Requested.{all_through, held_timers, none_turned, through_is, through_off, timer_turned}
use Rattle.output_lists.proofs.Turning.{placed_states, turned_states}
use Rattle.output_delays.proofs.delays.Delays.turn.Goals as goal

-- the timers after a turn
found : (site : Site) (panel : ℕ) (calls : List Call) (now : Tick) (requests : Requests) (items : List Timer)
    → items ≡ filter_map (timer_of site panel calls) output_bits →
    map (turned_by now requests.asked) items ≡ filter_map (timer_of site panel (Turned now.0 requests ∷ calls)) output_bits
found site panel calls now requests items is =
    ap (map (turned_by now requests.asked)) is
    ∙ map_found (turned_by now requests.asked) (timer_of site panel calls) (timer_of site panel (Turned now.0 requests ∷ calls)) output_bits
    (timer_turned site panel calls now requests)

-- the timers that are written back
written_back : (site : Site) (panel : ℕ) (calls : List Call) (now : Tick) (requests : Requests) (items timers : List Timer)
    → items ≡ filter_map (timer_of site panel calls) output_bits → timers ≡ map (turned_by now requests.asked) items →
    take (length items) (timers ++ drop (length timers) items) ≡ filter_map (timer_of site panel (Turned now.0 requests ∷ calls)) output_bits
written_back site panel calls now requests items timers is given =
    turned_states (turned_by now requests.asked) items timers given ∙ found site panel calls now requests items is

pub returns-then-self-clause-stands : goal.returns-then-self-clause-stands
returns-then-self-clause-stands c site panel first calls stands = record {
  active = stands.active;
  timers = written_back site panel calls c.args.now c.args.requests.now c.args.self.now.timers.items c.turn_timers-held.new.timers stands.timers
      (c.turn_timers-held.ensures.timers ∙ ap (map (turned_by c.args.now c.args.requests.now.asked)) c.as_mut_slice.ensures.value);
  overrides = stands.overrides;
}

pub returns-else-self-clause-stands : goal.returns-else-self-clause-stands
returns-else-self-clause-stands c site panel first calls stands = record {
  active = stands.active;
  timers = written_back site panel calls c.args.now c.args.requests.now c.args.self.now.timers.items c.turn_timers-held.new.timers stands.timers
      (c.turn_timers-held.ensures.timers ∙ ap (map (turned_by c.args.now c.args.requests.now.asked)) c.as_mut_slice.ensures.value);
  overrides = stands.overrides;
}

pub returns-then-self-clause-value : goal.returns-then-self-clause-value
returns-then-self-clause-value c site panel first calls stands up =
    let now = c.args.now in
    let requests = c.args.requests.now in
    let after = Turned now.0 requests ∷ calls in
    let f = turned_by now requests.asked in
    let items = c.args.self.now.timers.items in
    let timers = c.turn_timers-held.new.timers in
    let overridden = c.last_before-overridden.result in
    let held = c.turn_timers-held.result in
    let given : timers ≡ map f items = c.turn_timers-held.ensures.timers ∙ ap (map f) c.as_mut_slice.ensures.value in
    let all : timers ≡ filter_map (timer_of site panel after) output_bits = given ∙ found site panel calls now requests items stands.timers in
    let latest : overridden ≡ last_before now.0 (overrides_of calls) = c.last_before-overridden.ensures (overrides_of calls) stands.overrides up in
    let on : are_active first calls ≡ true = sym stands.active ∙ c.if-self.true in
    c.without_32-then-self.ensures
    ∙ mask_same 32 (λ k. has_bit requests.asked k && not (has_bit c.without_32.result k))
    (λ k. is_through site panel first calls now.0 requests (k + 1))
    (λ k small.
    ap (λ b. has_bit requests.asked k && not b)
    (bit_is c.without_32.result (λ j. has_bit held j && not (has_bit requests.manual j)) c.without_32.ensures k small)
    ∙ ap (λ b. has_bit requests.asked k && not (b && not (has_bit requests.manual k)))
    (bit_is held (λ j. list_any (λ timer. (timer.place == j) && is_holding now overridden timer) timers) c.turn_timers-held.ensures.held k small
    ∙ ap (list_any (λ timer. (timer.place == k) && is_holding now overridden timer)) all
    ∙ held_timers site panel after now overridden k small
    ∙ ap (λ o. passes (is_holding now o) (timer_of site panel after k)) latest)
    ∙ through_is site panel first calls now requests k stands.overrides.falling on)

pub returns-else-self-clause-value : goal.returns-else-self-clause-value
returns-else-self-clause-value c site panel first calls stands up =
    let requests = c.args.requests.now in
    let off : are_active first calls ≡ false = sym stands.active ∙ c.if-self.false in
    mask_from_bits 32 requests.asked (λ k. is_through site panel first calls c.args.now.0 requests (k + 1)) (omega arith)
    (λ k small. through_off site panel first calls c.args.now.0 requests k off)

pub invariant_of-self : goal.invariant_of-self
invariant_of-self c =
    let f = turned_by c.args.now c.args.requests.now.asked in
    let items = c.args.self.now.timers.items in
    let given : c.turn_timers-held.new.timers ≡ map f items = c.turn_timers-held.ensures.timers ∙ ap (map f) c.as_mut_slice.ensures.value in
    record { placed = placed_states f (λ timer. timer.place) (λ timer. refl) items c.turn_timers-held.new.timers c.args.self.now.placed given }

pub returns-then-is_empty-clause-stands : goal.returns-then-is_empty-clause-stands
returns-then-is_empty-clause-stands c site panel first calls stands =
    let items = c.args.self.now.timers.items in
    let few : length items ≡ 0 = grind (arith, c.is_empty.ensures, c.if-is_empty.true) in
    record {
      active = stands.active;
      timers = none_turned site panel calls c.args.now c.args.requests.now items few stands.timers;
      overrides = stands.overrides;
    }

pub returns-then-is_empty-clause-value : goal.returns-then-is_empty-clause-value
returns-then-is_empty-clause-value c site panel first calls stands up =
    let requests = c.args.requests.now in
    let items = c.args.self.now.timers.items in
    let few : length items ≡ 0 = grind (arith, c.is_empty.ensures, c.if-is_empty.true) in
    mask_from_bits 32 requests.asked (λ k. is_through site panel first calls c.args.now.0 requests (k + 1)) (omega arith)
    (all_through site panel calls c.args.now requests items few stands.timers first stands.overrides.falling)
