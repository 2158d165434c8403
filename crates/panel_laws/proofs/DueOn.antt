-- An output that is due is on.
use Rattle.std.proofs.Common.{◌≡◌, ℕ, zero, suc, ◌+◌, ◌≤◌, ◌<◌, ◌==◌, ◌&&◌, List, [], ◌∷◌, length, Option, Some, None}
use Rattle.std.proofs.Common.{slice_get, inl, inr, Bool, true, false, if◌then◌else◌, refl, sym, ◌∙◌, ap, subst, arith}
use Rattle.std.specs.Prelude.{nat_le, nat_lt}
use Rattle.std.specs.List.{list_any}
use Rattle.std.proofs.lemmas.Bool.Decides.{eqb_tells, leb_tells}
use Rattle.tick_units.specs.declared.task.Task.TheVariants.{Effect, Drive}
use Rattle.site_types.specs.declared.operation.Operation.{Operation}
use Rattle.site_types.specs.declared.operation.Operation.TheVariants.{Mute, Override, Silence, Resound, Reset, Cancel, Disable, Enable, Test, Untest, Delays, Clear}
use Rattle.site_types.specs.declared.output.Output.{Output}
use Rattle.site_types.specs.declared.retained.Retained.{Retained}
use Rattle.site_types.specs.declared.site.Site.{Site}
use Rattle.site_types.specs.Done.{Done, silence_then, silence_before}
use Rattle.site_types.specs.Valid.{IsValid}
use Rattle.site_types.proofs.ValidSites.{zone_at, output_at}
use Rattle.panel_rules.specs.Moments.{Moment, tick_of, IsPanel, IsRun, HaveAllTurned, IsPast, present, later, up_to, latest_turn, before_turn}
use Rattle.panel_rules.specs.Zones.{panel_of, panel_of_zone}
use Rattle.panel_rules.specs.Markers.{Facts, hand_facts, solution}
use Rattle.panel_rules.specs.Outputs.{on_output, panel_of_plan, panel_of_output, is_true_over, is_requested, is_requested_by_hand, asked_run}
use Rattle.panel_rules.specs.Run.{facts_of}
use Rattle.panel_rules.specs.Due.{IsDueOut, IsDueByHand, by_hand}
use Rattle.panel_rules.specs.DueOutputs.{AreDue, AreDueByHand, IsDueAsked, IsDueAskedByHand}
use Rattle.panel_rules.specs.CausedOutputs.{before_effect}
use Rattle.panel_rules.proofs.Bools.{parts, either_left, either_right}
use Rattle.panel_rules.proofs.Floors.{lt_from}
use Rattle.panel_rules.proofs.Stays.{up_to_here}
use Rattle.panel_rules.proofs.Turns.{run_tail, before_tick, before_past}
use Rattle.panel_rules.proofs.Deadlines.{settled_by}
use Rattle.panel_laws.proofs.Monotony.{Grow, output_grows}
use Rattle.panel_laws.proofs.EffectWords.{drive_tick, effect_late, out_in_facts, hand_in_facts}
use Rattle.panel_laws.proofs.DriveTurns.{made_before, owed_before, up_to_past, ended_at, run_now, run_latest}
use Rattle.panel_laws.proofs.DueBySignal.{SomeFact, a_zone, a_hand, a_fault, fact_of_output}

pub got : {X : Type 0} (xs : List X) (k : ℕ) → k < length xs → (x : X) × (slice_get xs k ≡ Some x)
got [] k l = absurd (omega (arith, l))
got (x ∷ xs) zero l = (x, refl)
got (x ∷ xs) (suc k) l = got xs k (omega (arith, l))

-- the panels of the zones and outputs of a valid site are panels of it
pub zone_panel : (site : Site) → IsValid site → (zone : ℕ) → zone < length site.zones → IsPanel site.panels (panel_of_zone site zone)
zone_panel site valid zone l =
    let z = got site.zones zone l in
    subst (λ o. IsPanel site.panels (panel_of o)) (sym z.1) (zone_at site valid zone z.0 z.1).panel

pub output_panel : (site : Site) → IsValid site → (output : ℕ) (facts : Facts) → is_true_over site output facts ≡ true
    → IsPanel site.panels (panel_of_output site output)
output_panel site valid output facts h = go (slice_get site.outputs output) refl h
  where
    go : (o : Option Output) → slice_get site.outputs output ≡ o → on_output (λ x. solution site facts x.marker) o ≡ true
        → IsPanel site.panels (panel_of_plan o)
    go None is h = absurd cc
    go (Some plan) is h = (output_at site valid output plan is).panel

pub up_to_is_past : (t : ℕ) (m : List Moment) → IsPast (up_to t m) m
up_to_is_past t [] = present
up_to_is_past t (moment ∷ before) =
    elim (nat_le (tick_of (moment ∷ before)) t) as (λ b. IsPast (if b then moment ∷ before else up_to t before) (moment ∷ before)) [
      | true ↦ present
      | false ↦ later moment before (up_to_is_past t before)
    ]

-- a silence that was done was done before
pub silence_lt : (panel x : ℕ) (done : List Done) (k : ℕ) → silence_before panel x done ≡ Some k → k < x
silence_lt panel x [] k e = absurd cc
silence_lt panel x (d ∷ done) k e = go ((d.panel == panel) && nat_lt d.tick x) refl (silence_lt panel x done k) e
  where
    by : (operation : Operation) → d.tick < x → (silence_before panel x done ≡ Some k → k < x)
        → silence_then operation d.tick (silence_before panel x done) ≡ Some k → k < x
    by Silence l ih e = let same : d.tick ≡ k = cc in omega (arith, l, same)
    by Resound l ih e = absurd cc
    by Mute l ih e = ih e
    by Override l ih e = ih e
    by Reset l ih e = ih e
    by (Cancel zone) l ih e = ih e
    by (Disable item) l ih e = ih e
    by (Enable item) l ih e = ih e
    by (Test zone) l ih e = ih e
    by (Untest zone) l ih e = ih e
    by (Delays on) l ih e = ih e
    by Clear l ih e = ih e

    go : (b : Bool) → ((d.panel == panel) && nat_lt d.tick x) ≡ b → (silence_before panel x done ≡ Some k → k < x)
        → (if b then silence_then d.operation d.tick (silence_before panel x done) else silence_before panel x done) ≡ Some k → k < x
    go true t ih e = by d.operation (lt_from d.tick x (parts (d.panel == panel) (nat_lt d.tick x) t).1) ih e
    go false t ih e = ih e

pub one_before : (t : ℕ) → 1 ≤ t → (u : ℕ) × (t ≡ u + 1)
one_before zero l = absurd (omega (arith, l))
one_before (suc u) l = (u, omega arith)

-- a history up to an earlier tick
pub same_past : (m : List Moment) (u t : ℕ) → t ≤ u → tick_of (up_to u m) ≡ u → up_to t m ≡ up_to t (up_to u m)
same_past m u t b k =
    elim (eqb_tells t u) [
      | inl h ↦ (let s = h.1 in ap (λ x. up_to x m) s ∙ sym (ap (λ x. up_to x (up_to u m)) (s ∙ sym k) ∙ up_to_here (up_to u m)))
      | inr h ↦ up_to_past t (up_to u m) m (up_to_is_past u m) (strictly t u b h.1 k)
    ]
  where
    strictly : (t u : ℕ) → t ≤ u → (t ≡ u → ⊥) → tick_of (up_to u m) ≡ u → t < tick_of (up_to u m)
    strictly t u b apart k =
        elim (leb_tells u t) [ inl h ↦ (let l = h.1 in absurd (apart (omega (arith, l, b)))) | inr h ↦ (let l = h.1 in omega (arith, l, k)) ]

-- a tick is among those of a list
pub data Among (x : ℕ) : List ℕ → Type 0 where
  first : (xs : List ℕ) → Among x (x ∷ xs)
  further : (y : ℕ) (xs : List ℕ) → Among x xs → Among x (y ∷ xs)

pub any_among : (test : ℕ → Bool) (x : ℕ) (xs : List ℕ) → Among x xs → test x ≡ true → list_any test xs ≡ true
any_among test x xs (first ys) t = either_left (test x) (list_any test ys) t
any_among test x xs (further y ys a) t = either_right (test y) (list_any test ys) (any_among test x ys a t)

-- a tick of a list that lies so many ticks before another one
pub record LiesBefore (n t : ℕ) (xs : List ℕ) : Type 0 where
  pub tick : ℕ
  pub among : Among tick xs
  pub far : tick + n ≡ t

module _ (site : Site) (kept : Retained) (done : List Done) (output : ℕ) (valid : IsValid site) (p :
    IsPanel site.panels (panel_of_output site output)) where
  -- at Effect's turn the facts hold what is due
  due_grows : (m : List Moment) → IsRun site.panels m → HaveAllTurned site.panels m → (facts : Facts)
      → AreDue site kept done m (panel_of_output site output) facts
      → Grow site facts (facts_of site kept done (panel_of_output site output) (before_effect site kept done m (panel_of_output site output)))
  due_grows m run ended facts due = record {
    released =
        λ zone l t. out_in_facts site kept done m valid run ended (panel_of_output site output) p zone (zone_panel site valid zone l)
        (due.released zone t);
    by_hand =
        λ zone l t. hand_in_facts site kept done m valid run ended (panel_of_output site output) p zone (zone_panel site valid zone l)
        (due.by_hand zone t);
    faulty = λ source own t. absurd (let e = due.faults source in let x = sym e ∙ t in cc);
  }

  hand_grows : (m : List Moment) → IsRun site.panels m → HaveAllTurned site.panels m → (facts : Facts)
      → AreDueByHand site kept done m (panel_of_output site output) facts
      → Grow site facts
      (hand_facts (facts_of site kept done (panel_of_output site output) (before_effect site kept done m (panel_of_output site output))))
  hand_grows m run ended facts due = record {
    released =
        λ zone l t. hand_in_facts site kept done m valid run ended (panel_of_output site output) p zone (zone_panel site valid zone l)
        (due.released zone t);
    by_hand =
        λ zone l t. hand_in_facts site kept done m valid run ended (panel_of_output site output) p zone (zone_panel site valid zone l)
        (due.by_hand zone t);
    faulty = λ source own t. absurd (let e = due.faults source in let x = sym e ∙ t in cc);
  }

  -- what is due by hand is due
  pub hand_due : (m : List Moment) → IsDueAskedByHand site kept done m output → IsDueAsked site kept done m output
  hand_due m h = record {
    facts = h.facts;
    due = record { released = λ zone t. out (h.due.released zone t); by_hand = h.due.by_hand; faults = h.due.faults };
    asks = h.asks;
  }
    where
      out : {zone panel : ℕ} → IsDueByHand site kept done m zone panel → IsDueOut site kept done m zone panel
      out d = record { settled = d.settled; signal = by_hand d.signal; late = d.late }

  -- nothing is due in the first ticks
  pub late_enough : (m : List Moment) → IsDueAsked site kept done m output → 20 ≤ tick_of m
  late_enough m h = go (fact_of_output site valid h.facts output h.asks)
    where
      go : SomeFact h.facts → 20 ≤ tick_of m
      go (a_zone zone t) = let d = h.due.released zone t in let l = settled_by site kept done m zone (panel_of_output site output) d.settled d.late in
          let f = valid.forms.format.0 in omega (arith, l, f)
      go (a_hand zone t) = let d = h.due.by_hand zone t in let l = settled_by site kept done m zone (panel_of_output site output) d.settled d.late in
          let f = valid.forms.format.0 in omega (arith, l, f)
      go (a_fault panel t) = absurd (let e = h.due.faults panel in let x = sym e ∙ t in cc)

  -- what the facts make true is requested before Drive's turn
  pub requested : (m : List Moment) → IsRun site.panels m → HaveAllTurned site.panels m → 2 ≤ tick_of m
      → is_true_over site output
      (facts_of site kept done (panel_of_output site output) (before_effect site kept done m (panel_of_output site output))) ≡ true
      → is_requested site (facts_of site kept done) output (before_turn (panel_of_output site output) Drive m) ≡ true
  requested m run ended l h =
      made_before false (panel_of_output site output) Effect
      (λ before. is_true_over site output (facts_of site kept done (panel_of_output site output) before))
      (before_turn (panel_of_output site output) Drive m)
      (let e = effect_late site kept done m valid run ended (panel_of_output site output) p in omega (arith, e, l))
      ∙ h

  pub due_requested : (m : List Moment) → IsRun site.panels m → HaveAllTurned site.panels m → IsDueAsked site kept done m output
      → is_requested site (facts_of site kept done) output (before_turn (panel_of_output site output) Drive m) ≡ true
  due_requested m run ended h =
      requested m run ended (let l = late_enough m h in omega (arith, l))
      (output_grows site valid h.facts
      (facts_of site kept done (panel_of_output site output) (before_effect site kept done m (panel_of_output site output)))
      (due_grows m run ended h.facts h.due) output h.asks)

  pub hand_requested : (m : List Moment) → IsRun site.panels m → HaveAllTurned site.panels m → IsDueAskedByHand site kept done m output
      → is_requested_by_hand site (facts_of site kept done) output (before_turn (panel_of_output site output) Drive m) ≡ true
  hand_requested m run ended h =
      made_before false (panel_of_output site output) Effect
      (λ before. is_true_over site output (hand_facts (facts_of site kept done (panel_of_output site output) before)))
      (before_turn (panel_of_output site output) Drive m)
      (let e = effect_late site kept done m valid run ended (panel_of_output site output) p in let l = late_enough m (hand_due m h) in
      omega (arith, e, l))
      ∙ output_grows site valid h.facts
      (hand_facts (facts_of site kept done (panel_of_output site output) (before_effect site kept done m (panel_of_output site output))))
      (hand_grows m run ended h.facts h.due) output h.asks

  -- the run of requests goes back over each tick at which it was due
  pub run_head : (m : List Moment) → IsRun site.panels m → HaveAllTurned site.panels m → 1 ≤ tick_of m
      → is_requested site (facts_of site kept done) output (before_turn (panel_of_output site output) Drive m) ≡ true
      → asked_run site (facts_of site kept done) output m ≡ tick_of m
      ∷ asked_run site (facts_of site kept done) output (before_turn (panel_of_output site output) Drive m)
  run_head m run ended l r =
      let t = drive_tick site kept done m valid run ended (panel_of_output site output) p in
      run_latest site (facts_of site kept done) output m (omega (arith, t, l))
      ∙ ap (λ b. if b then latest_turn (panel_of_output site output) Drive m
      ∷ asked_run site (facts_of site kept done) output (before_turn (panel_of_output site output) Drive m) else []) r
      ∙ ap (λ x. x ∷ asked_run site (facts_of site kept done) output (before_turn (panel_of_output site output) Drive m)) t

  run_back : (m : List Moment) (t : ℕ) → IsRun site.panels m → HaveAllTurned site.panels m → tick_of m ≡ t + 1
      → asked_run site (facts_of site kept done) output (before_turn (panel_of_output site output) Drive m) ≡ asked_run site (facts_of site kept done)
      output (up_to t m)
  run_back m t run ended e =
      let at = drive_tick site kept done m valid run ended (panel_of_output site output) p in
      let past = before_past (panel_of_output site output) Drive m in
      let tick = before_tick (panel_of_output site output) Drive m in
      run_now site (facts_of site kept done) site.panels t output (before_turn (panel_of_output site output) Drive m)
      (run_tail site.panels (before_turn (panel_of_output site output) Drive m) m past run)
      (owed_before site.panels (panel_of_output site output) Drive m run (omega (arith, at, e))) (tick ∙ at ∙ e)
      ∙ ap (asked_run site (facts_of site kept done) output)
      (sym (up_to_past t (before_turn (panel_of_output site output) Drive m) m past (omega (arith, tick, at, e))))

  pub covers : (n : ℕ) (m : List Moment) → IsRun site.panels m → HaveAllTurned site.panels m → n < tick_of m
      → ((t : ℕ) → tick_of m ≤ t + n → t ≤ tick_of m → IsDueAsked site kept done (up_to t m) output)
      → LiesBefore n (tick_of m) (asked_run site (facts_of site kept done) output m)
  covers zero m run ended l each =
      let now = subst (λ x. IsDueAsked site kept done x output) (up_to_here m) (each (tick_of m) (omega arith) (omega arith)) in
      let head = run_head m run ended (omega (arith, l)) (due_requested m run ended now) in
      record {
        tick = tick_of m;
        among =
            subst (Among (tick_of m)) (sym head)
            (first (asked_run site (facts_of site kept done) output (before_turn (panel_of_output site output) Drive m)));
        far = omega arith;
      }
  covers (suc n) m run ended l each =
      let b = one_before (tick_of m) (omega (arith, l)) in
      let u = b.0 in
      let e = b.1 in
      let now = subst (λ x. IsDueAsked site kept done x output) (up_to_here m) (each (tick_of m) (omega arith) (omega arith)) in
      let head = run_head m run ended (omega (arith, l)) (due_requested m run ended now) in
      let back = run_back m b.0 run ended e in
      let past = ended_at site.panels b.0 m run (omega (arith, e)) in
      let k = past.tick in
      let earlier =
      covers n (up_to b.0 m) past.run past.ended (omega (arith, k, l, e))
      (λ t c d. subst (λ x. IsDueAsked site kept done x output) (same_past m b.0 t (omega (arith, k, d)) past.tick)
      (each t (omega (arith, k, c, e)) (omega (arith, k, d, e)))) in
      let far = earlier.far in
      record {
        tick = earlier.tick;
        among =
            subst (Among earlier.tick) (sym head)
            (further (tick_of m) (asked_run site (facts_of site kept done) output (before_turn (panel_of_output site output) Drive m))
            (subst (Among earlier.tick) (sym back) earlier.among));
        far = omega (arith, far, k, e);
      }
