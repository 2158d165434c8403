-- An output for which the words ask that its panel keeps is on.
use Rattle.std.proofs.Common.{◌≡◌, ◌∙◌, ◌+◌, ◌-◌, ◌≤◌, ◌==◌, ℕ, Bool, true, false, List, [], ◌∷◌, Option, Some, None, slice_get, inl, inr, refl, sym, ap, subst, arith, if◌then◌else◌}
use Rattle.std.proofs.lemmas.Bool.Decides.{leb_tells}
use Rattle.tick_units.specs.declared.task.Task.TheVariants.{Drive, Effect}
use Rattle.site_types.specs.declared.retained.Retained.{Retained}
use Rattle.site_types.specs.declared.site.Site.{Site}
use Rattle.site_types.specs.declared.zone.Zone.{Zone}
use Rattle.site_types.specs.Bits.{has_bit}
use Rattle.site_types.specs.Done.{Done}
use Rattle.site_types.specs.Valid.{IsValid}
use Rattle.site_types.specs.Words.{empty_word}
use Rattle.site_types.proofs.Masks.{has_bit-zero}
use Rattle.site_types.proofs.ValidSites.{output_at}
use Rattle.panel_rules.specs.CausedOutputs.{before_effect}
use Rattle.panel_rules.specs.Markers.{Facts, hand_facts}
use Rattle.panel_rules.specs.Moments.{Moment, Turned, IsPanel, IsPast, IsRun, HaveAllTurned, before_turn, present, tick_of, up_to}
use Rattle.panel_rules.specs.Outputs.{delay_of, is_on, is_true_over, panel_of_output, panel_of_plan}
use Rattle.panel_rules.specs.Zones.{panel_of_zone}
use Rattle.panel_rules.proofs.Bools.{parts}
use Rattle.panel_rules.proofs.Turns.{before_past, before_tick, past_on}
use Rattle.panel_laws.proofs.DriveTurns.{turn_past}
use Rattle.panel_laws.proofs.DueBySignal.{SomeFact, a_fault, a_hand, a_zone, fact_of_output}
use Rattle.panel_laws.proofs.DueOn.{up_to_is_past}
use Rattle.panel_laws.proofs.EffectWords.{effect_late}
use Rattle.panel_laws.proofs.FacesShow.{output_bit}
use Rattle.panel_laws.proofs.Monotony.{output_grows}
use Rattle.node_rules.specs.Handed.{handed_facts, mask_has_zone}
use Rattle.node_rules.specs.Histories.{Befell, NodeMoment, befallen}
use Rattle.node_rules.specs.Nodes.{node_done, node_up, node_word, node_words}
use Rattle.node_laws.specs.AskedOutputs.{AskedAtNodeIsOn, KeptThroughoutIsOn, WordsAsk, WordsPass, is_true_by_hand, without_faults}
use Rattle.node_laws.specs.MayBeOn.{MayBeOn}
use Rattle.node_laws.specs.WordsKept.{facts_now}
use Rattle.node_laws.proofs.AnyFacts.{IsFree, asked, asked_by_hand, on_by_hand, on_through}
use Rattle.node_laws.proofs.NodeDue.{ended_by}
use Rattle.node_laws.proofs.PartsOf.{ends_at, none_of, part_tail}
use Rattle.node_laws.proofs.WordsThen.{by_words_kept}

module _ (site : Site) (kept : Retained) (history : List NodeMoment) (output : ℕ) (valid : IsValid site)
    (p : IsPanel site.panels (panel_of_output site output)) (run : IsRun site.panels (befallen history))
    (ended : HaveAllTurned site.panels (befallen history)) where
  abbrev panel : ℕ
  panel = panel_of_output site output

  abbrev done : List Done
  done = node_done site panel history kept

  abbrev facts : ℕ → List Moment → Facts
  facts = handed_facts site kept done panel (node_words site panel history) (node_up site panel history)

  abbrev m : List Moment
  m = befallen history

  -- the facts of the turn of Effect that a turn of Drive goes by pass the test
  passes : (count : ℕ) (test : Facts → Bool) → WordsPass site panel kept history count test → (x : List Moment) → IsPast x m → IsRun site.panels x
      → HaveAllTurned site.panels x → 2 ≤ tick_of x → tick_of m + 1 ≤ tick_of x + count
      → test (facts panel (before_effect site kept done x panel)) ≡ true
  passes count test pass x past run' ended' two near =
      let late = effect_late site kept done x valid run' ended' panel p in
      let turn = turn_past panel Effect (before_turn panel Drive x) (omega (arith, late, two)) in
      let here =
      past_on (Turned panel Effect ∷ before_effect site kept done x panel) x m
      (past_on (Turned panel Effect ∷ before_effect site kept done x panel) (before_turn panel Drive x) x turn (before_past panel Drive x)) past in
      let g = ends_at (Turned panel Effect) (before_effect site kept done x panel) history here in
      let at = ap tick_of g.is in
      let tick = before_tick panel Effect (before_turn panel Drive x) in
      ap (λ b. test (facts panel b)) (sym g.is)
      ∙ ap test ((by_words_kept site panel kept history g.part (Turned panel Effect) g.then).facts panel)
      ∙ pass.each g.part g.then (omega (arith, late, near, at, tick))

  module _ (one : 1 ≤ tick_of m) (free : IsFree site kept done facts output valid p m run ended one) where
    by_hand : WordsPass site panel kept history 1 (is_true_by_hand site output) → is_on site facts kept done output m ≡ true
    by_hand pass =
        let two = pass.begins in
        let both =
        parts (is_true_over site output (facts panel (before_effect site kept done m panel)))
        (is_true_over site output (hand_facts (facts panel (before_effect site kept done m panel))))
        (passes 1 (is_true_by_hand site output) pass m present run ended (omega (arith, two)) (omega arith)) in
        on_by_hand site kept done facts output valid p m run ended one free
        (asked site kept done facts output valid p m run ended (omega (arith, two)) both.0)
        (asked_by_hand site kept done facts output valid p m run ended (omega (arith, two)) both.1)

    through : WordsPass site panel kept history (delay_of site output + 1) (is_true_over site output) → is_on site facts kept done output m ≡ true
    through pass =
        let begins = pass.begins in
        on_through site kept done facts output valid p m run ended one free (omega (arith, begins)) (λ t c d.
        (let past = ended_by site.panels t m run ended d in
        let tick = past.tick in
        asked site kept done facts output valid p (up_to t m) past.run past.ended (omega (arith, begins, c, tick))
        (passes (delay_of site output + 1) (is_true_over site output) pass (up_to t m) (up_to_is_past t m) past.run past.ended
        (omega (arith, begins, c, tick)) (omega (arith, c, tick)))))

  pub asked_is_on : MayBeOn site panel kept history output → WordsAsk site panel kept history output → is_on site facts kept done output m ≡ true
  asked_is_on free words =
      elim words [
        | inl pass ↦ (let l = pass.begins in by_hand (omega (arith, l)) (record { enabled = free.enabled; heard = free.heard }) pass)
        | inr pass ↦ (let l = pass.begins in through (omega (arith, l)) (record { enabled = free.enabled; heard = free.heard }) pass)
      ]

pub asked_on : AskedAtNodeIsOn
asked_on site kept history output plan after is free words =
    output_bit site after.valid output plan is
    (λ o. is_on site (handed_facts site kept (node_done site plan.panel history kept) plan.panel (node_words site plan.panel history)
    (node_up site plan.panel history)) kept (node_done site plan.panel history kept) o (befallen history))
    ∙ subst (λ q. MayBeOn site q kept history output → WordsAsk site q kept history output
    → is_on site (handed_facts site kept (node_done site q history kept) q (node_words site q history) (node_up site q history)) kept
    (node_done site q history kept) output (befallen history) ≡ true) (ap panel_of_plan is)
    (asked_is_on site kept history output after.valid
    (subst (λ o. IsPanel site.panels (panel_of_plan o)) (sym is) (output_at site after.valid output plan is).panel) after.run after.ended) free words

-- ---- with all faults taken as false

-- at the opening the words that are kept tell of no zone
no_word : (site : Site) (panel : ℕ) (kept : Retained) (source : ℕ)
    → ((node_word site panel [] kept source).released ≡ 0) × ((node_word site panel [] kept source).manual ≡ 0)
no_word site panel kept source =
    elim (source == panel) as (λ b. ((if b then empty_word else empty_word).released ≡ 0) × ((if b then empty_word else empty_word).manual ≡ 0)) [
      | true ↦ (refl, refl)
      | false ↦ (refl, refl)
    ]

no_zone : (mask : ℕ) (o : Option Zone) → mask ≡ 0 → mask_has_zone mask o ≡ false
no_zone mask None none = refl
no_zone mask (Some plan) none = ap (λ n. has_bit n (plan.number - 1)) none ∙ has_bit-zero (plan.number - 1)

none_asks : (site : Site) (valid : IsValid site) (panel : ℕ) (kept : Retained) (output : ℕ)
    → is_true_over site output (without_faults (facts_now site panel [] kept)) ≡ true → ⊥
none_asks site valid panel kept output h = go (fact_of_output site valid (without_faults (facts_now site panel [] kept)) output h)
  where
    differ : (b : Bool) → b ≡ false → b ≡ true → ⊥
    differ true e f = cc
    differ false e f = cc

    go : SomeFact (without_faults (facts_now site panel [] kept)) → ⊥
    go (a_zone zone t) = differ _ (no_zone _ (slice_get site.zones zone) (no_word site panel kept (panel_of_zone site zone)).0) t
    go (a_hand zone t) = differ _ (no_zone _ (slice_get site.zones zone) (no_word site panel kept (panel_of_zone site zone)).1) t
    go (a_fault source t) = cc

pub kept_on : KeptThroughoutIsOn
kept_on site kept history output plan after is free each =
    asked_on site kept history output plan after is free (inr (record {
      begins = (let late = enough in omega (arith, late));
      each = λ before turn near.
          output_grows site after.valid (without_faults (facts_now site plan.panel before kept)) (facts_now site plan.panel before kept)
          (record { released = λ zone l t. t; by_hand = λ zone l t. t; faulty = λ source within t. absurd cc }) output
          (each before (part_tail (Befell (Turned plan.panel Effect)) before history turn) (omega (arith, near)));
    }))
  where
    enough : 3 + delay_of site output ≤ tick_of (befallen history)
    enough = elim (leb_tells (3 + delay_of site output) (tick_of (befallen history))) [
      | inl h ↦ h.1
      | inr h ↦ absurd (let l = h.1 in none_asks site after.valid plan.panel kept output (each [] (none_of history) (omega (arith, l))))
    ]
