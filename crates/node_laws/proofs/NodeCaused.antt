-- An output that a panel by itself has on was asked for by the words that it kept.
use Rattle.std.proofs.Common.{◌≡◌, ◌∙◌, ◌&&◌, ℕ, Bool, true, false, List, [], ◌∷◌, nat_le, inl, inr, refl, sym, ap, subst, arith, if◌then◌else◌}
use Rattle.tick_units.specs.declared.task.Task.{Task}
use Rattle.tick_units.specs.declared.task.Task.TheVariants.{Drive, Effect, Hold, Link}
use Rattle.site_types.specs.declared.retained.Retained.{Retained}
use Rattle.site_types.specs.declared.site.Site.{Site}
use Rattle.site_types.specs.declared.word.Word.{Word}
use Rattle.site_types.specs.Done.{Done}
use Rattle.site_types.specs.Valid.{IsValid}
use Rattle.site_types.proofs.ValidSites.{output_at}
use Rattle.panel_conditions.specs.Words.{has_fault}
use Rattle.panel_rules.specs.Caused.{IsCausedByHand, IsCausedOut}
use Rattle.panel_rules.specs.Kept.{made_at}
use Rattle.panel_rules.specs.Latest.{made_latest}
use Rattle.panel_rules.specs.Markers.{Facts}
use Rattle.panel_rules.specs.Moments.{Moment, Began, Happened, Turned, Kept, IsPanel, IsPast, IsRun, HaveAllTurned, before_turn, later, latest_turn, present, tick_of}
use Rattle.panel_rules.specs.Outputs.{goes_on, is_on, is_requested, is_true_over, panel_of_output, panel_of_plan}
use Rattle.panel_rules.specs.Words.{word_made}
use Rattle.panel_rules.specs.Zones.{holds_by_hand, holds_released, panel_of_zone}
use Rattle.panel_rules.proofs.AnswersTell.{eq_true}
use Rattle.panel_rules.proofs.Bools.{parts}
use Rattle.panel_rules.proofs.Causes.{hand_caused, released_caused}
use Rattle.panel_rules.proofs.Joined.{was_made}
use Rattle.panel_rules.proofs.KeptWords.{made_is}
use Rattle.panel_rules.proofs.RingWords.{stamp_is}
use Rattle.panel_rules.proofs.Turns.{before_past, before_tick, past_on, run_tail, turn_tells}
use Rattle.panel_laws.proofs.DriveTurns.{made_true}
use Rattle.panel_laws.proofs.EffectWords.{effect_late}
use Rattle.panel_laws.proofs.FacesShow.{output_bit}
use Rattle.node_rules.specs.Handed.{faults_at_word, handed_facts, own_tells}
use Rattle.node_rules.specs.Histories.{Befell, NodeMoment, befallen}
use Rattle.node_rules.specs.Nodes.{node_done, node_up, node_word, node_words}
use Rattle.node_rules.proofs.OwnFaults.{own_told}
use Rattle.node_laws.specs.CausedOutputs.{IsCausedAtNode, IsOwnCaused, OnAtNodeIsCaused, faults_at_own_word}
use Rattle.node_laws.specs.WordsKept.{facts_now}
use Rattle.node_laws.proofs.OwnFacts.{by_hand_from, released_from}
use Rattle.node_laws.proofs.PartsOf.{ends_at, part_past, part_tail}
use Rattle.node_laws.proofs.WordsThen.{by_words_kept}

-- ---- what the own word tells

module _ (site : Site) (panel : ℕ) (kept : Retained) (history : List NodeMoment) (valid : IsValid site) (p : IsPanel site.panels panel)
    (run : IsRun site.panels (befallen history)) where
  abbrev done : List Done
  done = node_done site panel history kept

  abbrev tells : List Moment → Bool
  tells = own_tells site kept done panel (node_words site panel history) (node_up site panel history)

  abbrev link : List Moment
  link = before_turn panel Link (befallen history)

  abbrev word : List Moment
  word = made_at panel link

  own_word : node_word site panel history kept panel ≡ word_made site kept done (λ source. tells) panel word
  own_word = rw (eq_true panel panel refl) refl

  word_past : IsPast word (befallen history)
  word_past = past_on word link (befallen history) (made_is panel link).past (before_past panel Link (befallen history))

  own_stamp : latest_turn panel Hold word ≡ (node_word site panel history kept panel).stamp.0
  own_stamp =
      was_made panel word (made_is panel link).made ∙ sym (stamp_is site kept done (λ source. tells) panel word)
      ∙ ap (λ (w : Word). w.stamp.0) (sym own_word)

  own_released : (zone : ℕ) → panel_of_zone site zone ≡ panel → (facts_now site panel history kept).released zone ≡ true
      → IsCausedOut site kept done (befallen history) zone (node_word site panel history kept panel).stamp.0
  own_released zone of told_so =
      let holds =
      released_from site kept done (λ source. tells) valid panel (node_word site panel history kept) word (made_is panel link).made own_word zone of
      told_so in
      subst (IsCausedOut site kept done (befallen history) zone) (ap (λ q. latest_turn q Hold word) of ∙ own_stamp)
      (released_caused site kept done (befallen history) word zone run word_past (subst (IsPanel site.panels) (sym of) p)
      (subst (λ q. holds_released site kept done q word zone ≡ true) (sym of) holds))

  own_by_hand : (zone : ℕ) → panel_of_zone site zone ≡ panel → (facts_now site panel history kept).by_hand zone ≡ true
      → IsCausedByHand site kept done (befallen history) zone (node_word site panel history kept panel).stamp.0
  own_by_hand zone of told_so =
      let holds =
      by_hand_from site kept done (λ source. tells) valid panel (node_word site panel history kept) word (made_is panel link).made own_word zone of
      told_so in
      subst (IsCausedByHand site kept done (befallen history) zone) (ap (λ q. latest_turn q Hold word) of ∙ own_stamp)
      (hand_caused site kept done (befallen history) word zone run word_past (subst (IsPanel site.panels) (sym of) p)
      (subst (λ q. holds_by_hand site kept done q word zone ≡ true) (sym of) holds))

  own_fault : (facts_now site panel history kept).faulty panel ≡ true → has_fault (faults_at_own_word site panel kept history) ≡ true
  own_fault told_so = go word refl
    where
      fault : (node_word site panel history kept panel).fault ≡ true
      fault = (parts (nat_le 1 panel && nat_le panel site.panels) (node_word site panel history kept panel).fault told_so).1

      go : (w : List Moment) → word ≡ w → has_fault (faults_at_own_word site panel kept history) ≡ true
      go [] e = absurd (let none : (word_made site kept done (λ source. tells) panel []).fault ≡ true =
          sym (ap (λ w. (word_made site kept done (λ source. tells) panel w).fault) e) ∙ sym (ap (λ (w : Word). w.fault) own_word) ∙ fault in cc)
      go (turn ∷ before) e =
          let tells_so : tells (turn ∷ before) ≡ true =
          sym (ap (λ w. (word_made site kept done (λ source. tells) panel w).fault) e) ∙ sym (ap (λ (w : Word). w.fault) own_word) ∙ fault in
          ap (λ w. has_fault (faults_at_word site kept done panel (node_words site panel history) (node_up site panel history) tells w)) e
          ∙ sym (own_told site kept done panel (node_words site panel history) (node_up site panel history) turn before) ∙ tells_so

  pub own_caused : IsOwnCaused site panel kept history
  own_caused = record { released = own_released; by_hand = own_by_hand; fault = own_fault }

-- ---- what the output goes by

-- where the latest turn of a task made true, there is one
turned : (panel : ℕ) (task : Task) (f : List Moment → Bool) (m : List Moment) → made_latest false panel task f m ≡ true
    → IsPast (Turned panel task ∷ before_turn panel task m) m
turned panel task f [] h = absurd cc
turned panel task f (Began ∷ before) h = later Began before (turned panel task f before h)
turned panel task f (Happened event ∷ before) h = later (Happened event) before (turned panel task f before h)
turned panel task f (Turned other_panel other ∷ before) h =
    elim (turn_tells panel task other_panel other) [
      | inl t ↦ subst (λ b. IsPast (Turned panel task ∷ (if b then before else before_turn panel task before)) (Turned other_panel other ∷ before))
          (sym t.is) (same other_panel other t.panel_is t.task_is)
      | inr t ↦ (let g = rw t at h in rw t (later (Turned other_panel other) before (turned panel task f before g)))
    ]
  where
    same : (other_panel : ℕ) (other : Task) → other_panel ≡ panel → other ≡ task → IsPast (Turned panel task ∷ before) (Turned other_panel other ∷ before)
    same other_panel other p t = rw (p, t) present
turned panel task f (Kept failed ∷ before) h = later (Kept failed) before (turned panel task f before h)

module _ (site : Site) (kept : Retained) (history : List NodeMoment) (output : ℕ) (valid : IsValid site)
    (p : IsPanel site.panels (panel_of_output site output)) (run : IsRun site.panels (befallen history))
    (ended : HaveAllTurned site.panels (befallen history)) where
  abbrev of : ℕ
  of = panel_of_output site output

  abbrev by_then : List Done
  by_then = node_done site of history kept

  abbrev facts : ℕ → List Moment → Facts
  facts = handed_facts site kept by_then of (node_words site of history) (node_up site of history)

  abbrev drive : List Moment
  drive = before_turn of Drive (befallen history)

  abbrev effect : List Moment
  effect = before_turn of Effect drive

  on_caused : is_on site facts kept by_then output (befallen history) ≡ true → IsCausedAtNode site of kept history output
  on_caused on =
      let goes = made_true of Drive (goes_on site facts kept by_then output) (befallen history) on in
      let requested : is_requested site facts output drive ≡ true = (parts _ _ (parts _ _ goes).0).0 in
      let asks = made_true of Effect (λ before. is_true_over site output (facts of before)) drive requested in
      let turn = turned of Effect (λ before. is_true_over site output (facts of before)) drive requested in
      let g =
      ends_at (Turned of Effect) effect history
      (past_on (Turned of Effect ∷ effect) drive (befallen history) turn (before_past of Drive (befallen history))) in
      let late = effect_late site kept by_then (befallen history) valid run ended of p in
      let at = ap tick_of g.is in
      let tick = before_tick of Effect drive in
      record {
        before = g.part;
        turn = g.then;
        late = omega (arith, late, at, tick);
        asks =
            ap (is_true_over site output) (sym ((by_words_kept site of kept history g.part (Turned of Effect) g.then).facts of))
            ∙ ap (λ b. is_true_over site output (facts of b)) g.is ∙ asks;
        own = own_caused site of kept g.part valid p
            (run_tail site.panels (befallen g.part) (befallen history)
            (part_past g.part history (part_tail (Befell (Turned of Effect)) g.part history g.then)) run);
      }

pub on_is_caused : OnAtNodeIsCaused
on_is_caused site kept history output plan after is shown =
    subst (λ q. is_on site (handed_facts site kept (node_done site q history kept) q (node_words site q history) (node_up site q history)) kept
    (node_done site q history kept) output (befallen history) ≡ true → IsCausedAtNode site q kept history output) (ap panel_of_plan is)
    (on_caused site kept history output after.valid
    (subst (λ o. IsPanel site.panels (panel_of_plan o)) (sym is) (output_at site after.valid output plan is).panel) after.run after.ended)
    (sym (output_bit site after.valid output plan is
    (λ o. is_on site (handed_facts site kept (node_done site plan.panel history kept) plan.panel (node_words site plan.panel history)
    (node_up site plan.panel history)) kept (node_done site plan.panel history kept) o (befallen history))) ∙ shown)
