-- What is due is on, what is indicated is on soon after, and what is on is caused.
use Rattle.std.proofs.Common.{◌≡◌, ℕ, ◌+◌, ◌≤◌, ◌==◌, ◌&&◌, ◌||◌, List, [], ◌∷◌, length, Option, Some, None, inl, inr, true, false, if◌then◌else◌, refl, sym, ◌∙◌, ap, subst, arith}
use Rattle.std.specs.Prelude.{nat_le, nat_lt}
use Rattle.tick_units.specs.declared.task.Task.TheVariants.{Effect, Drive}
use Rattle.site_types.specs.declared.retained.Retained.{Retained}
use Rattle.site_types.specs.declared.site.Site.{Site}
use Rattle.site_types.specs.Done.{Done, OutputOff, in_force, override_done_in, silence_before}
use Rattle.site_types.specs.Valid.{IsValid}
use Rattle.site_types.proofs.ValidSites.{output_at}
use Rattle.panel_conditions.specs.Words.{has_fault}
use Rattle.panel_rules.specs.Moments.{Moment, Turned, tick_of, IsPanel, IsRun, HaveAllTurned, IsPast, up_to, latest_turn, before_turn}
use Rattle.panel_rules.specs.Zones.{panel_of_zone, holds_released, holds_by_hand}
use Rattle.panel_rules.specs.Kept.{kept_at, heard}
use Rattle.panel_rules.specs.Markers.{Facts}
use Rattle.panel_rules.specs.Outputs.{panel_of_plan, panel_of_output, delay_of, is_sounder, is_true_over}
use Rattle.panel_rules.specs.Outputs.{is_requested, asked_run, released_at_drive, stays_within, silence_holds}
use Rattle.panel_rules.specs.Outputs.{is_quiet, is_over, may_act, goes_on, is_on}
use Rattle.panel_rules.specs.Run.{facts_of, faults_with, tells_to, tells_fault}
use Rattle.panel_rules.specs.Caused.{IsCausedByHand, IsCausedOut}
use Rattle.panel_rules.specs.DueOutputs.{IsDueAsked, IsDueAskedByHand, IsDueThrough, IsDueOn}
use Rattle.panel_rules.specs.CausedOutputs.{before_effect}
use Rattle.panel_laws.specs.OutputDeadlines.{DueOutputIsOn, own_facts, IsIndicated, IndicatedOutputIsOn, OnOutputIsCaused}
use Rattle.panel_rules.proofs.Bools.{both, parts, either_left, either_right, not_true}
use Rattle.panel_rules.proofs.Floors.{lt_from, lt_to, le_to}
use Rattle.panel_rules.proofs.AnswersTell.{eq_true}
use Rattle.panel_rules.proofs.Stays.{up_to_here}
use Rattle.panel_rules.proofs.Turns.{before_tick, before_past, past_on}
use Rattle.panel_rules.proofs.KeptWords.{IsMade, nothing, in_turn, kept_is}
use Rattle.panel_rules.proofs.Joined.{own_word, kept_stamp}
use Rattle.panel_rules.proofs.Causes.{hand_caused, released_caused}
use Rattle.panel_rules.proofs.FaultsTold.{told_where}
use Rattle.panel_laws.proofs.AnswerLaws.{eq_is}
use Rattle.panel_laws.proofs.Monotony.{Grow, output_grows}
use Rattle.panel_laws.proofs.EffectWords.{effect_past, drive_tick, link_late}
use Rattle.panel_laws.proofs.DriveTurns.{made_before, made_true, turn_past, up_to_past, within_latest}
use Rattle.panel_laws.proofs.DueOn.{zone_panel, output_panel, silence_lt, any_among, LiesBefore, hand_due, late_enough, requested, due_requested, hand_requested, run_head, covers}

module _ (site : Site) (kept : Retained) (done : List Done) (output : ℕ) (valid : IsValid site) (p :
    IsPanel site.panels (panel_of_output site output)) (m : List Moment) (run : IsRun site.panels m) (ended : HaveAllTurned site.panels m) (one :
    1 ≤ tick_of m) where
  at_drive : latest_turn (panel_of_output site output) Drive m ≡ tick_of m
  at_drive = drive_tick site kept done m valid run ended (panel_of_output site output) p

  drive_is : tick_of (before_turn (panel_of_output site output) Drive m) ≡ tick_of m
  drive_is = before_tick (panel_of_output site output) Drive m ∙ at_drive

  -- what was quiet at Drive's turn is quiet after the tick
  quiet_same : is_quiet site (facts_of site kept done) kept done (panel_of_output site output) m
      ≡ is_quiet site (facts_of site kept done) kept done (panel_of_output site output) (Turned (panel_of_output site output) Drive
      ∷ before_turn (panel_of_output site output) Drive m)
  quiet_same =
      go (silence_before (panel_of_output site output) (tick_of m) done) refl
      ∙ ap (λ t. silence_holds site (facts_of site kept done) (panel_of_output site output) (Turned (panel_of_output site output) Drive
      ∷ before_turn (panel_of_output site output) Drive m) (silence_before (panel_of_output site output) t done)) (sym drive_is)
    where
      go : (o : Option ℕ) → silence_before (panel_of_output site output) (tick_of m) done ≡ o
          → silence_holds site (facts_of site kept done) (panel_of_output site output) m o
          ≡ silence_holds site (facts_of site kept done) (panel_of_output site output) (Turned (panel_of_output site output) Drive
          ∷ before_turn (panel_of_output site output) Drive m) o
      go None e = refl
      go (Some k) e =
          let l = silence_lt (panel_of_output site output) (tick_of m) done k e in
          let d = drive_is in
          let t = at_drive in
          within_latest site (facts_of site kept done) (panel_of_output site output) k
          (released_at_drive site (facts_of site kept done) (panel_of_output site output) (up_to k m)) m (omega (arith, t, one))
          ∙ ap (λ h. stays_within site (facts_of site kept done) (panel_of_output site output) k (released_at_drive site (facts_of site kept done)
          (panel_of_output site output) h) (Turned (panel_of_output site output) Drive ∷ before_turn (panel_of_output site output) Drive m))
          (up_to_past k (Turned (panel_of_output site output) Drive ∷ before_turn (panel_of_output site output) Drive m) m
          (turn_past (panel_of_output site output) Drive m (omega (arith, t, one))) (omega (arith, l, d)))

  -- all that an output needs
  on_by : is_requested site (facts_of site kept done) output (before_turn (panel_of_output site output) Drive m) ≡ true
      → in_force site kept (OutputOff output) (tick_of m) done ≡ false
      → (is_sounder site output && is_quiet site (facts_of site kept done) kept done (panel_of_output site output) m) ≡ false
      → may_act site (facts_of site kept done) kept done output (before_turn (panel_of_output site output) Drive m) ≡ true
      → is_on site (facts_of site kept done) kept done output m ≡ true
  on_by asked enabled heard may =
      let t = at_drive in
      made_before false (panel_of_output site output) Drive (goes_on site (facts_of site kept done) kept done output) m (omega (arith, t, one))
      ∙ both _ _ (both _ _ asked (not_true _ (ap (λ x. in_force site kept (OutputOff output) x done) drive_is ∙ enabled)))
      (both _ _ (not_true _ (ap (λ b. is_sounder site output && b) (sym quiet_same) ∙ heard)) may)

  -- the run that Drive's turn sees is the one after it
  run_same : is_requested site (facts_of site kept done) output (before_turn (panel_of_output site output) Drive m) ≡ true
      → asked_run site (facts_of site kept done) output (Turned (panel_of_output site output) Drive
      ∷ before_turn (panel_of_output site output) Drive m) ≡ asked_run site (facts_of site kept done) output m
  run_same asked =
      ap (λ b. if b then (if is_requested site (facts_of site kept done) output (before_turn (panel_of_output site output) Drive m) then tick_of (before_turn (panel_of_output site output) Drive m) ∷ asked_run site (facts_of site kept done) output (before_turn (panel_of_output site output) Drive m) else []) else asked_run site (facts_of site kept done) output (before_turn (panel_of_output site output) Drive m)) (eq_true (panel_of_output site output) (panel_of_output site output) refl)
      ∙ ap (λ b. if b then tick_of (before_turn (panel_of_output site output) Drive m)
      ∷ asked_run site (facts_of site kept done) output (before_turn (panel_of_output site output) Drive m) else []) asked
      ∙ ap (λ x. x ∷ asked_run site (facts_of site kept done) output (before_turn (panel_of_output site output) Drive m)) drive_is
      ∙ sym (run_head site kept done output valid p m run ended one asked)

  by_span : is_requested site (facts_of site kept done) output (before_turn (panel_of_output site output) Drive m) ≡ true
      → LiesBefore (delay_of site output) (tick_of m) (asked_run site (facts_of site kept done) output m)
      → may_act site (facts_of site kept done) kept done output (before_turn (panel_of_output site output) Drive m) ≡ true
  by_span asked lies =
      let far = lies.far in
      let d = drive_is in
      either_right _ _
      (either_right _ _
      (ap (is_over site (facts_of site kept done) kept done (panel_of_output site output) (delay_of site output)
      (tick_of (before_turn (panel_of_output site output) Drive m))) (run_same asked)
      ∙ any_among (λ first. nat_le (first + delay_of site output) (tick_of (before_turn (panel_of_output site output) Drive m))
      || override_done_in (panel_of_output site output) first (tick_of (before_turn (panel_of_output site output) Drive m)) done) lies.tick
      (asked_run site (facts_of site kept done) output m) lies.among
      (either_left _ _ (le_to (lies.tick + delay_of site output) (tick_of (before_turn (panel_of_output site output) Drive m))
      (omega (arith, far, d))))))

  due_by_hand : IsDueOn site kept done m output → IsDueAskedByHand site kept done m output
      → is_on site (facts_of site kept done) kept done output m ≡ true
  due_by_hand h hand =
      on_by (due_requested site kept done output valid p m run ended (hand_due site kept done output valid p m hand)) h.enabled h.heard
      (either_left _ _ (either_left _ _ (hand_requested site kept done output valid p m run ended hand)))

  due_through : IsDueOn site kept done m output → IsDueThrough site kept done m output
      → is_on site (facts_of site kept done) kept done output m ≡ true
  due_through h through =
      let asked =
      due_requested site kept done output valid p m run ended
      (subst (λ x. IsDueAsked site kept done x output) (up_to_here m) (through.each (tick_of m) (omega arith) (omega arith))) in
      on_by asked h.enabled h.heard
      (by_span asked (covers site kept done output valid p (delay_of site output) m run ended through.begins through.each))

pub due_output_on : DueOutputIsOn
due_output_on site kept done m output valid run ended h =
    elim h.asked [
      | inl hand ↦
          (let p = output_panel site valid output hand.facts hand.asks in
          let l = late_enough site kept done output valid p m (hand_due site kept done output valid p m hand) in
          due_by_hand site kept done output valid p m run ended (omega (arith, l)) h hand)
      | inr through ↦
          (let now = subst (λ x. IsDueAsked site kept done x output) (up_to_here m) (through.each (tick_of m) (omega arith) (omega arith)) in
          let p = output_panel site valid output now.facts now.asks in
          let l = late_enough site kept done output valid p m now in
          due_through site kept done output valid p m run ended (omega (arith, l)) h through)
    ]

-- ---- after the indication

module _ (site : Site) (kept : Retained) (done : List Done) (m : List Moment) (output : ℕ) (valid : IsValid site) (run : IsRun site.panels m) (ended :
    HaveAllTurned site.panels m) (h : IsIndicated site kept done m output) where
  p_is : IsPanel site.panels (panel_of_output site output)
  p_is = subst (λ o. IsPanel site.panels (panel_of_plan o)) (sym h.is) (output_at site valid output h.plan h.is).panel

  late_by : 6 ≤ tick_of m
  late_by = let f = valid.forms.format.0 in let l = h.late in omega (arith, f, l)

  heard_late :
      tick_of m ≤ heard site.panels (panel_of_output site output) (panel_of_output site output)
      (before_effect site kept done m (panel_of_output site output)) + 3
  heard_late =
      let link = link_late site kept done m valid run ended (panel_of_output site output) p_is in
      let own =
      own_word site.panels m (before_effect site kept done m (panel_of_output site output)) run
      (effect_past site kept done m valid run ended (panel_of_output site output) p_is) valid.forms.panels.1 (panel_of_output site output)
      (panel_of_output site output) p_is p_is refl in
      omega (arith, link, own)

  -- the facts of the own word are among those of Effect's turn
  own_grow :
      Grow site
      (own_facts site kept done (panel_of_output site output)
      (kept_at site.panels (panel_of_output site output) (panel_of_output site output)
      (before_effect site kept done m (panel_of_output site output))))
      (facts_of site kept done (panel_of_output site output) (before_effect site kept done m (panel_of_output site output)))
  own_grow = record {
    released = λ zone l t. (let g = parts (panel_of_zone site zone == panel_of_output site output) _ t in
        subst (λ q. holds_released site kept done q (kept_at site.panels (panel_of_output site output) q (before_effect site kept done m
        (panel_of_output site output))) zone ≡ true) (sym (eq_is (panel_of_zone site zone) (panel_of_output site output) g.0)) g.1);
    by_hand = λ zone l t. (let g = parts (panel_of_zone site zone == panel_of_output site output) _ t in
        subst (λ q. holds_by_hand site kept done q (kept_at site.panels (panel_of_output site output) q (before_effect site kept done m
        (panel_of_output site output))) zone ≡ true) (sym (eq_is (panel_of_zone site zone) (panel_of_output site output) g.0)) g.1);
    faulty = λ source own t. absurd cc;
  }

  asked_by_word :
      IsMade (panel_of_output site output)
      (kept_at site.panels (panel_of_output site output) (panel_of_output site output) (before_effect site kept done m (panel_of_output site output)))
      → is_true_over site output
      (own_facts site kept done (panel_of_output site output)
      (kept_at site.panels (panel_of_output site output) (panel_of_output site output)
      (before_effect site kept done m (panel_of_output site output)))) ≡ true
  asked_by_word (nothing e) = let z = ap (λ w. tick_of w) e in let l = heard_late in let six = late_by in absurd (omega (arith, z, l, six))
  asked_by_word (in_turn before e) =
      let t = ap (λ w. tick_of w) e in
      let l = heard_late in
      let f = valid.forms.format.0 in
      let past =
      past_on
      (kept_at site.panels (panel_of_output site output) (panel_of_output site output)
      (before_effect site kept done m (panel_of_output site output))) (before_effect site kept done m (panel_of_output site output)) m
      (kept_is site.panels (panel_of_output site output) (panel_of_output site output)
      (before_effect site kept done m (panel_of_output site output))).past
      (effect_past site kept done m valid run ended (panel_of_output site output) p_is) in
      subst (λ w. is_true_over site output (own_facts site kept done (panel_of_output site output) w) ≡ true) (sym e)
      (h.told before (subst (λ w. IsPast w m) e past) (omega (arith, t, l, f)))

  on_soon : is_on site (facts_of site kept done) kept done output m ≡ true
  on_soon =
      let six = late_by in
      let asks =
      output_grows site valid
      (own_facts site kept done (panel_of_output site output)
      (kept_at site.panels (panel_of_output site output) (panel_of_output site output)
      (before_effect site kept done m (panel_of_output site output))))
      (facts_of site kept done (panel_of_output site output) (before_effect site kept done m (panel_of_output site output))) own_grow output
      (asked_by_word
      (kept_is site.panels (panel_of_output site output) (panel_of_output site output)
      (before_effect site kept done m (panel_of_output site output))).made) in
      on_by site kept done output valid p_is m run ended (omega (arith, six))
      (requested site kept done output valid p_is m run ended (omega (arith, six)) asks) h.enabled h.heard
      (either_left _ _ (either_right _ _ (eq_true (delay_of site output) 0 h.instant)))

pub indicated_on : IndicatedOutputIsOn
indicated_on site kept done m output valid run ended h = on_soon site kept done m output valid run ended h

-- ---- causes

told_true : (site : Site) (kept : Retained) (done : List Done) (panel : ℕ) (word : List Moment) → tells_fault site kept done panel word ≡ true
    → has_fault (faults_with site kept done (tells_fault site kept done) panel word) ≡ true
unfolding tells_to
told_true site kept done panel [] h = absurd cc
told_true site kept done panel (moment ∷ before) h = sym (told_where site kept done panel moment before) ∙ h

-- the facts of Effect's turn, of the zones of the site
abbrev site_facts : Site → Facts → Facts
site_facts site facts = record {
  released = λ zone. nat_lt zone (length site.zones) && facts.released zone;
  by_hand =
      λ zone. nat_lt zone (length site.zones) && facts.by_hand zone;
  faulty = facts.faulty;
}

pub on_output_caused : OnOutputIsCaused
on_output_caused site kept done m output valid run on = record {
  facts = site_facts site (facts_of site kept done (panel_of_output site output) (before_effect site kept done m (panel_of_output site output)));
  caused = record {
    released = λ zone t. (let g = parts (nat_lt zone (length site.zones)) _ t in
        subst (IsCausedOut site kept done m zone)
        (kept_stamp site.panels (panel_of_output site output) (panel_of_zone site zone)
        (before_effect site kept done m (panel_of_output site output)))
        (released_caused site kept done m
        (kept_at site.panels (panel_of_output site output) (panel_of_zone site zone)
        (before_effect site kept done m (panel_of_output site output))) zone run (word_past zone)
        (zone_panel site valid zone (lt_from zone (length site.zones) g.0)) g.1));
    by_hand = λ zone t. (let g = parts (nat_lt zone (length site.zones)) _ t in
        subst (IsCausedByHand site kept done m zone)
        (kept_stamp site.panels (panel_of_output site output) (panel_of_zone site zone)
        (before_effect site kept done m (panel_of_output site output)))
        (hand_caused site kept done m
        (kept_at site.panels (panel_of_output site output) (panel_of_zone site zone)
        (before_effect site kept done m (panel_of_output site output))) zone run (word_past zone)
        (zone_panel site valid zone (lt_from zone (length site.zones) g.0)) g.1));
    faults =
        λ source t.
        told_true site kept done source
        (kept_at site.panels (panel_of_output site output) source (before_effect site kept done m (panel_of_output site output))) t;
  };
  asks =
      output_grows site valid (facts_of site kept done (panel_of_output site output) (before_effect site kept done m (panel_of_output site output)))
      (site_facts site (facts_of site kept done (panel_of_output site output) (before_effect site kept done m (panel_of_output site output))))
      (record {
        released = λ zone l t. both _ _ (lt_to zone (length site.zones) l) t;
        by_hand =
            λ zone l t. both _ _ (lt_to zone (length site.zones) l) t;
        faulty = λ source own t. t;
      }) output asked;
}
  where
    asked :
        is_true_over site output
        (facts_of site kept done (panel_of_output site output) (before_effect site kept done m (panel_of_output site output))) ≡ true
    asked =
        let goes = made_true (panel_of_output site output) Drive (goes_on site (facts_of site kept done) kept done output) m on in
        made_true (panel_of_output site output) Effect
        (λ before. is_true_over site output (facts_of site kept done (panel_of_output site output) before))
        (before_turn (panel_of_output site output) Drive m) (parts _ _ (parts _ _ goes).0).0

    word_past : (zone : ℕ)
        → IsPast
        (kept_at site.panels (panel_of_output site output) (panel_of_zone site zone) (before_effect site kept done m (panel_of_output site output))) m
    word_past zone =
        past_on
        (kept_at site.panels (panel_of_output site output) (panel_of_zone site zone)
        (before_effect site kept done m (panel_of_output site output))) (before_effect site kept done m (panel_of_output site output)) m
        (kept_is site.panels (panel_of_output site output) (panel_of_zone site zone)
        (before_effect site kept done m (panel_of_output site output))).past
        (past_on (before_effect site kept done m (panel_of_output site output)) (before_turn (panel_of_output site output) Drive m) m
        (before_past (panel_of_output site output) Effect (before_turn (panel_of_output site output) Drive m))
        (before_past (panel_of_output site output) Drive m))
