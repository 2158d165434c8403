-- What a panel has heard at the Effect turn that its latest turn of Drive goes by.
use Rattle.std.proofs.Common.{◌≡◌, ℕ, ◌+◌, ◌≤◌, ◌<◌, List, ◌∷◌, inl, inr, true, refl, sym, ◌∙◌, arith}
use Rattle.std.proofs.lemmas.Bool.Decides.{leb_tells}
use Rattle.tick_units.specs.declared.task.Task.TheVariants.{Hold, Link, Effect, Drive}
use Rattle.site_types.specs.declared.retained.Retained.{Retained}
use Rattle.site_types.specs.declared.site.Site.{Site}
use Rattle.site_types.specs.Done.{Done}
use Rattle.site_types.specs.Profile.{round_of}
use Rattle.site_types.specs.Valid.{IsValid}
use Rattle.panel_rules.specs.Moments.{Moment, Turned, tick_of, IsPanel, IsRun, IsPast, HaveAllTurned, latest_turn, before_turn}
use Rattle.panel_rules.specs.Kept.{kept_at, heard}
use Rattle.panel_rules.specs.Zones.{panel_of_zone, holds_released, holds_by_hand}
use Rattle.panel_rules.specs.Due.{IsDueAfter, own, by_way, IsDueOut, IsDueByHand}
use Rattle.panel_rules.specs.CausedOutputs.{before_effect}
use Rattle.panel_rules.proofs.Turns.{turn_lag, one_back, run_tail, past_on, before_past}
use Rattle.panel_rules.proofs.AnswersTell.{turn_in}
use Rattle.panel_rules.proofs.KeptWords.{kept_is, heard_rises}
use Rattle.panel_rules.proofs.Joined.{link_tick, own_word, joined_heard, kept_stamp}
use Rattle.panel_rules.proofs.ValidLayout.{laid_out}
use Rattle.panel_rules.proofs.InAlarm.{hand_holds, out_holds}

module _ (site : Site) (kept : Retained) (done : List Done) (moments : List Moment) (valid : IsValid site) (run : IsRun site.panels moments) (ended :
    HaveAllTurned site.panels moments) (panel : ℕ) (p : IsPanel site.panels panel) where
  drive_past : IsPast (before_turn panel Drive moments) moments
  drive_past = before_past panel Drive moments

  pub effect_past : IsPast (before_effect site kept done moments panel) moments
  effect_past =
      past_on (before_effect site kept done moments panel) (before_turn panel Drive moments) moments
      (before_past panel Effect (before_turn panel Drive moments)) drive_past

  pub drive_tick : latest_turn panel Drive moments ≡ tick_of moments
  drive_tick = let lag = rw (ended.each panel Drive p tt) at (turn_lag site.panels panel Drive moments p tt run) in omega (arith, lag)

  pub effect_late : tick_of moments ≤ latest_turn panel Effect (before_turn panel Drive moments) + 1
  effect_late = let back = one_back site.panels panel panel Drive Effect moments p tt run in let t = drive_tick in omega (arith, back.0, t)

  pub link_late : tick_of moments ≤ latest_turn panel Link (before_effect site kept done moments panel) + 2
  link_late =
      let back =
      one_back site.panels panel panel Effect Link (before_turn panel Drive moments) p tt
      (run_tail site.panels (before_turn panel Drive moments) moments drive_past run) in
      let e = effect_late in
      omega (arith, back.0, e)

  due_heard : (zone settled : ℕ) → IsPanel site.panels (panel_of_zone site zone) → IsDueAfter site kept done moments zone panel settled
      → settled + round_of site.format + 1 ≤ heard site.panels panel (panel_of_zone site zone) (before_effect site kept done moments panel)
  due_heard zone settled z (own e l) =
      let format = valid.forms.format.0 in
      let mine =
      own_word site.panels moments (before_effect site kept done moments panel) run effect_past valid.forms.panels.1 (panel_of_zone site zone)
      panel z p (sym e) in
      let late = link_late in
      omega (arith, format, mine, late, l)
  due_heard zone settled z (by_way first last from by ends joined) =
      elim (leb_tells (latest_turn panel Link (before_effect site kept done moments panel)) last) [
        | inl in_span ↦
            (let format = valid.forms.format.0 in
            let late = link_late in
            let came =
            joined_heard site.panels moments (before_effect site kept done moments panel) run effect_past valid.forms.panels.1
            (panel_of_zone site zone) panel z p first last in_span.1 (omega (arith, late, by, ends, format)) joined in
            omega (arith, came, late, by, from, ends, format))
        | inr past ↦ after_span past.1
      ]
    where
      run' : IsRun site.panels (before_effect site kept done moments panel)
      run' = run_tail site.panels (before_effect site kept done moments panel) moments effect_past run

      after_span : last < latest_turn panel Link (before_effect site kept done moments panel)
          → settled + round_of site.format + 1 ≤ heard site.panels panel (panel_of_zone site zone) (before_effect site kept done moments panel)
      after_span l =
          let format = valid.forms.format.0 in
          let lag = turn_lag site.panels panel Link (before_effect site kept done moments panel) p tt run' in
          let turn =
          turn_in site.panels panel Link (before_effect site kept done moments panel) last p tt run' (omega (arith, ends, format))
          (omega (arith, lag, l)) in
          let then = link_tick panel turn.before ∙ turn.at in
          let here = past_on (Turned panel Link ∷ turn.before) (before_effect site kept done moments panel) moments turn.turn effect_past in
          let came = joined_heard site.panels moments (Turned panel Link ∷ turn.before) run here valid.forms.panels.1 (panel_of_zone site zone) panel
          z p first last (omega (arith, then)) (omega (arith, then, ends, format)) joined in
          let rises =
          heard_rises site.panels panel (panel_of_zone site zone) (Turned panel Link ∷ turn.before) (before_effect site kept done moments panel)
          turn.turn in
          omega (arith, came, rises, then, ends, from, format)

  word_past : (zone : ℕ) → IsPast (kept_at site.panels panel (panel_of_zone site zone) (before_effect site kept done moments panel)) moments
  word_past zone =
      past_on (kept_at site.panels panel (panel_of_zone site zone) (before_effect site kept done moments panel))
      (before_effect site kept done moments panel) moments
      (kept_is site.panels panel (panel_of_zone site zone) (before_effect site kept done moments panel)).past effect_past

  new_enough : (zone settled : ℕ) → IsPanel site.panels (panel_of_zone site zone) → IsDueAfter site kept done moments zone panel settled
      → settled + round_of site.format + 1 ≤ latest_turn (panel_of_zone site zone) Hold
      (kept_at site.panels panel (panel_of_zone site zone) (before_effect site kept done moments panel))
  new_enough zone settled z late =
      omega (
        arith,
        due_heard zone settled z late,
        kept_stamp site.panels panel (panel_of_zone site zone) (before_effect site kept done moments panel),
      )

  -- what is due for outputs is released in the word kept, and what is due by hand is by hand
  pub out_in_facts : (zone : ℕ) → IsPanel site.panels (panel_of_zone site zone) → IsDueOut site kept done moments zone panel
      → holds_released site kept done (panel_of_zone site zone)
      (kept_at site.panels panel (panel_of_zone site zone) (before_effect site kept done moments panel)) zone ≡ true
  out_in_facts zone z due =
      out_holds site kept done moments (kept_at site.panels panel (panel_of_zone site zone) (before_effect site kept done moments panel))
      (panel_of_zone site zone) zone (laid_out site valid) run (word_past zone) z refl due.settled due.signal
      (new_enough zone due.settled z due.late)

  pub hand_in_facts : (zone : ℕ) → IsPanel site.panels (panel_of_zone site zone) → IsDueByHand site kept done moments zone panel
      → holds_by_hand site kept done (panel_of_zone site zone)
      (kept_at site.panels panel (panel_of_zone site zone) (before_effect site kept done moments panel)) zone ≡ true
  hand_in_facts zone z due =
      hand_holds site kept done moments (kept_at site.panels panel (panel_of_zone site zone) (before_effect site kept done moments panel))
      (panel_of_zone site zone) zone (laid_out site valid) run (word_past zone) z refl due.settled due.signal
      (new_enough zone due.settled z due.late)
