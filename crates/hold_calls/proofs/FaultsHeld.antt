-- The faults that a panel's Hold shows: those that its turns are told of, and in the ring those of the rules.
use Rattle.std.proofs.Common.{◌≡◌, ◌∙◌, ℕ, List, ◌∷◌, ap, refl, subst, sym}
use Rattle.tick_units.specs.declared.task.Task.TheVariants.{Hold}
use Rattle.site_types.specs.declared.retained.Retained.{Retained}
use Rattle.site_types.specs.declared.site.Site.{Site}
use Rattle.site_types.specs.Done.{Done}
use Rattle.coincidence_rules.specs.Findings.{findings_of}
use Rattle.panel_conditions.specs.Turns.{findings_taken}
use Rattle.panel_conditions.specs.Words.{faults_after, faults_at}
use Rattle.panel_conditions.proofs.ByAnswers.{faults_by_answers}
use Rattle.panel_rules.specs.Kept.{made_at}
use Rattle.panel_rules.specs.Moments.{Moment, Turned, tick_of}
use Rattle.panel_rules.specs.Zones.{held_answers}
use Rattle.panel_rules.proofs.KeptWords.{IsMade, nothing, in_turn, made_is}
use Rattle.hold_calls.specs.HoldLaws.{HeldFaults}
use Rattle.hold_calls.specs.Shown.{faults_told}
use Rattle.hold_calls.specs.Told.{Told, told_in_ring}
use Rattle.hold_calls.specs.ToldLaws.{ToldFaults}
use Rattle.hold_calls.specs.Turns.{hold_turn, hold_turns, outside_now}
use Rattle.hold_calls.proofs.InRing.{faults_in_ring}
use Rattle.hold_calls.proofs.TurnsMade.{own_turn, turns_hold, turns_made}

module _ (site : Site) (kept : Retained) (done : List Done) (told : Told) (panel : ℕ) where
  -- the findings taken by the end of a turn are those of the answers that it holds then
  pub taken_now : (before : List Moment)
      → findings_taken (hold_turn site kept done told panel before ∷ hold_turns site kept done told panel before)
      ≡ findings_of site kept panel done (held_answers site panel (Turned panel Hold ∷ before))
  taken_now before =
      ap findings_taken (sym (own_turn site kept done told panel before)) ∙ turns_hold site kept done told panel (Turned panel Hold ∷ before)

  -- after a turn made now
  pub faults_now : (before : List Moment)
      → faults_after site kept panel done (hold_turn site kept done told panel before ∷ hold_turns site kept done told panel before)
      ≡ faults_told site kept done told panel (Turned panel Hold ∷ before)
  faults_now before =
      ap (λ fs. faults_at site kept panel done fs (tick_of before) (outside_now site kept done told panel before)) (taken_now before)
      ∙ faults_by_answers site kept panel (tick_of before) done (held_answers site panel (Turned panel Hold ∷ before))
      (outside_now site kept done told panel before)

  -- by the latest word
  faults_made : (word : List Moment) → IsMade panel word
      → faults_after site kept panel done (hold_turns site kept done told panel word) ≡ faults_told site kept done told panel word
  faults_made word (nothing e) =
      subst (λ w. faults_after site kept panel done (hold_turns site kept done told panel w) ≡ faults_told site kept done told panel w)
      (sym e) refl
  faults_made word (in_turn before e) =
      subst (λ w. faults_after site kept panel done (hold_turns site kept done told panel w) ≡ faults_told site kept done told panel w)
      (sym e) (ap (faults_after site kept panel done) (own_turn site kept done told panel before) ∙ faults_now before)

pub faults_by_told : ToldFaults
faults_by_told site kept done told panel before =
    ap (faults_after site kept panel done) (sym (turns_made site kept done told panel before))
    ∙ faults_made site kept done told panel (made_at panel before) (made_is panel before).made

pub faults_held : HeldFaults
faults_held site kept done panel before =
    faults_by_told site kept done (told_in_ring site kept done panel) panel before ∙ faults_in_ring site kept done panel before
