-- The faults that stand, and the facts of Effect's turns, are the same by two accounts that are alike.
use Rattle.std.proofs.Common.{◌≡◌, ℕ, zero, suc, ◌+◌, ◌≤◌, ◌==◌, ◌&&◌, ◌||◌, not, Bool, List, [], ◌∷◌, length, Option, Some, None}
use Rattle.std.proofs.Common.{slice_get, if◌then◌else◌, refl, ◌∙◌, ap, arith}
use Rattle.std.proofs.Math.Path.{fun_ext}
use Rattle.tick_units.specs.declared.task.Task.TheVariants.{Supply as SupplyTask}
use Rattle.site_types.specs.declared.answer.Answer.{Answer}
use Rattle.site_types.specs.declared.piece_state.PieceState.{PieceState}
use Rattle.site_types.specs.declared.point.Point.{Point}
use Rattle.site_types.specs.declared.site.Site.{Site}
use Rattle.site_types.specs.Bits.{mask_of}
use Rattle.site_types.specs.Done.{PointOff, in_force}
use Rattle.site_types.specs.Limits.{most_loops}
use Rattle.site_types.specs.Things.{loop_of}
use Rattle.site_types.specs.Valid.{IsValid}
use Rattle.coincidence_rules.specs.Missing.{is_missing}
use Rattle.loop_poller.specs.Asked.{status_on}
use Rattle.panel_conditions.specs.declared.outside.Outside.{Outside}
use Rattle.panel_conditions.specs.Answered.{answered_faults}
use Rattle.panel_conditions.specs.Missing.{is_off, zone_is_off}
use Rattle.panel_conditions.specs.Points.{points_where}
use Rattle.panel_conditions.specs.Words.{has_fault}
use Rattle.supply_monitor.specs.Supply.{Call, Turned as TurnMade, shown_mask}
use Rattle.panel_rules.specs.Faults.{and_supply, broken_loops, is_unconfirmed, links_down, outside_with, shorted_loops, silent_panels, supply_calls}
use Rattle.panel_rules.specs.Kept.{heard, kept_at}
use Rattle.panel_rules.specs.Markers.{Facts}
use Rattle.panel_rules.specs.Moments.{Moment, Began, Happened, Turned, Kept, tick_of}
use Rattle.panel_rules.specs.Outputs.{is_on, outputs_where}
use Rattle.panel_rules.specs.Run.{facts_of, facts_with, faults_with, tells_fault}
use Rattle.panel_rules.specs.Run.{tells_to}
use Rattle.panel_rules.specs.States.{is_up, piece_of}
use Rattle.panel_rules.specs.Zones.{held_answers, holds_by_hand, holds_released, panel_of_zone}
use Rattle.panel_rules.proofs.KeptWords.{kept_is}
use Rattle.panel_rules.proofs.Turns.{tick_rises}
use Rattle.audit_laws.specs.AlikeOutputs.{AlikeFaultsStand, AlikeOutputsAreOn, AreAlikeAccounts}
use Rattle.audit_laws.specs.AlikeZones.{Account}
use Rattle.audit_laws.specs.RecordedMoments.{without_failures}
use Rattle.audit_laws.proofs.AlikeOutputs.{on_alike, unconfirmed_alike}
use Rattle.audit_laws.proofs.AlikeZones.{hand_told_alike, release_told_alike}
use Rattle.audit_laws.proofs.MomentsTold.{kept_same, piece_same, taken_same, tick_same, up_same}

-- ---- what befell supplies and cables

supply_same : (panel : ℕ) (m : List Moment) → supply_calls panel (without_failures m) ≡ supply_calls panel m
supply_same panel [] = refl
supply_same panel (Began ∷ before) = supply_same panel before
supply_same panel (Happened event ∷ before) = ap (and_supply panel event) (supply_same panel before)
supply_same panel (Turned other SupplyTask ∷ before) =
    ap (λ (calls : List Call). if other == panel then TurnMade (tick_of (without_failures before)) ∷ calls else calls) (supply_same panel before)
    ∙ ap (λ n. if other == panel then TurnMade n ∷ supply_calls panel before else supply_calls panel before) (tick_same before)
supply_same panel (Turned other task ∷ before) = supply_same panel before
supply_same panel (Kept failed ∷ before) = supply_same panel before

pieces_same : (panel line : ℕ) (m : List Moment)
    → ◌≡◌ {A = ℕ → PieceState} (λ piece. piece_of panel line piece (without_failures m)) (λ piece. piece_of panel line piece m)
pieces_same panel line m = fun_ext (λ piece. piece_same panel line piece m)

broken_same : (site : Site) (panel : ℕ) (m : List Moment) → broken_loops site panel (without_failures m) ≡ broken_loops site panel m
broken_same site panel m =
    ap (mask_of most_loops)
    (fun_ext (λ k. ap (λ (pieces : ℕ → PieceState). (status_on (loop_of site panel (k + 1)) pieces).broken) (pieces_same panel (k + 1) m)))

shorted_same : (site : Site) (panel : ℕ) (m : List Moment) → shorted_loops site panel (without_failures m) ≡ shorted_loops site panel m
shorted_same site panel m =
    ap (mask_of most_loops)
    (fun_ext (λ k. ap (λ (pieces : ℕ → PieceState). (status_on (loop_of site panel (k + 1)) pieces).shorted) (pieces_same panel (k + 1) m)))

facts_same : (released released_too by_hand by_hand_too faulty faulty_too : ℕ → Bool) → released ≡ released_too → by_hand ≡ by_hand_too
    → faulty ≡ faulty_too
    → ◌≡◌ {A = Facts} (record { released = released; by_hand = by_hand; faulty = faulty })
    (record { released = released_too; by_hand = by_hand_too; faulty = faulty_too })
facts_same released released_too by_hand by_hand_too faulty faulty_too p q r = cc

outside_same : (a a_too b b_too c c_too d d_too e e_too f f_too : ℕ) → a ≡ a_too → b ≡ b_too → c ≡ c_too → d ≡ d_too → e ≡ e_too → f ≡ f_too
    → ◌≡◌ {A = Outside} (record { supply = a; broken = b; shorted = c; silent = d; links = e; unconfirmed = f })
    (record { supply = a_too; broken = b_too; shorted = c_too; silent = d_too; links = e_too; unconfirmed = f_too })
outside_same a a_too b b_too c c_too d d_too e e_too f f_too p q r s t u = cc

heard_same : (panels panel source : ℕ) (m : List Moment) → heard panels panel source (without_failures m) ≡ heard panels panel source m
heard_same panels panel source m = ap tick_of (kept_same panels panel source m) ∙ tick_same (kept_at panels panel source m)

module _ (site : Site) (one other : Account) (limit : ℕ) (alike : AreAlikeAccounts site one other limit) (valid : IsValid site) where
  abbrev TellAlike : (ℕ → List Moment → Bool) → (ℕ → List Moment → Bool) → Type 0
  TellAlike told others = (panel : ℕ) (word : List Moment) → tick_of word ≤ limit → told panel (without_failures word) ≡ others panel word

  off_alike : (place x : ℕ) → x ≤ limit → is_off site one.kept one.done place x ≡ is_off site other.kept other.done place x
  off_alike place x by =
      ap (λ (b : Bool). b || zone_is_off site one.kept one.done (slice_get site.points place) x) (alike.points_off place x by)
      ∙ ap (λ (b : Bool). in_force site other.kept (PointOff place) x other.done || b) (of_plan (slice_get site.points place))
    where
      of_plan : (plan : Option Point) → zone_is_off site one.kept one.done plan x ≡ zone_is_off site other.kept other.done plan x
      of_plan None = refl
      of_plan (Some p) = alike.zones_off p.zone x by

  word_in_time : (panel source : ℕ) (m : List Moment) → tick_of m ≤ limit → tick_of (kept_at site.panels panel source m) ≤ limit
  word_in_time panel source m by =
      let rises = tick_rises (kept_at site.panels panel source m) m (kept_is site.panels panel source m).past in omega (arith, rises, by)

  module _ (told others : ℕ → List Moment → Bool) (same : TellAlike told others) where
    facts_alike : (panel : ℕ) (m : List Moment) → tick_of m ≤ limit
        → facts_with site one.kept one.done told panel (without_failures m) ≡ facts_with site other.kept other.done others panel m
    facts_alike panel m by =
        facts_same _ _ _ _ _ _
        (fun_ext
        (λ zone. ap (λ (word : List Moment). holds_released site one.kept one.done (panel_of_zone site zone) word zone)
        (kept_same site.panels panel (panel_of_zone site zone) m)
        ∙ release_told_alike site one other limit alike.zones (panel_of_zone site zone) zone (kept_at site.panels panel (panel_of_zone site zone) m)
        (word_in_time panel (panel_of_zone site zone) m by)))
        (fun_ext
        (λ zone. ap (λ (word : List Moment). holds_by_hand site one.kept one.done (panel_of_zone site zone) word zone)
        (kept_same site.panels panel (panel_of_zone site zone) m)
        ∙ hand_told_alike site one other limit alike.zones (panel_of_zone site zone) zone (kept_at site.panels panel (panel_of_zone site zone) m)
        (word_in_time panel (panel_of_zone site zone) m by)))
        (fun_ext
        (λ source. ap (told source) (kept_same site.panels panel source m)
        ∙ same source (kept_at site.panels panel source m) (word_in_time panel source m by)))

    stands_alike : (panel : ℕ) (m : List Moment) → tick_of m ≤ limit
        → outside_with site panel (without_failures m)
        (silent_panels site (λ source. heard site.panels panel source (without_failures m)) (tick_of (without_failures m)))
        (links_down site panel (λ link. is_up link (without_failures m)))
        (outputs_where site panel (λ output. is_unconfirmed site (facts_with site one.kept one.done told) one.kept one.done output (without_failures m)))
        ≡ outside_with site panel m (silent_panels site (λ source. heard site.panels panel source m) (tick_of m))
        (links_down site panel (λ link. is_up link m))
        (outputs_where site panel (λ output. is_unconfirmed site (facts_with site other.kept other.done others) other.kept other.done output m))
    stands_alike panel m by =
        outside_same _ _ _ _ _ _ _ _ _ _ _ _ (ap (shown_mask site.waits) (supply_same panel m)) (broken_same site panel m)
        (shorted_same site panel m)
        (ap (λ (stamps : ℕ → ℕ). silent_panels site stamps (tick_of (without_failures m))) (fun_ext (λ source. heard_same site.panels panel source m))
        ∙ ap (silent_panels site (λ source. heard site.panels panel source m)) (tick_same m))
        (ap (links_down site panel) (fun_ext (λ link. up_same link m)))
        (ap (outputs_where site panel)
        (fun_ext
        (λ output. unconfirmed_alike site one other limit alike valid (facts_with site one.kept one.done told)
        (facts_with site other.kept other.done others) facts_alike output m by)))

    faults_alike : (panel : ℕ) (m : List Moment) → tick_of m ≤ limit
        → faults_with site one.kept one.done told panel (without_failures m) ≡ faults_with site other.kept other.done others panel m
    faults_alike panel m by =
        ap (answered_faults site one.kept panel one.done (held_answers site panel (without_failures m)) (tick_of (without_failures m))) (stands_alike panel m by)
        ∙ ap (λ (xs : List Answer). answered_faults site one.kept panel one.done xs (tick_of (without_failures m)) outside) (taken_same site panel m)
        ∙ ap (λ n. answered_faults site one.kept panel one.done (held_answers site panel m) n outside) (tick_same m)
        ∙ ap (λ (test : ℕ → Bool). record (answered_faults site other.kept panel other.done (held_answers site panel m) (tick_of m) outside) {
          missing = points_where site panel test;
        })
        (fun_ext (λ place. ap (λ (b : Bool). is_missing (held_answers site panel m) place && not b) (off_alike place (tick_of m) by)))
      where
        outside : Outside
        outside =
            outside_with site panel m (silent_panels site (λ source. heard site.panels panel source m) (tick_of m))
            (links_down site panel (λ link. is_up link m))
            (outputs_where site panel (λ output. is_unconfirmed site (facts_with site other.kept other.done others) other.kept other.done output m))

  -- ---- and so by the words that tell faults

  tells_alike : (bound : ℕ) → TellAlike (tells_to site one.kept one.done bound) (tells_to site other.kept other.done bound)
  unfolding tells_to
  tells_alike zero panel [] by = refl
  tells_alike (suc bound) panel [] by = refl
  tells_alike zero panel (Began ∷ before) by = refl
  tells_alike zero panel (Happened event ∷ before) by = refl
  tells_alike zero panel (Turned other_panel task ∷ before) by = refl
  tells_alike zero panel (Kept failed ∷ before) by = refl
  tells_alike (suc bound) panel (Began ∷ before) by =
      ap has_fault
      (faults_alike (tells_to site one.kept one.done bound) (tells_to site other.kept other.done bound) (tells_alike bound) panel (Began ∷ before) by)
  tells_alike (suc bound) panel (Happened event ∷ before) by =
      ap has_fault
      (faults_alike (tells_to site one.kept one.done bound) (tells_to site other.kept other.done bound) (tells_alike bound) panel
      (Happened event ∷ before) by)
  tells_alike (suc bound) panel (Turned other_panel task ∷ before) by =
      ap has_fault
      (faults_alike (tells_to site one.kept one.done bound) (tells_to site other.kept other.done bound) (tells_alike bound) panel
      (Turned other_panel task ∷ before) by)
  tells_alike (suc bound) panel (Kept failed ∷ before) by =
      ap has_fault
      (faults_alike (tells_to site one.kept one.done bound) (tells_to site other.kept other.done bound) (tells_alike bound) panel
      (Kept failed ∷ before) by)

  long_same : (m : List Moment) → length (without_failures m) ≡ length m
  long_same [] = refl
  long_same (Began ∷ before) = ap suc (long_same before)
  long_same (Happened event ∷ before) = ap suc (long_same before)
  long_same (Turned panel task ∷ before) = ap suc (long_same before)
  long_same (Kept failed ∷ before) = ap suc (long_same before)

  fault_told : TellAlike (tells_fault site one.kept one.done) (tells_fault site other.kept other.done)
  fault_told panel word by =
      ap (λ n. tells_to site one.kept one.done n panel (without_failures word)) (long_same word) ∙ tells_alike (length word) panel word by

  pub outputs_on : (output : ℕ) (m : List Moment) → tick_of m ≤ limit
      → is_on site (facts_of site one.kept one.done) one.kept one.done output (without_failures m)
      ≡ is_on site (facts_of site other.kept other.done) other.kept other.done output m
  outputs_on output m by =
      on_alike site one other limit alike valid (facts_with site one.kept one.done (tells_fault site one.kept one.done))
      (facts_with site other.kept other.done (tells_fault site other.kept other.done))
      (facts_alike (tells_fault site one.kept one.done) (tells_fault site other.kept other.done) fault_told) output m by

  pub faults_stand : (panel : ℕ) (m : List Moment) → tick_of m ≤ limit
      → faults_with site one.kept one.done (tells_fault site one.kept one.done) panel (without_failures m)
      ≡ faults_with site other.kept other.done (tells_fault site other.kept other.done) panel m
  faults_stand panel m by = faults_alike (tells_fault site one.kept one.done) (tells_fault site other.kept other.done) fault_told panel m by

pub alike_on : AlikeOutputsAreOn
alike_on site one other m output valid alike = outputs_on site one other (tick_of m) alike valid output m (omega arith)

pub alike_faults : AlikeFaultsStand
alike_faults site one other m panel valid alike = faults_stand site one other (tick_of m) alike valid panel m (omega arith)
