-- A word tells a fault where one stood when it was made.
use Rattle.std.proofs.Common.{◌≡◌, ℕ, zero, suc, ◌≤◌, ◌<◌, ◌&&◌, not, List, [], ◌∷◌, length, slice_get, Bool, refl, ap, arith}
use Rattle.std.proofs.Math.Path.{fun_ext}
use Rattle.site_types.specs.declared.retained.Retained.{Retained}
use Rattle.site_types.specs.declared.site.Site.{Site}
use Rattle.site_types.specs.Done.{Done}
use Rattle.site_types.specs.Events.{is_confirming}
use Rattle.site_types.specs.Profile.{routing_of}
use Rattle.panel_conditions.specs.Answered.{answered_faults}
use Rattle.panel_conditions.specs.Words.{has_fault}
use Rattle.panel_rules.specs.Moments.{Moment, tick_of, IsPast, present, later}
use Rattle.panel_rules.specs.States.{is_up}
use Rattle.panel_rules.specs.Zones.{held_answers, holds_released, holds_by_hand, panel_of_zone}
use Rattle.panel_rules.specs.Kept.{kept_at, heard}
use Rattle.panel_rules.specs.Markers.{Facts}
use Rattle.panel_rules.specs.Outputs.{on_output, outputs_where, has_lasted, is_confirmed_in, confirmations}
use Rattle.panel_rules.specs.Faults.{outside_at}
use Rattle.panel_rules.specs.Run.{facts_with, faults_with, tells_to, tells_fault}
use Rattle.panel_rules.specs.OutputLaws.{FaultsAreTold}
use Rattle.panel_rules.proofs.KeptWords.{kept_is}
use Rattle.panel_rules.proofs.FactsAgree.{on_same}

pub past_short : (past moments : List Moment) → IsPast past moments → length past ≤ length moments
past_short past moments present = omega arith
past_short past moments (later moment before h) = let ih = past_short past before h in omega (arith, ih)

module _ (site : Site) (kept : Retained) (done : List Done) where
  -- two ways to tell faults give the same facts where they tell the same of all words made before
  facts_same : (one other : ℕ → List Moment → Bool) (n : ℕ) → ((source : ℕ) (y : List Moment) → length y < n → one source y ≡ other source y)
      → (panel : ℕ) (b : List Moment) → length b < n → facts_with site kept done one panel b ≡ facts_with site kept done other panel b
  facts_same one other n agree panel b l =
      ap (λ (told : ℕ → Bool). the_facts told)
      (fun_ext (λ source. agree source (kept_at site.panels panel source b) (let s =
      past_short (kept_at site.panels panel source b) b (kept_is site.panels panel source b).past in omega (arith, s, l))))
    where
      the_facts : (ℕ → Bool) → Facts
      the_facts told = record {
        released = λ zone. holds_released site kept done (panel_of_zone site zone) (kept_at site.panels panel (panel_of_zone site zone) b) zone;
        by_hand = λ zone. holds_by_hand site kept done (panel_of_zone site zone) (kept_at site.panels panel (panel_of_zone site zone) b) zone;
        faulty = told;
      }

  -- the faults of a turn
  faults_same : (one other : ℕ → List Moment → Bool) (panel : ℕ) (x : List Moment)
      → ((source : ℕ) (y : List Moment) → length y < length x → one source y ≡ other source y)
      → faults_with site kept done one panel x ≡ faults_with site kept done other panel x
  faults_same one other panel x agree =
      ap (λ (test : ℕ → Bool). answered_faults site kept panel done (held_answers site panel x) (tick_of x)
      (record (outside_at site (facts_with site kept done one) kept done (λ source. heard site.panels panel source x) (λ link. is_up link x) panel
      x) { unconfirmed = outputs_where site panel test }))
      (fun_ext
      (λ output.
      ap (λ (run : List ℕ). unconfirmed_by output run) (on_same site (facts_with site kept done one) (facts_with site kept done other) (length x)
      (facts_same one other (length x) agree) kept done output x (omega arith))))
    where
      unconfirmed_by : ℕ → List ℕ → Bool
      unconfirmed_by output run = on_output (λ o. is_confirming o.kind) (slice_get site.outputs output)
          && (has_lasted (routing_of site.format) run && not (is_confirmed_in run (confirmations output x)))

  -- a greater bound tells no more
  bound_same : (n m : ℕ) (panel : ℕ) (y : List Moment) → length y ≤ n → length y ≤ m
      → tells_to site kept done n panel y ≡ tells_to site kept done m panel y
  unfolding tells_to
  bound_same n m panel [] l k = refl
  bound_same zero m panel (moment ∷ before) l k = absurd (omega (arith, l))
  bound_same (suc n) zero panel (moment ∷ before) l k = absurd (omega (arith, k))
  bound_same (suc n) (suc m) panel (moment ∷ before) l k =
      ap has_fault (faults_same (tells_to site kept done n) (tells_to site kept done m) panel (moment ∷ before)
      (λ source y s. bound_same n m source y (omega (arith, s, l)) (omega (arith, s, k))))

  pub told_where : (panel : ℕ) (moment : Moment) (before : List Moment)
      → tells_fault site kept done panel (moment ∷ before)
      ≡ has_fault (faults_with site kept done (tells_fault site kept done) panel (moment ∷ before))
  unfolding tells_to
  told_where panel moment before =
      ap has_fault (faults_same (tells_to site kept done (length before)) (tells_fault site kept done) panel (moment ∷ before)
      (λ source y s. bound_same (length before) (length y) source y (omega (arith, s)) (omega arith)))

pub faults_told : FaultsAreTold
faults_told site kept done panel moment before = told_where site kept done panel moment before
