-- What was found at the latest turns of Effect and Drive is what they made.
use Rattle.std.proofs.Common.{◌≡◌, ◌-◌, ℕ, zero, suc, Bool, true, false, List, [], ◌∷◌, get_or, take, Option, Some, None, refl, sym, ◌∙◌, ap, subst}
use Rattle.std.specs.Prelude.{slice_get}
use Rattle.std.proofs.lemmas.Option.{get_or_from_slice_get}
use Rattle.tick_units.specs.declared.task.Task.{Task}
use Rattle.tick_units.specs.declared.task.Task.TheVariants.{Effect, Drive}
use Rattle.site_types.specs.declared.output.Output.{Output}
use Rattle.site_types.specs.declared.site.Site.{Site}
use Rattle.site_types.specs.declared.zone.Zone.{Zone}
use Rattle.site_types.proofs.Masks.{has_bit-zero}
use Rattle.site_types.proofs.Places.{all_at}
use Rattle.site_types.specs.Bits.{has_bit}
use Rattle.site_types.specs.Valid.{IsOutput, IsPanel, IsValid}
use Rattle.marker_table.specs.Equations.{values_of, zone_bit}
use Rattle.panel_rules.specs.Markers.{Facts, hand_facts, solution}
use Rattle.panel_rules.specs.Moments.{Moment as MomentOf}
use Rattle.panel_rules.specs.Outputs.{is_requested, is_requested_by_hand, is_true_over, on_output, panel_of_output, panel_of_plan, released_at_drive, released_at_effect}
use Rattle.plain_outputs.specs.declared.seen.Seen.{Seen}
use Rattle.plain_outputs.specs.Drives.{AreSeen, IsLatestAt, before_latest}
use Rattle.panel_bridges.specs.FactMasks.{AreZones}
use Rattle.plain_outputs.proofs.Looking.{made_none, made_some}

zeros_at : (k : ℕ) → ◌≡◌ {A = ℕ} (get_or (0 ∷ 0 ∷ 0 ∷ 0 ∷ 0 ∷ 0 ∷ 0 ∷ 0 ∷ []) k 0) 0
zeros_at zero = refl
zeros_at (suc zero) = refl
zeros_at (suc (suc zero)) = refl
zeros_at (suc (suc (suc zero))) = refl
zeros_at (suc (suc (suc (suc zero)))) = refl
zeros_at (suc (suc (suc (suc (suc zero))))) = refl
zeros_at (suc (suc (suc (suc (suc (suc zero)))))) = refl
zeros_at (suc (suc (suc (suc (suc (suc (suc zero))))))) = refl
zeros_at (suc (suc (suc (suc (suc (suc (suc (suc k)))))))) = refl

no_zone : (zone : Option Zone) → zone_bit (0 ∷ 0 ∷ 0 ∷ 0 ∷ 0 ∷ 0 ∷ 0 ∷ 0 ∷ []) zone ≡ false
no_zone None = refl
no_zone (Some zone) = ap (λ mask. has_bit mask (zone.number - 1)) (zeros_at (zone.panel - 1)) ∙ has_bit-zero (zone.number - 1)

-- tests that agree on the output agree
on_found : (site : Site) (output : ℕ) (f g : Output → Bool) → ((o : Output) → slice_get site.outputs output ≡ Some o → f o ≡ g o)
    → (plan : Option Output) → slice_get site.outputs output ≡ plan → on_output f plan ≡ on_output g plan
on_found site output f g same None at = refl
on_found site output f g same (Some o) at = same o at

-- the panel of an output is one of the site
pub panel_there : (site : Site) → IsValid site → (output : ℕ) (o : Output) → slice_get site.outputs output ≡ Some o
    → IsPanel site (panel_of_output site output)
panel_there site valid output o at =
    subst (λ (p : Option Output). IsPanel site (panel_of_plan p)) (sym at) (all_at (IsOutput site) site.outputs output o valid.forms.outputs at).panel

-- also where a test of the output holds
pub panel_where : (site : Site) → IsValid site → (output : ℕ) (test : Output → Bool) → on_output test (slice_get site.outputs output) ≡ true
    → IsPanel site (panel_of_output site output)
panel_where site valid output test holds = go (slice_get site.outputs output) refl holds
  where
    go : (plan : Option Output) → slice_get site.outputs output ≡ plan → on_output test plan ≡ true → IsPanel site (panel_of_output site output)
    go None at h = cc
    go (Some o) at h = panel_there site valid output o at

module _ (site : Site) (facts : ℕ → List MomentOf → Facts) where
  found_is :
      (panel : ℕ) (task : Task) (seen : List Seen) (history : List MomentOf) (place : ℕ) (w : IsLatestAt site facts panel task seen history place)
      (d : Seen) → get_or seen place d ≡ w.turn
  found_is panel task seen history place w d = get_or_from_slice_get seen place w.turn d w.found

  pub requested_none : (output panel : ℕ) → panel ≡ panel_of_output site output → (history : List MomentOf)
      → before_latest panel Effect history ≡ None → false ≡ is_requested site facts output history
  requested_none output panel is history none =
      sym (made_none false (panel_of_output site output) Effect (λ before. is_true_over site output (facts (panel_of_output site output) before))
      history (subst (λ (p : ℕ). before_latest p Effect history ≡ None) is none))

  pub by_hand_none : (output panel : ℕ) → panel ≡ panel_of_output site output → (history : List MomentOf) → before_latest panel Effect history ≡ None
      → false ≡ is_requested_by_hand site facts output history
  by_hand_none output panel is history none =
      sym (made_none false (panel_of_output site output) Effect (λ before. is_true_over site output (hand_facts (facts (panel_of_output site output) before))) history
      (subst (λ (p : ℕ). before_latest p Effect history ≡ None) is none))

  pub requested_some : IsValid site → (output panel : ℕ) → panel ≡ panel_of_output site output
      → (seen : List Seen) (history : List MomentOf) (place : ℕ) (d : Seen) →
      IsLatestAt site facts panel Effect seen history place
      → on_output (λ o. values_of (get_or seen place d).values o.marker) (slice_get site.outputs output) ≡ is_requested site facts output history
  requested_some valid output panel is seen history place d found = go (subst (λ (p : ℕ). IsLatestAt site facts p Effect seen history place) is found)
    where
      go : IsLatestAt site facts (panel_of_output site output) Effect seen history place
          → on_output (λ o. values_of (get_or seen place d).values o.marker) (slice_get site.outputs output) ≡ is_requested site facts output history
      go w =
          ap (λ (t : Seen). on_output (λ o. values_of t.values o.marker) (slice_get site.outputs output))
          (found_is (panel_of_output site output) Effect seen history place w d)
          ∙ on_found site output (λ o. values_of w.turn.values o.marker) (λ o. solution site (facts (panel_of_output site output) w.before) o.marker)
          (λ o at. (w.is_seen.solved (panel_of_output site output) (panel_there site valid output o at) refl).values o.marker)
          (slice_get site.outputs output) refl
          ∙ sym (made_some false (panel_of_output site output) Effect (λ before. is_true_over site output (facts (panel_of_output site output) before)) history w.before w.latest)

  pub by_hand_some : IsValid site → (output panel : ℕ) → panel ≡ panel_of_output site output
      → (seen : List Seen) (history : List MomentOf) (place : ℕ) (d : Seen) →
      IsLatestAt site facts panel Effect seen history place
      → on_output (λ o. values_of (get_or seen place d).by_hand o.marker) (slice_get site.outputs output) ≡ is_requested_by_hand site facts output
      history
  by_hand_some valid output panel is seen history place d found = go (subst (λ (p : ℕ). IsLatestAt site facts p Effect seen history place) is found)
    where
      go : IsLatestAt site facts (panel_of_output site output) Effect seen history place
          → on_output (λ o. values_of (get_or seen place d).by_hand o.marker) (slice_get site.outputs output) ≡ is_requested_by_hand site facts output
          history
      go w =
          ap (λ (t : Seen). on_output (λ o. values_of t.by_hand o.marker) (slice_get site.outputs output))
          (found_is (panel_of_output site output) Effect seen history place w d)
          ∙ on_found site output (λ o. values_of w.turn.by_hand o.marker)
          (λ o. solution site (hand_facts (facts (panel_of_output site output) w.before)) o.marker)
          (λ o at. (w.is_seen.solved (panel_of_output site output) (panel_there site valid output o at) refl).by_hand o.marker)
          (slice_get site.outputs output) refl
          ∙ sym (made_some false (panel_of_output site output) Effect (λ before. is_true_over site output (hand_facts (facts (panel_of_output site output) before))) history w.before w.latest)

  pub none_at_effect : (panel : ℕ) (history : List MomentOf) → before_latest panel Effect history ≡ None
      → AreZones site (released_at_effect site facts panel history) (0 ∷ 0 ∷ 0 ∷ 0 ∷ 0 ∷ 0 ∷ 0 ∷ 0 ∷ [])
  none_at_effect panel history none zone within =
      no_zone (slice_get site.zones zone) ∙ sym
      (ap (λ (test : ℕ → Bool). test zone) (made_none (λ zone. false) panel Effect (λ before. (facts panel before).released) history none))

  pub some_at_effect : (panel : ℕ) → IsPanel site panel → (seen : List Seen) (history : List MomentOf) (place : ℕ) (d : Seen)
      → IsLatestAt site facts panel Effect seen history place →
      AreZones site (released_at_effect site facts panel history) (get_or seen place d).released
  some_at_effect panel there seen history place d w zone within =
      let solved = w.is_seen.solved panel there refl in
      ap (λ (t : Seen). zone_bit t.released (slice_get site.zones zone)) (found_is panel Effect seen history place w d)
      ∙ solved.released zone within
      ∙ sym (ap (λ (test : ℕ → Bool). test zone) (made_some (λ zone. false) panel Effect (λ before. (facts panel before).released) history w.before w.latest))

  pub none_at_drive : (panel : ℕ) (history : List MomentOf) → before_latest panel Drive history ≡ None
      → AreZones site (released_at_drive site facts panel history) (0 ∷ 0 ∷ 0 ∷ 0 ∷ 0 ∷ 0 ∷ 0 ∷ 0 ∷ [])
  none_at_drive panel history none zone within =
      no_zone (slice_get site.zones zone) ∙ sym
      (ap (λ (test : ℕ → Bool). test zone) (made_none (λ zone. false) panel Drive (released_at_effect site facts panel) history none))

  pub some_at_drive : (panel : ℕ) (seen : List Seen) (history : List MomentOf) (place : ℕ) (masks : List ℕ)
      → IsLatestAt site facts panel Drive seen history place →
      ((past : List MomentOf) → AreSeen site facts (take place seen) past → AreZones site (released_at_effect site facts panel past) masks)
      → AreZones site (released_at_drive site facts panel history) masks
  some_at_drive panel seen history place masks w released zone within =
      released w.before w.earlier zone within ∙ sym
      (ap (λ (test : ℕ → Bool). test zone) (made_some (λ zone. false) panel Drive (released_at_effect site facts panel) history w.before
      w.latest))
