-- Where nothing was reported on the points of other panels, only zones of the own panel are due.
use Rattle.std.proofs.Common.{◌≡◌, ◌∙◌, ℕ, true, false, List, [], ◌∷◌, Option, Some, None, nat_le, slice_get, if◌then◌else◌, inl, inr, refl, sym, ap, subst}
use Rattle.std.proofs.lemmas.Bool.{eqb-true}
use Rattle.std.proofs.lemmas.Bool.Decides.{eqb_tells}
use Rattle.site_types.specs.declared.point.Point.{Point}
use Rattle.site_types.specs.declared.point_state.PointState.TheVariants.{Alarm, Quiet}
use Rattle.site_types.specs.declared.retained.Retained.{Retained}
use Rattle.site_types.specs.declared.site.Site.{Site}
use Rattle.site_types.specs.declared.zone.Zone.{Zone}
use Rattle.site_types.specs.Done.{Done}
use Rattle.site_types.specs.Valid.{IsValid}
use Rattle.coincidence_rules.specs.Places.{is_of, lies_in, on_partner, on_zone, partner_of}
use Rattle.panel_rules.specs.Due.{IsDueByHand, IsDueOut}
use Rattle.panel_rules.specs.Moments.{Moment, Began, Happened, Turned, Kept, tick_of, up_to}
use Rattle.panel_rules.specs.OutputLaws.{HasSignalled}
use Rattle.panel_rules.specs.States.{state_of}
use Rattle.panel_rules.specs.Zones.{panel_of, panel_of_zone}
use Rattle.panel_rules.proofs.Bools.{either}
use Rattle.panel_rules.proofs.ValidLayout.{laid_out}
use Rattle.panel_laws.proofs.DueBySignal.{hand_signalled, out_signalled}
use Rattle.node_rules.specs.QuietPanels.{HasQuietPoints}
use Rattle.node_rules.proofs.QuietPoints.{was_quiet}
use Rattle.node_laws.specs.DueOutputs.{AreOthersQuiet}

-- what holds of a history holds of what it was up to an earlier tick
quiet_before : (site : Site) (panel : ℕ) (moment : Moment) (before : List Moment) → HasQuietPoints site panel (moment ∷ before)
    → HasQuietPoints site panel before
quiet_before site panel Began before h = h
quiet_before site panel (Happened event) before h = h.1
quiet_before site panel (Turned other task) before h = h
quiet_before site panel (Kept failed) before h = h

quiet_up_to : (site : Site) (panel tick : ℕ) (m : List Moment) → HasQuietPoints site panel m → HasQuietPoints site panel (up_to tick m)
quiet_up_to site panel tick [] h = h
quiet_up_to site panel tick (moment ∷ before) h =
    elim (nat_le (tick_of (moment ∷ before)) tick) as (λ b. HasQuietPoints site panel (if b then moment ∷ before else up_to tick before)) [
      | true ↦ h
      | false ↦ quiet_up_to site panel tick before (quiet_before site panel moment before h)
    ]

pub others_up_to : (site : Site) (panel tick : ℕ) (m : List Moment) → AreOthersQuiet site panel m → AreOthersQuiet site panel (up_to tick m)
others_up_to site panel tick m quiet other apart = quiet_up_to site other tick m (quiet other apart)

module _ (site : Site) (valid : IsValid site) (kept : Retained) (done : List Done) (m : List Moment) where
  -- a point of a zone on whose panel nothing was reported isn't in alarm
  never : (zone point tick : ℕ) → HasQuietPoints site (panel_of_zone site zone) m → is_of site zone point ≡ true
      → state_of point (up_to tick m) ≡ Alarm → ⊥
  never zone point tick quiet of alarm = go (slice_get site.points point) refl
    where
      go : (o : Option Point) → slice_get site.points point ≡ o → ⊥
      go None is = let none : lies_in zone None ≡ true = sym (ap (lies_in zone) is) ∙ of in cc
      go (Some plan) is =
          let lies : lies_in zone (Some plan) ≡ true = sym (ap (lies_in zone) is) ∙ of in
          let at = ap (panel_of_zone site) (eqb-true plan.zone zone lies) in
          let there = ((laid_out site valid).points point plan is).zone in
          let still = was_quiet site (panel_of_zone site zone) point plan is (sym there ∙ at) tick m quiet in
          let both : Alarm ≡ Quiet = sym alarm ∙ still in
          cc

  none_signalled : (zone : ℕ) → HasQuietPoints site (panel_of_zone site zone) m → HasSignalled site kept done m zone → ⊥
  none_signalled zone quiet h =
      elim (either (is_of site zone h.point) (on_partner site zone (λ other. is_of site other h.point)) h.of_zone) [
        | inl of ↦ never zone h.point h.tick quiet of h.signals.alarm
        | inr by ↦ of_partner (slice_get site.zones zone) refl by
      ]
    where
      by_partner : (plan : Zone) → slice_get site.zones zone ≡ Some plan → (o : Option ℕ) → plan.partner ≡ o
          → on_zone (λ other. is_of site other h.point) o ≡ true → ⊥
      by_partner plan is None has by = cc
      by_partner plan is (Some other) has by =
          let at : panel_of_zone site zone ≡ panel_of_zone site other = ap panel_of is ∙ sym ((laid_out site valid).partners zone other plan is has) in
          never other h.point h.tick (subst (λ q. HasQuietPoints site q m) at quiet) by h.signals.alarm

      of_partner : (o : Option Zone) → slice_get site.zones zone ≡ o → on_zone (λ other. is_of site other h.point) (partner_of (slice_get site.zones zone)) ≡ true → ⊥
      of_partner None is by =
          let none : on_zone (λ other. is_of site other h.point) (partner_of None) ≡ true =
          sym (ap (λ o. on_zone (λ other. is_of site other h.point) (partner_of o)) is) ∙ by in
          cc
      of_partner (Some plan) is by =
          by_partner plan is plan.partner refl (sym (ap (λ o. on_zone (λ other. is_of site other h.point) (partner_of o)) is) ∙ by)

  module _ (panel : ℕ) (quiet : AreOthersQuiet site panel m) where
    own_signalled : (zone : ℕ) → HasSignalled site kept done m zone → panel_of_zone site zone ≡ panel
    own_signalled zone h =
        elim (eqb_tells (panel_of_zone site zone) panel) [
          | inl t ↦ t.1
          | inr t ↦ absurd (none_signalled zone (quiet (panel_of_zone site zone) t.1) h)
        ]

    pub own_out : (zone at : ℕ) → IsDueOut site kept done m zone at → panel_of_zone site zone ≡ panel
    own_out zone at due = own_signalled zone (out_signalled site kept done m valid.forms.format.0 zone at due)

    pub own_hand : (zone at : ℕ) → IsDueByHand site kept done m zone at → panel_of_zone site zone ≡ panel
    own_hand zone at due = own_signalled zone (hand_signalled site kept done m valid.forms.format.0 zone at due)
