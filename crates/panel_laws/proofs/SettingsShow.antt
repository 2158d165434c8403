-- A face shows the settings of its panel, and so what was accepted.
use Rattle.std.proofs.Common.{◌≡◌, ℕ, ◌-◌, ◌==◌, ◌&&◌, List, [], ◌∷◌, Option, Some, None, slice_get, Bool, true, false, if◌then◌else◌, refl, sym, ◌∙◌, ap, subst, arith}
use Rattle.std.specs.Prelude.{nat_lt}
use Rattle.site_types.specs.declared.item.Item.TheVariants.{Point as PointItem, Zone as ZoneItem, Output as OutputItem}
use Rattle.site_types.specs.declared.operation.Operation.{Operation}
use Rattle.site_types.specs.declared.operation.Operation.TheVariants.{Disable, Enable, Test, Untest, Delays, Clear}
use Rattle.site_types.specs.declared.output.Output.{Output}
use Rattle.site_types.specs.declared.point.Point.{Point}
use Rattle.site_types.specs.declared.retained.Retained.{Retained}
use Rattle.site_types.specs.declared.site.Site.{Site}
use Rattle.site_types.specs.declared.zone.Zone.{Zone}
use Rattle.site_types.specs.Bits.{has_bit, has_point}
use Rattle.site_types.specs.Done.{Done, Setting, PointOff, ZoneOff, OutputOff, InTest, DelaysOff, Counter, in_force, is_on, operation_setting, value_set}
use Rattle.site_types.specs.Events.{has_operands, is_some_with}
use Rattle.site_types.specs.Valid.{IsValid}
use Rattle.coincidence_rules.specs.Places.{zones_where}
use Rattle.coincidence_rules.proofs.ValidWired.{wired_of}
use Rattle.coincidence_rules.proofs.ZoneMasks.{has_bit-zone}
use Rattle.panel_conditions.specs.Points.{points_where}
use Rattle.panel_rules.specs.Moments.{tick_of}
use Rattle.panel_rules.specs.Outputs.{outputs_where}
use Rattle.panel_rules.specs.Operations.{operations}
use Rattle.panel_laws.specs.ShownSettings.{is_setting_at, SettingsAreShown, AcceptedIsShown}
use Rattle.panel_rules.proofs.AnswersTell.{eq_true}
use Rattle.panel_laws.proofs.AnswerLaws.{eq_is, answers_are_to}
use Rattle.panel_laws.proofs.Away.{point_bit}
use Rattle.panel_laws.proofs.FacesShow.{output_bit}
use Rattle.panel_laws.proofs.Accepted.{accepted}

-- ---- the bits of a face

module _ (site : Site) (valid : IsValid site) (panel : ℕ) where
  point_shown : (test : ℕ → Bool) (point : ℕ) (o : Option Point) → slice_get site.points point ≡ o
      → is_some_with (λ (p : Point). p.panel == panel) o ≡ true
      → is_some_with (λ (p : Point). has_point (points_where site panel test) p.line p.address) o ≡ test point
  point_shown test point None e t = absurd cc
  point_shown test point (Some plan) e t =
      subst (λ q. has_point (points_where site q test) plan.line plan.address ≡ test point) (eq_is plan.panel panel t)
      (point_bit site valid point plan e test)

  zone_shown : (test : ℕ → Bool) (zone : ℕ) (o : Option Zone) → slice_get site.zones zone ≡ o → is_some_with (λ (z : Zone). z.panel == panel) o ≡ true
      → is_some_with (λ (z : Zone). has_bit (zones_where site panel test) (z.number - 1)) o ≡ test zone
  zone_shown test zone None e t = absurd cc
  zone_shown test zone (Some plan) e t =
      subst (λ q. has_bit (zones_where site q test) (plan.number - 1) ≡ test zone) (eq_is plan.panel panel t)
      (has_bit-zone site test zone plan (wired_of site valid) e)

  output_shown : (test : ℕ → Bool) (output : ℕ) (o : Option Output) → slice_get site.outputs output ≡ o
      → is_some_with (λ (u : Output). u.panel == panel) o ≡ true
      → is_some_with (λ (u : Output). has_bit (outputs_where site panel test) (u.number - 1)) o ≡ test output
  output_shown test output None e t = absurd cc
  output_shown test output (Some plan) e t =
      subst (λ q. has_bit (outputs_where site q test) (plan.number - 1) ≡ test output) (eq_is plan.panel panel t)
      (output_bit site valid output plan e test)

-- ---- counters

-- no operation sets a counter
sets_none : (panel at : ℕ) (operation : Operation) (tick : ℕ) → is_on (Counter panel) (record { tick = tick; panel = at; operation = operation })
    ≡ true → value_set operation ≡ false
sets_none panel at (Disable (PointItem point)) tick t = absurd cc
sets_none panel at (Disable (ZoneItem zone)) tick t = absurd cc
sets_none panel at (Disable (OutputItem output)) tick t = absurd cc
sets_none panel at (Test zone) tick t = absurd cc
sets_none panel at (Delays on) tick t = absurd cc
sets_none panel at _ tick t = refl

no_counter : (site : Site) (kept : Retained) (panel x : ℕ) (done : List Done) → in_force site kept (Counter panel) x done ≡ false
no_counter site kept panel x [] = refl
no_counter site kept panel x (d ∷ done) = go (is_on (Counter panel) d) refl (nat_lt d.tick x) (no_counter site kept panel x done)
  where
    go : (b : Bool) → is_on (Counter panel) d ≡ b → (c : Bool) → in_force site kept (Counter panel) x done ≡ false
        → (if b && c then value_set d.operation else in_force site kept (Counter panel) x done) ≡ false
    go true e true ih = sets_none panel d.panel d.operation d.tick e
    go true e false ih = ih
    go false e c ih = ih

-- ---- the laws

pub settings_shown : SettingsAreShown
settings_shown site kept done stored m panel (PointOff point) valid at =
    point_shown site valid panel (λ p. in_force site kept (PointOff p) (tick_of m) done) point (slice_get site.points point) refl at
settings_shown site kept done stored m panel (ZoneOff zone) valid at =
    zone_shown site valid panel (λ z. in_force site kept (ZoneOff z) (tick_of m) done) zone (slice_get site.zones zone) refl at
settings_shown site kept done stored m panel (OutputOff output) valid at =
    output_shown site valid panel (λ o. in_force site kept (OutputOff o) (tick_of m) done) output (slice_get site.outputs output) refl at
settings_shown site kept done stored m panel (InTest zone) valid at =
    zone_shown site valid panel (λ z. in_force site kept (InTest z) (tick_of m) done) zone (slice_get site.zones zone) refl at
settings_shown site kept done stored m panel (DelaysOff other) valid at =
    ap (λ p. in_force site kept (DelaysOff p) (tick_of m) done) (sym (eq_is other panel at))
settings_shown site kept done stored m panel (Counter other) valid at = sym (no_counter site kept other (tick_of m) done)

some_is : (a b : Setting) → Some a ≡ Some b → a ≡ b
some_is a b e = cc

-- the setting of an operation is at the panel that has what the operation names
at_panel : (site : Site) (panel : ℕ) (operation : Operation) (setting : Setting) → operation_setting panel operation ≡ Some setting
    → has_operands site panel operation ≡ true → is_setting_at site panel setting ≡ true
at_panel site panel (Disable (PointItem point)) setting e h = subst (λ s. is_setting_at site panel s ≡ true) (some_is (PointOff point) setting e) h
at_panel site panel (Disable (ZoneItem zone)) setting e h = subst (λ s. is_setting_at site panel s ≡ true) (some_is (ZoneOff zone) setting e) h
at_panel site panel (Disable (OutputItem output)) setting e h =
    subst (λ s. is_setting_at site panel s ≡ true) (some_is (OutputOff output) setting e) h
at_panel site panel (Enable (PointItem point)) setting e h = subst (λ s. is_setting_at site panel s ≡ true) (some_is (PointOff point) setting e) h
at_panel site panel (Enable (ZoneItem zone)) setting e h = subst (λ s. is_setting_at site panel s ≡ true) (some_is (ZoneOff zone) setting e) h
at_panel site panel (Enable (OutputItem output)) setting e h = subst (λ s. is_setting_at site panel s ≡ true) (some_is (OutputOff output) setting e) h
at_panel site panel (Test zone) setting e h = subst (λ s. is_setting_at site panel s ≡ true) (some_is (InTest zone) setting e) h
at_panel site panel (Untest zone) setting e h = subst (λ s. is_setting_at site panel s ≡ true) (some_is (InTest zone) setting e) h
at_panel site panel (Delays on) setting e h =
    subst (λ s. is_setting_at site panel s ≡ true) (some_is (DelaysOff panel) setting e) (eq_true panel panel refl)
at_panel site panel Clear setting e h = subst (λ s. is_setting_at site panel s ≡ true) (some_is (Counter panel) setting e) (eq_true panel panel refl)
at_panel site panel _ setting e h = absurd cc

pub accepted_shown : AcceptedIsShown
accepted_shown site kept stored m a setting valid run of_site was late none =
    let to = answers_are_to site kept m was.place a run was.is in
    let h = accepted site kept m was.place a setting run was.is was.on was.by_keep was.stored in
    let soon = h.soon in
    settings_shown site kept (operations site kept m).done stored m a.request.panel setting valid
    (at_panel site a.request.panel a.request.operation setting was.on (of_site to.place a.request to.asked).1)
    ∙ h.holds (tick_of m) (omega (arith, soon, late)) none
