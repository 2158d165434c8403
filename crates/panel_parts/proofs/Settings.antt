-- The settings that are in force, as operations are done, and what they tell of disabled outputs.
use Rattle.std.proofs.Common.{◌≡◌, ℕ, ◌+◌, ◌<◌, ◌&&◌, List, [], ◌∷◌, Option, Some, None, false, refl, sym, ◌∙◌, ap, arith, if◌then◌else◌, ◌-◌, ◌++◌}
use Rattle.std.specs.Prelude.{nat_lt, slice_index}
use Rattle.site_types.specs.declared.change.Change.{Change}
use Rattle.site_types.specs.declared.retained.Retained.{Retained}
use Rattle.site_types.specs.declared.site.Site.{Site}
use Rattle.site_types.specs.Changes.{CanApply, IsPanelNumber, IsSized, changed, operation_change}
use Rattle.site_types.specs.Done.{Done, Setting, in_force, is_kept_operation, is_on, operation_setting, value_set, OutputOff, kept_output}
use Rattle.site_types.specs.Valid.{IsValid}
use Rattle.site_types.proofs.Changes.{can_apply, sized-changed}
use Rattle.site_types.proofs.Done.{in_force-later, lt_true}
use Rattle.site_types.proofs.Settled.{keeps-change, keeps-other}
use Rattle.operation_desk.specs.Replies.{AreInForce}
use Rattle.panel_laws.proofs.StoredSettings.{changes, own_places, unkept}
use Rattle.panel_rules.specs.Moments.{Moment, tick_of}
use Rattle.settings_shown.specs.Shown.{HasNoStrangeBits}
use Rattle.settings_shown.proofs.Changes.{changes_keep}
use Rattle.panel_parts.specs.Applied.{MayBeApplied, applied, done_so_far}
use Rattle.panel_parts.specs.Stands.{AreBefore}
use Rattle.site_types.specs.Bits.{has_bit}
use Rattle.output_calls.specs.DoneCalls.{IsLatestFirst}
use Rattle.output_calls.proofs.LatestFirst.{latest_first}
use Rattle.panel_parts.specs.Changes.{AreOff}
use Rattle.panel_parts.proofs.EntriesKept.{grew_since_applied}

-- what was done before a tick sets the same in it and in the next one
pub past_force : (site : Site) (kept : Retained) (setting : Setting) (tick : ℕ) (done : List Done) → AreBefore tick done
    → in_force site kept setting tick done ≡ in_force site kept setting (tick + 1) done
past_force site kept setting tick [] past = refl
past_force site kept setting tick (d ∷ done) past =
    let now = past.0 in
    ap (λ b. if is_on setting d && b then value_set d.operation else in_force site kept setting tick done)
    (lt_true d.tick tick past.0 ∙ sym (lt_true d.tick (tick + 1) (omega (arith, now))))
    ∙ ap (λ v. if is_on setting d && nat_lt d.tick (tick + 1) then value_set d.operation else v) (past_force site kept setting tick done past.1)

module _ (site : Site) (kept : Retained) (before : List Moment) (done : List Done) (d : Done) (valid : IsValid site) (settings : Retained)
    (sized : IsSized settings) (may : MayBeApplied site before done d) (h : AreInForce site kept (tick_of before + 1) done settings) where
  number : IsPanelNumber d.panel
  number = (let at = may.at in let few = valid.forms.panels.1 in (at.0, omega (arith, at.1, few)))

  soon : d.tick < tick_of before + 1
  soon = (let now = may.now in omega (arith, now))

  -- one that changes nothing of the settings
  pub settings_left : operation_change site d.panel d.operation ≡ None → AreInForce site kept (tick_of before + 1) (d ∷ done) settings
  settings_left none =
      keeps-other site kept done (tick_of before + 1) settings d soon (unset (operation_setting d.panel d.operation) refl) h
    where
      unset : (o : Option Setting) → operation_setting d.panel d.operation ≡ o → is_kept_operation d.operation ≡ false
      unset None e = unkept d.panel d.operation e
      unset (Some setting) e = (let made = changes site d.panel d.operation setting may.has e in let no_way = sym none ∙ made.is in cc)

  -- one that makes a change
  pub can_change : (change : Change) → operation_change site d.panel d.operation ≡ Some change → CanApply change
  can_change change is = can_apply site d.panel d.operation change (own_places site valid) number is

  pub settings_changed : (change : Change) → operation_change site d.panel d.operation ≡ Some change
      → AreInForce site kept (tick_of before + 1) (d ∷ done) (changed change settings)
  settings_changed change is =
      keeps-change site kept done (tick_of before + 1) settings d change (own_places site valid) sized number soon is h

  pub own_changed : (change : Change) → operation_change site d.panel d.operation ≡ Some change → HasNoStrangeBits site settings
      → HasNoStrangeBits site (changed change settings)
  own_changed change is own = changes_keep site settings d.panel d.operation change valid sized is own

  pub sized_changed : (change : Change) → operation_change site d.panel d.operation ≡ Some change → IsSized (changed change settings)
  sized_changed change is = sized-changed change settings (can_change change is) sized

-- the settings tell which outputs are disabled
pub are_off : (site : Site) (kept : Retained) (before : List Moment) (settings : Retained) (panel off : ℕ)
    → AreInForce site kept (tick_of before) (done_so_far site kept before) settings → off ≡ slice_index settings.outputs (panel - 1)
    → AreOff site kept (applied site kept before) panel (tick_of before) off
are_off site kept before settings panel off force read output plan is at =
    let grew = grew_since_applied site kept before in
    ap (λ mask. has_bit mask (plan.number - 1)) (read ∙ ap (λ p. slice_index settings.outputs (p - 1)) (sym at))
    ∙ ap (kept_output settings) (sym is)
    ∙ force (OutputOff output) tt
    ∙ ap (in_force site kept (OutputOff output) (tick_of before)) grew.is
    ∙ in_force-later site kept (OutputOff output) (tick_of before) grew.new (applied site kept before) grew.from

latest_behind : (new old : List Done) → IsLatestFirst (new ++ old) → IsLatestFirst old
latest_behind [] old h = h
latest_behind (d ∷ new) old h = latest_behind new old h.1

-- what is in force stands the latest first
pub applied_latest_first : (site : Site) (kept : Retained) (before : List Moment) → IsLatestFirst (applied site kept before)
applied_latest_first site kept before =
    let grew = grew_since_applied site kept before in
    latest_behind grew.new (applied site kept before) (rw grew.is at (latest_first site kept before))
