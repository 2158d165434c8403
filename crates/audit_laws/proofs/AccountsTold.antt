-- A run's text tells all that was kept and done, as far as zones, outputs and faults go by it.
use Rattle.std.proofs.Common.{◌≡◌, ℕ, zero, suc, ◌+◌, ◌-◌, ◌≤◌, ◌==◌, ◌&&◌, ◌||◌, Bool, true, false, List, [], ◌∷◌, length, Option, Some, None}
use Rattle.std.proofs.Common.{slice_get, refl, sym, ◌∙◌, ap, arith}
use Rattle.std.specs.Prelude.{nat_le, nat_lt}
use Rattle.std.proofs.lemmas.List.FromFn.{get_or-map-range_with_len}
use Rattle.site_types.specs.declared.output.Output.{Output}
use Rattle.site_types.specs.declared.retained.Retained.{Retained}
use Rattle.site_types.specs.declared.site.Site.{Site}
use Rattle.site_types.specs.Bits.{has_bit}
use Rattle.site_types.specs.Done.{DelaysOff, Done, OutputOff, PointOff, ZoneOff, at_opening, is_override, kept_output, override_done_in}
use Rattle.site_types.specs.Done.{silence_before}
use Rattle.site_types.specs.Valid.{IsValid}
use Rattle.site_types.proofs.Done.{override-later, silence-later}
use Rattle.site_types.proofs.Masks.{has_bit-mask}
use Rattle.site_types.proofs.ValidSites.{output_at, output_numbers}
use Rattle.face_text.specs.declared.face.Face.{Face}
use Rattle.face_text.specs.declared.group.Group.TheVariants.{Outputs}
use Rattle.face_reading.specs.Reading.{face_at}
use Rattle.face_text.specs.Slots.{shows}
use Rattle.panel_rules.specs.Moments.{TickBlock, moments, tick_of, up_to}
use Rattle.panel_rules.specs.Operations.{operations}
use Rattle.panel_rules.specs.Outputs.{is_on}
use Rattle.panel_rules.specs.Records.{AreOrdered}
use Rattle.panel_rules.specs.Run.{facts_of}
use Rattle.panel_rules.specs.Timeline.{faces_of, timeline_of}
use Rattle.panel_laws.proofs.FacesShow.{output_bit}
use Rattle.panel_laws.proofs.OutputsOn.{due_output_on}
use Rattle.panel_laws.proofs.Steps.{up_to_tick}
use Rattle.run_text.specs.Failures.{as_recorded}
use Rattle.run_text.proofs.FailuresCounted.{are_the_same}
use Rattle.run_text.proofs.TickTimes.{tick_moments}
use Rattle.audit_rules.specs.Shown.{text_tells_output}
use Rattle.audit_rules.specs.ToldDone.{retained_by}
use Rattle.audit_laws.specs.AccountsTold.{AccountIsTold, OutputRuleIsKept, TellsAccount, TellsSilences}
use Rattle.audit_laws.specs.AlikeZones.{Account}
use Rattle.audit_laws.specs.DoneTold.{IsAmongDone}
use Rattle.audit_laws.specs.ZonesJudged.{account_of_run, account_of_text}
use Rattle.audit_laws.proofs.AlikeFaults.{outputs_on}
use Rattle.audit_laws.proofs.DoneTold.{done_told}
use Rattle.audit_laws.proofs.FacesTold.{face_told}
use Rattle.audit_laws.proofs.MomentsTold.{records_told}
use Rattle.audit_laws.proofs.SettingsTold.{face_is, settings_told}
use Rattle.audit_laws.proofs.ZonesJudged.{differ, ended_at}
use Rattle.audit_laws.proofs.ZonesTold.{from, setting_told, since, zones_told}

-- ---- overrides

abbrev overrides : ℕ → ℕ → ℕ → Done → Bool
overrides panel first x d = d.panel == panel && is_override d.operation && nat_le first d.tick && nat_lt d.tick x

record Overrides (panel first x : ℕ) (all : List Done) : Type 0 where
  place : ℕ
  item : Done
  is : slice_get all place ≡ Some item
  passes : overrides panel first x item ≡ true

or_true : (a b : Bool) → b ≡ true → (a || b) ≡ true
or_true true b t = refl
or_true false b t = t

or_first : (a b : Bool) → a ≡ true → (a || b) ≡ true
or_first true b t = refl
or_first false b t = cc

override_got : (panel first x : ℕ) (all : List Done) → override_done_in panel first x all ≡ true → Overrides panel first x all
override_got panel first x [] h = cc
override_got panel first x (d ∷ all) h = by (overrides panel first x d) refl h (λ e. override_got panel first x all e)
  where
    by : (b : Bool) → overrides panel first x d ≡ b → (b || override_done_in panel first x all) ≡ true
        → (override_done_in panel first x all ≡ true → Overrides panel first x all) → Overrides panel first x (d ∷ all)
    by true e h ih = record { place = 0; item = d; is = refl; passes = e }
    by false e h ih = let g = ih h in record { place = suc g.place; item = g.item; is = g.is; passes = g.passes }

override_at : (panel first x : ℕ) (all : List Done) (k : ℕ) (d : Done) → slice_get all k ≡ Some d → overrides panel first x d ≡ true
    → override_done_in panel first x all ≡ true
override_at panel first x [] k d is t = cc
override_at panel first x (e ∷ all) zero d is t =
    let same : e ≡ d = cc in or_first (overrides panel first x e) _ (ap (overrides panel first x) same ∙ t)
override_at panel first x (e ∷ all) (suc k) d is t = or_true (overrides panel first x e) _ (override_at panel first x all k d is t)

bool_same : (a b : Bool) → (a ≡ true → b ≡ true) → (b ≡ true → a ≡ true) → a ≡ b
bool_same true b f g = sym (f refl)
bool_same false true f g = g refl
bool_same false false f g = refl

overrides_alike : (panel first x : ℕ) (one other : List Done) → ((d : Done) → IsAmongDone d one → IsAmongDone d other)
    → ((d : Done) → IsAmongDone d other → IsAmongDone d one) → override_done_in panel first x one ≡ override_done_in panel first x other
overrides_alike panel first x one other to from =
    bool_same _ _
    (λ t. (let h = override_got panel first x one t in let g = to h.item (record { place = h.place; is = h.is }) in
    override_at panel first x other g.place h.item g.is h.passes))
    (λ t. (let h = override_got panel first x other t in let g = from h.item (record { place = h.place; is = h.is }) in
    override_at panel first x one g.place h.item g.is h.passes))

-- ---- settings of outputs and of panels

module _ (site : Site) (kept : Retained) (valid : IsValid site) where
  abbrev opened : List Face
  opened = faces_of site kept []

  output_told : (output : ℕ) (plan : Option Output) → slice_get site.outputs output ≡ plan
      → kept_output (retained_by opened) plan ≡ kept_output kept plan
  output_told output None is = refl
  output_told output (Some o) is =
      let n = output_numbers site valid output o is in
      let at = (output_at site valid output o is).panel in
      ap (λ mask. has_bit mask (o.number - 1))
      (get_or-map-range_with_len (λ q. (face_at opened q).outputs_off) 1 8 (o.panel - 1) o.panel 0 (omega (arith, n.0, n.1)) (omega (arith, n.0))
      ∙ ap (λ (f : Face). f.outputs_off) (face_is site kept valid o.panel at.0 at.1))
      ∙ output_bit site valid output o is (λ x. at_opening site kept (OutputOff x))
      ∙ ap (kept_output kept) is

  delays_told : (panel : ℕ) → panel ≤ site.panels
      → at_opening site (retained_by opened) (DelaysOff panel) ≡ at_opening site kept (DelaysOff panel)
  delays_told panel few =
      let most = valid.forms.panels in
      let place : panel - 1 + 1 - 1 ≡ panel - 1 = omega arith in
      has_bit-mask 8 (λ k. (face_at opened (k + 1)).delays_off) (panel - 1) (omega (arith, few, most.0, most.1))
      ∙ ap (λ (f : Face). f.delays_off) (face_is site kept valid (panel - 1 + 1) (omega arith) (omega (arith, few, most.0)))
      ∙ ap (has_bit kept.delays_off) place

module _ (site : Site) (kept : Retained) (ticks : List TickBlock) (valid : IsValid site) (ordered : AreOrdered site.panels ticks)
    (silences : TellsSilences site kept ticks) (tick x : ℕ) (by : tick ≤ length ticks) (within : x ≤ tick) where
  abbrev text : Account
  text = account_of_text site (as_recorded ticks) (timeline_of site kept (moments ticks))

  abbrev by_then : List Done
  by_then = (operations site kept (up_to tick (moments ticks))).done

  overrides_told : (panel first : ℕ) → override_done_in panel first x text.done ≡ override_done_in panel first x by_then
  overrides_told panel first =
      overrides_alike panel first x text.done (operations site kept (moments ticks)).done (λ d. (done_told site kept ticks d ordered).0)
      (λ d. (done_told site kept ticks d ordered).1)
      ∙ ap (override_done_in panel first x) (since site kept ticks valid ordered tick x by within).is
      ∙ override-later panel first x (since site kept ticks valid ordered tick x by within).new by_then
      (from site kept ticks valid ordered tick x by within)

  silences_told : (panel : ℕ) → silence_before panel x text.done ≡ silence_before panel x by_then
  silences_told panel =
      silences.each panel x
      ∙ ap (silence_before panel x) (since site kept ticks valid ordered tick x by within).is
      ∙ silence-later panel x (since site kept ticks valid ordered tick x by within).new by_then
      (from site kept ticks valid ordered tick x by within)

pub account_told : AccountIsTold
account_told site kept ticks valid ordered silences =
    record {
      each =
          λ tick by. record {
            zones = (zones_told site kept ticks valid ordered).each tick by;
            points_off = λ point x within. setting_told site kept ticks valid ordered tick x by within (PointOff point)
                ((settings_told site kept valid).points point);
            zones_off = λ zone x within. setting_told site kept ticks valid ordered tick x by within (ZoneOff zone)
                ((settings_told site kept valid).zones zone);
            outputs_off = λ output x within. setting_told site kept ticks valid ordered tick x by within (OutputOff output)
                (output_told site kept valid output (slice_get site.outputs output) refl);
            delays_off = λ panel x few within. setting_told site kept ticks valid ordered tick x by within (DelaysOff panel)
                (delays_told site kept valid panel few);
            overrides = λ panel first x within. overrides_told site kept ticks valid ordered silences tick x by within panel first;
            silences = λ panel x within. silences_told site kept ticks valid ordered silences tick x by within panel;
          };
    }

-- ---- the rule on outputs that are due

module _ (site : Site) (kept : Retained) (ticks : List TickBlock) (valid : IsValid site) (ordered : AreOrdered site.panels ticks)
    (tells : TellsAccount site kept ticks) (tick : ℕ) (by : tick ≤ length ticks) (place : ℕ) (plan : Output)
    (is : slice_get site.outputs place ≡ Some plan) where
  abbrev told_by : Account
  told_by = account_of_text site (as_recorded ticks) (timeline_of site kept (moments ticks))

  -- the text shows the output on exactly where it is by its own account
  pub on_is : text_tells_output (timeline_of site kept (moments ticks)) plan tick
      ≡ is_on site (facts_of site told_by.kept told_by.done) told_by.kept told_by.done place (up_to tick (moments (as_recorded ticks)))
  on_is =
      let long = tick_moments ticks in
      let stamp : tick_of (up_to tick (moments ticks)) ≡ tick = up_to_tick tick (moments ticks) (omega (arith, by, long)) in
      let done = (operations site kept (up_to tick (moments ticks))).done in
      ap (λ (face : Face). shows face Outputs plan.number) (face_told site kept ticks tick plan.panel by (output_at site valid place plan is).panel)
      ∙ output_bit site valid place plan is (λ o. is_on site (facts_of site kept done) kept done o (up_to tick (moments ticks)))
      ∙ sym
      (ap (is_on site (facts_of site told_by.kept told_by.done) told_by.kept told_by.done place) (records_told ticks tick)
      ∙ outputs_on site told_by (account_of_run site kept (up_to tick (moments ticks))) tick (tells.each tick by) valid place
      (up_to tick (moments ticks)) (omega (arith, stamp)))

pub output_rule_kept : OutputRuleIsKept
output_rule_kept site kept ticks breach valid ordered tells by b =
    let said = account_of_text site (as_recorded ticks) (timeline_of site kept (moments ticks)) in
    let same = are_the_same site.panels ticks in
    let long = same.0 in
    let ends = ended_at site.panels (as_recorded ticks) breach.tick (same.1.1 ordered) (omega (arith, by, long)) in
    differ (text_tells_output (timeline_of site kept (moments ticks)) b.plan breach.tick)
    (on_is site kept ticks valid ordered tells breach.tick by b.place b.plan b.names.plan_is
    ∙ due_output_on site said.kept said.done (up_to breach.tick (moments (as_recorded ticks))) b.place valid ends.0 ends.1 b.due) b.off
