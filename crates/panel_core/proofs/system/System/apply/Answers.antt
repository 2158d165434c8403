use Rattle.std.proofs.Common.{◌∙◌, ◌+◌, [], ◌∷◌, refl, sym, ap, subst, arith}
use Rattle.std.proofs.Math.ListN.{length-set}
use Rattle.std.proofs.lemmas.Option.{slice_get_read}
use Rattle.tick_units.specs.declared.tick.Tick.{Tick}
use Rattle.site_types.specs.declared.retained.Retained.{Retained}
use Rattle.site_types.specs.declared.site.Site.{Site}
use Rattle.site_types.specs.Changes.{IsSized, operation_change}
use Rattle.operation_desk.specs.Replies.{AreInForce}
use Rattle.operation_desk.specs.Requests.{done_from}
use Rattle.hold_calls.specs.Told.{told_in_ring}
use Rattle.panel_rules.specs.Moments.{tick_of}
use Rattle.settings_shown.specs.Shown.{HasNoStrangeBits}
use Rattle.panel_parts.specs.Applied.{MayBeApplied}
use Rattle.panel_parts.proofs.Settings.{can_change, own_changed, settings_changed, settings_left, sized_changed}
use Rattle.panel_core.specs.Stands.{StandsInRing}
use Rattle.panel_core.proofs.Later.{ring_agrees}
use Rattle.panel_core.proofs.Begun.{applied_more, partly_more, partly_none}
use Rattle.panel_core.proofs.system.System.apply.Goals as goal

pub loop-before-init : goal.loop-before-init
loop-before-init c =
    record {
      site = refl;
      tick = refl;
      desk = refl;
      counts = refl;
      plan = refl;
      ring = refl;
      settings = refl;
      count = refl;
      partly = λ site kept before done h may. partly_none site kept before done (done_from c.args.self.now.tick.0 c.args.done.now) c.args.self.now h;
    }

pub apply-requires : goal.apply-requires
apply-requires c =
    let r = c.requires in
    let inv = c.loop-before.invariant in
    let test = c.loop-before-test.true in
    let panels = ap (λ (s : Site). s.panels) r.has.same in
    let at =
    slice_get_read c.loop-before.self.panels.items r.site.panels c.loop-before.before c.index_mut-parts.result.now (sym (inv.count ∙ r.has.count))
    (omega (arith, test, panels)) c.index_mut-parts.ensures.value in
    record {
      site = r.site;
      kept = r.kept;
      done = r.done;
      told = told_in_ring r.site r.kept r.done (c.loop-before.before + 1);
      before = r.before;
      stands = (inv.partly r.site r.kept r.before r.done r.has r.may).rest c.loop-before.before c.index_mut-parts.result.now at (omega arith);
      may = subst (λ (t : Tick). MayBeApplied r.site r.before r.done (done_from t.0 c.args.done.now)) (sym inv.tick) r.may;
    }

pub loop-before-preserved : goal.loop-before-preserved
loop-before-preserved c =
    let r = c.requires in
    let inv = c.loop-before.invariant in
    let test = c.loop-before-test.true in
    let panels = ap (λ (s : Site). s.panels) r.has.same in
    let items = c.loop-before.self.panels.items in
    let n = c.loop-before.before in
    let at =
    slice_get_read items r.site.panels n c.index_mut-parts.result.now (sym (inv.count ∙ r.has.count)) (omega (arith, test, panels))
    c.index_mut-parts.ensures.value in
    record {
      site = inv.site;
      tick = inv.tick;
      desk = inv.desk;
      counts = inv.counts;
      plan = inv.plan;
      ring = inv.ring;
      settings = inv.settings;
      count = length-set items n c.apply.new.self ∙ inv.count;
      partly = λ site kept before done h may.
          partly_more site kept before done (done_from c.args.self.now.tick.0 c.args.done.now) n items c.apply.new.self (inv.partly site kept before done h may)
          (subst (λ (t : Tick). StandsInRing site kept (done_from t.0 c.args.done.now ∷ done) (n + 1) before c.apply.new.self) inv.tick
          (c.apply.ensures site kept done (told_in_ring site kept done (n + 1))
          (told_in_ring site kept (done_from c.loop-before.self.tick.0 c.args.done.now ∷ done) (n + 1)) before
          ((inv.partly site kept before done h may).rest n c.index_mut-parts.result.now at (omega arith))
          (subst (λ (t : Tick). MayBeApplied site before done (done_from t.0 c.args.done.now)) (sym inv.tick) may)
          (ring_agrees site kept done (done_from c.loop-before.self.tick.0 c.args.done.now ∷ []) before c.loop-before.self.tick.0 (omega arith, tt)
          (let now = may.now in let same = ap (λ (t : Tick). t.0) inv.tick in omega (arith, now, same)) (n + 1))));
    }

pub apply-requires-in-Some : goal.apply-requires-in-Some
apply-requires-in-Some c =
    let r = c.requires in
    let inv = c.loop-before.invariant in
    can_change r.site r.kept r.before r.done (done_from c.args.self.now.tick.0 c.args.done.now) r.has.valid c.args.self.now.settings r.has.sized r.may
    r.has.settings c.in-Some.change
    (ap (λ s. operation_change s c.args.done.now.panel c.args.done.now.operation) (sym (inv.site ∙ r.has.same)) ∙ sym c.change_of.ensures ∙ c.in-Some.is)

pub returns-in-Some-clause-applied : goal.returns-in-Some-clause-applied
returns-in-Some-clause-applied c site kept before done h may =
    let inv = c.loop-before.invariant in
    let d = done_from c.args.self.now.tick.0 c.args.done.now in
    let test = c.loop-before-test.false in
    let panels = ap (λ (s : Site). s.panels) h.same in
    let is = ap (λ s. operation_change s c.args.done.now.panel c.args.done.now.operation) (sym (inv.site ∙ h.same)) ∙ sym c.change_of.ensures ∙ c.in-Some.is in
    let kept_so = subst (λ (s : Retained). AreInForce site kept (tick_of before + 1) done s) (sym inv.settings) h.settings in
    let sized = subst IsSized (sym inv.settings) h.sized in
    applied_more site kept before done d c.args.self.now _ c.loop-before.before h inv.site inv.tick inv.count (inv.partly site kept before done h may)
    (omega (arith, test, panels))
    (subst (λ (s : Retained). AreInForce site kept (tick_of before + 1) (d ∷ done) s) (sym c.apply-in-Some.ensures)
    (settings_changed site kept before done d h.valid c.loop-before.self.settings sized may kept_so c.in-Some.change is))
    (subst IsSized (sym c.apply-in-Some.ensures)
    (sized_changed site kept before done d h.valid c.loop-before.self.settings sized may kept_so c.in-Some.change is))
    (subst (HasNoStrangeBits site) (sym c.apply-in-Some.ensures)
    (own_changed site kept before done d h.valid c.loop-before.self.settings sized may kept_so c.in-Some.change is
    (subst (HasNoStrangeBits site) (sym inv.settings) h.own)))

pub returns-in_default-clause-applied : goal.returns-in_default-clause-applied
returns-in_default-clause-applied c site kept before done h may =
    let inv = c.loop-before.invariant in
    let d = done_from c.args.self.now.tick.0 c.args.done.now in
    let test = c.loop-before-test.false in
    let panels = ap (λ (s : Site). s.panels) h.same in
    let none = ap (λ s. operation_change s c.args.done.now.panel c.args.done.now.operation) (sym (inv.site ∙ h.same)) ∙ sym c.change_of.ensures ∙ c.in_default.is in
    let kept_so = subst (λ (s : Retained). AreInForce site kept (tick_of before + 1) done s) (sym inv.settings) h.settings in
    let sized = subst IsSized (sym inv.settings) h.sized in
    applied_more site kept before done d c.args.self.now _ c.loop-before.before h inv.site inv.tick inv.count (inv.partly site kept before done h may)
    (omega (arith, test, panels))
    (settings_left site kept before done d h.valid c.loop-before.self.settings sized may kept_so none)
    sized
    (subst (HasNoStrangeBits site) (sym inv.settings) h.own)
