use Rattle.std.proofs.Common.{◌∙◌, ◌+◌, refl, sym, ap, subst, arith}
use Rattle.std.proofs.Math.ListN.{length-set}
use Rattle.std.proofs.lemmas.Option.{slice_get_read}
use Rattle.tick_units.specs.declared.tick.Tick.{Tick}
use Rattle.site_types.specs.declared.site.Site.{Site}
use Rattle.operation_desk.specs.declared.desk.Desk.{Desk}
use Rattle.operation_desk.specs.Requests.{with_done}
use Rattle.output_drive.specs.Changes.{BeginsTickAfter}
use Rattle.panel_rules.specs.Moments.{tick_of}
use Rattle.panel_rules.specs.Run.{facts_of}
use Rattle.panel_core.proofs.Begun.{all_begun, begun_more, begun_none, outputs_begun}
use Rattle.panel_core.proofs.system.System.begin_outputs.Goals as goal

pub loop-before-init : goal.loop-before-init
loop-before-init c = record {
  site = refl;
  settings = refl;
  same = record { desk = refl; tick = refl; counts = refl; plan = refl; ring = refl };
  count = refl;
  partly = λ site kept before h desk. begun_none site kept before _ c.args.self.now h;
}

pub loop-before-preserved : goal.loop-before-preserved
loop-before-preserved c =
    let inv = c.loop-before.invariant in
    let test = c.loop-before-test.true in
    let items = c.loop-before.self.panels.items in
    let n = c.loop-before.before in
    record {
      site = inv.site;
      settings = inv.settings;
      same = record { desk = inv.same.desk; tick = inv.same.tick; counts = inv.same.counts; plan = inv.same.plan; ring = inv.same.ring };
      count = length-set items n _ ∙ inv.count;
      partly = λ site kept before h desk. (
          let panels = ap (λ (s : Site). s.panels) h.same in
          let at =
          slice_get_read items site.panels n c.index_mut-parts.result.now (sym (inv.count ∙ h.count)) (omega (arith, test, panels))
          c.index_mut-parts.ensures.value in
          let now = ap (λ (t : Tick). t.0) inv.same.tick ∙ h.tick in
          begun_more site kept before _ n items _ (inv.partly site kept before h desk)
          (outputs_begun site kept before (n + 1) c.args.self.now.desk c.done.result.now c.index_mut-parts.result.now c.begin.new.self desk
          (c.done.ensures ∙ ap (λ (d : Desk). d.done.items) inv.same.desk)
          ((inv.partly site kept before h desk).rest n c.index_mut-parts.result.now at (omega arith))
          (λ older stands earlier.
          subst (λ t. BeginsTickAfter c.index_mut-parts.result.now.drive (n + 1) t c.done.result.now c.begin.new.self) now c.begin.ensures site
          (facts_of site kept (with_done (tick_of before) c.done.result.now older)) kept older before stands earlier refl)));
    }

pub returns-clause-begun : goal.returns-clause-begun
returns-clause-begun c site kept before h desk run =
    let inv = c.loop-before.invariant in
    let test = c.loop-before-test.false in
    let panels = ap (λ (s : Site). s.panels) h.same in
    all_begun site kept before c.args.self.now c.loop-before.self c.loop-before.before h inv.site inv.same.tick inv.count inv.settings
    (inv.partly site kept before h desk) (omega (arith, test, panels))
