use Rattle.std.proofs.Common.{◌≡◌, ◌∙◌, ◌<◌, Bool, Some, ap, length, subst, sym}
use Rattle.std.specs.Prelude.{slice_get}
use Rattle.std.proofs.lemmas.Option.{slice_get-get_or}
use Rattle.site_types.specs.declared.site.Site.{Site}
use Rattle.site_types.specs.Changes.{nothing_retained}
use Rattle.face_text.specs.declared.face.Face.{Face}
use Rattle.panel_laws.specs.FaceLaws.{shows_zone}
use Rattle.panel_drill.specs.Counting.{shows_own_alarm}
use Rattle.panel_drill.proofs.Counts.{count_more, counted, few_more}
use Rattle.panel_drill.proofs.counting.zones_on.Goals.{then-has_bit_32, else-has_bit_32}
use Rattle.panel_drill.proofs.counting.zones_on.Goals as goal

pub loop-zone-preserved : goal.loop-zone-preserved
loop-zone-preserved c =
    let k = c.loop-zone.zone-index in
    let old = c.loop-zone.count in
    let new = c.if-has_bit_32.count in
    let here = c.has_bit_32.result in
    let item = c.zone-item.result in
    let items = c.as_slice-zone-items.result.now in
    let chosen : new ≡ counted here old = elim c.if-has_bit_32.branch [
      | then-has_bit_32 w ↦ w.count-is ∙ sym (ap (λ (b : Bool). counted b old) w.if-has_bit_32.true)
      | else-has_bit_32 w ↦ w.count-is ∙ sym (ap (λ (b : Bool). counted b old) w.if-has_bit_32.false)
    ] in
    let at : slice_get items k ≡ Some item = slice_get-get_or items k item c.loop-zone-test.true ∙ ap Some (sym c.zone-item.is) in
    record {
      few = few_more here old new k c.loop-zone.invariant.few chosen;
      counted = λ site before stands run.
          let all = c.as_slice-zone-items.ensures ∙ ap (λ (s : Site). s.zones) (c.site.ensures site nothing_retained before stands) in
          let within = subst (λ xs. k < length xs) all c.loop-zone-test.true in
          let there = ap (λ xs. slice_get xs k) (sym all) ∙ at in
          let shown = sym c.has_bit_32.ensures in
          let told = sym (ap (λ (face : Face). shows_zone face item) (c.face-face.ensures.shown site nothing_retained before stands run)) ∙ shown in
          count_more (shows_own_alarm site before) site.zones k item here old new within there told (c.loop-zone.invariant.counted site before stands run) chosen;
    }
