use Rattle.std.proofs.Common.{◌≡◌, ◌∙◌, ◌<◌, ◌+◌, false, ap, arith, drop, get_or, sym, subst, refl, take}
use Rattle.std.specs.List.{flat_map}
use Rattle.std.proofs.lemmas.List.{take_all}
use Rattle.face_text.specs.declared.group.Group.TheVariants.{Zones}
use Rattle.face_text.specs.Lists.{items_in, listed}
use Rattle.face_text.specs.Slots.{HasPlace, page}
use Rattle.face_text.proofs.Holding.{moves_next, puts_all, puts_broken}
use Rattle.face_text.proofs.ListItems.{next_begun, next_listed, part_listed}
use Rattle.face_text.proofs.Listing.{item_front, item_next}
use Rattle.face_text.proofs.Pages.{page_has_places, page_length}
use Rattle.face_text.proofs.face_items.FaceItems.push_all.Goals as goal

pub push_group-requires : goal.push_group-requires
push_group-requires g c =
    subst (λ groups. HasPlace (get_or groups c.loop-group.group-index (Zones 0))) (sym c.page-page.ensures)
    (page_has_places c.loop-group.group-index (Zones 0) c.loop-group-test.true)

pub returns-in_err-push_group-clause-text : goal.returns-in_err-push_group-clause-text
returns-in_err-push_group-clause-text g c =
    let items = items_in c.args.self.now.site.now c.args.self.now.face.now c.args.self.now.list in
    let k = c.loop-group.group-index in
    let within = subst (λ n. k < n) (sym page_length) c.loop-group-test.true in
    puts_broken c.args.held.now c.loop-group.held c.push_group.new.held _ _ _ _ _ _ _ c.from_residual.result c.from_residual.ensures.0
    (part_listed false c.loop-group.begun _ (flat_map items (take k page)) (items (get_or c.page-page.result.now k (Zones 0)))
    (flat_map items (drop (k + 1) page))
    (item_front items page c.page-page.result.now k (Zones 0) _ c.page-page.ensures within refl) c.loop-group.invariant.begun)
    c.loop-group.invariant.text c.in_err-push_group.ensures.text.err

pub loop-group-preserved : goal.loop-group-preserved
loop-group-preserved g c =
    let items = items_in c.args.self.now.site.now c.args.self.now.face.now c.args.self.now.list in
    let k = c.loop-group.group-index in
    let within = subst (λ n. k < n) (sym page_length) c.loop-group-test.true in
    let more = item_next items page c.page-page.result.now k (Zones 0) _ c.page-page.ensures within refl in
    let part = items (get_or c.page-page.result.now k (Zones 0)) in
    let before = c.loop-group.invariant in
    let call = c.push_group.ensures in
    record {
      text = moves_next c.args.held.now c.loop-group.held c.push_group.new.held _ _ _ _ _ _
          (next_listed false c.loop-group.begun _ (flat_map items (take k page)) part more before.begun) before.text
          c.in_ok-push_group.ensures.text.ok;
      begun =
          next_begun false c.loop-group.begun c.push_group.new.begun _ (flat_map items (take k page)) part more before.begun
          c.in_ok-push_group.ensures.begun;
      counted = omega (arith, before.counted, call.cause.later);
      left = call.left ∙ before.left;
      reads = call.reads ∙ before.reads;
    }

pub returns-clause-text : goal.returns-clause-text
returns-clause-text g c =
    let items = items_in c.args.self.now.site.now c.args.self.now.face.now c.args.self.now.list in
    let k = c.loop-group.group-index in
    let all : take k page ≡ page = take_all k page (omega (arith, page_length, c.loop-group-test.false)) in
    puts_all c.args.held.now c.loop-group.held _ _ _ _ (ap (λ groups. listed false (flat_map items groups)) (sym all)) c.loop-group.invariant.text
