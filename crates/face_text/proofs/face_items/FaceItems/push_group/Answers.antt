use Rattle.std.proofs.Common.{◌≡◌, ◌∙◌, ◌+◌, ◌++◌, ◌<◌, [], ap, arith, if◌then◌else◌, subst, sym}
use Rattle.face_text.specs.Lists.{begun_after, group_items, item_of, listed}
use Rattle.face_text.specs.Slots.{last_of}
use Rattle.face_text.proofs.Holding.{moves_next, puts_broken, puts_nothing}
use Rattle.face_text.proofs.ListItems.{blank_items, next_begun, next_listed, part_listed}
use Rattle.face_text.proofs.Listing.{range_front, range_more}
use Rattle.face_text.proofs.face_items.FaceItems.push_group.Goals as goal

pub returns-then-is_blank-clause-text : goal.returns-then-is_blank-clause-text
returns-then-is_blank-clause-text g c =
    let blank = blank_items c.args.self.now.site.now c.args.self.now.face.now c.args.self.now.list c.args.group (c.is_blank.ensures c.if-is_blank.true) in
    puts_nothing c.args.held.now _ _ (ap (listed c.args.begun.now) blank)

pub returns-then-is_blank-clause-begun : goal.returns-then-is_blank-clause-begun
returns-then-is_blank-clause-begun g c =
    let blank = blank_items c.args.self.now.site.now c.args.self.now.face.now c.args.self.now.list c.args.group (c.is_blank.ensures c.if-is_blank.true) in
    sym (ap (begun_after c.args.begun.now) blank)

pub returns-in_err-push_item-clause-text : goal.returns-in_err-push_item-clause-text
returns-in_err-push_item-clause-text g c =
    let item = item_of c.args.self.now.site.now c.args.self.now.face.now c.args.group in
    let place = c.loop-place.place in
    let within = subst (λ n. place < n) c.last_number-place-end.ensures c.loop-place-test.true in
    let front = range_front item (last_of c.args.group) (place + 1) (omega (arith, within)) in
    let all = group_items c.args.self.now.site.now c.args.self.now.face.now c.args.group (last_of c.args.group) in
    let in_list = ap (λ b. listed c.args.begun.now (if b then all else [])) (sym c.if-not-is_in.ensures) in
    puts_broken c.args.held.now c.loop-place.held c.push_item.new.held _ _ _ _ _ _ _ c.from_residual.result c.from_residual.ensures.0
    (in_list ∙ part_listed c.args.begun.now c.loop-place.begun _ (group_items c.args.self.now.site.now c.args.self.now.face.now c.args.group place) (item (place + 1)) front.0
    (front.1 ∙ ap (λ xs. xs ++ front.0) (range_more item place)) c.loop-place.invariant.begun)
    c.loop-place.invariant.text c.in_err-push_item.ensures.text.err

pub loop-place-preserved : goal.loop-place-preserved
loop-place-preserved g c =
    let item = item_of c.args.self.now.site.now c.args.self.now.face.now c.args.group in
    let place = c.loop-place.place in
    let so_far = group_items c.args.self.now.site.now c.args.self.now.face.now c.args.group place in
    let before = c.loop-place.invariant in
    let call = c.push_item.ensures in
    record {
      text = moves_next c.args.held.now c.loop-place.held c.push_item.new.held _ _ _ _ _ _
          (next_listed c.args.begun.now c.loop-place.begun _ so_far (item (place + 1)) (range_more item place) before.begun) before.text
          c.in_ok-push_item.ensures.text.ok;
      begun = next_begun c.args.begun.now c.loop-place.begun c.push_item.new.begun _ so_far (item (place + 1)) (range_more item place) before.begun
          c.in_ok-push_item.ensures.begun;
      passed = λ n low. call.passed n (omega (arith, low));
      counted = omega (arith, before.counted, call.cause.later);
      left = call.left ∙ before.left;
      reads = call.reads ∙ before.reads;
    }

pub returns-clause-begun : goal.returns-clause-begun
returns-clause-begun g c =
    let items = group_items c.args.self.now.site.now c.args.self.now.face.now c.args.group in
    let done : c.loop-place.place ≡ last_of c.args.group =
    omega (arith, c.loop-place-test.false, c.loop-place.auto.place-end, c.last_number-place-end.ensures) in
    c.loop-place.invariant.begun ∙ ap (λ n. begun_after c.args.begun.now (items n)) done
    ∙ ap (λ b. begun_after c.args.begun.now (if b then items (last_of c.args.group) else [])) c.if-not-is_in.ensures
