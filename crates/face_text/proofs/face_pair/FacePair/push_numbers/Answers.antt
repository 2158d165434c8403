use Rattle.std.proofs.Common.{◌≡◌, ◌∙◌, ◌≤◌, ◌-◌, min, refl, arith, ap, subst, sym}
use Rattle.face_text.specs.Changes.{numbers_text}
use Rattle.face_text.specs.Slots.{last_of, shows}
use Rattle.face_text.proofs.Holding.{moves_as, moves_next, moves_none, puts_all, puts_broken}
use Rattle.face_text.proofs.Listing.{numbers_begin, numbers_front, numbers_step}
use Rattle.face_text.proofs.Marks.{marked_other, unmarked_same}
use Rattle.face_text.proofs.Pages.{last_small}
use Rattle.face_text.proofs.face_pair.FacePair.push_numbers.Goals as goal

pub loop-next-init : goal.loop-next-init
loop-next-init g c =
    let pair = c.args.self.now in
    let group = c.args.group in
    let next = c.next_number-next.result in
    let call = c.next_number-next.ensures in
    let same = unmarked_same group (shows pair.before.now group) (shows pair.after.now group) c.masks_of.result c.masks_of-2.result
    c.changed-marks.result c.changed-marks.ensures c.masks_of.ensures c.masks_of-2.ensures in
    let other = marked_other group (shows pair.before.now group) (shows pair.after.now group) c.masks_of.result c.masks_of-2.result
    c.changed-marks.result c.changed-marks.ensures c.masks_of.ensures c.masks_of-2.ensures in
    record {
      within = call.within;
      text = moves_as c.args.held.now c.args.held.now _ _ _ _
          (sym (numbers_begin pair.site.now pair.before.now pair.after.now group next (last_of group) call.within.0
          (λ n low less within. same n low within (call.none n low less)))) (moves_none c.args.held.now _);
      changed = λ high. other next call.within.0 high (call.some (omega (arith, high, last_small group)));
      passed = λ n low. c.start-passed.ensures pair.site.now c.requires.passed n (omega (arith, low, call.within.0));
      counted = omega arith;
      left = refl;
      reads = refl;
    }

pub returns-in_err-push_number-clause-text : goal.returns-in_err-push_number-clause-text
returns-in_err-push_number-clause-text g c =
    let pair = c.args.self.now in
    let next = c.loop-next.next in
    let high = subst (λ n. next ≤ n) c.last_number-last.ensures c.loop-next-test.true in
    let front = numbers_front pair.site.now pair.before.now pair.after.now c.args.group next (last_of c.args.group) c.loop-next.invariant.within.0 high in
    puts_broken c.args.held.now c.loop-next.held c.push_number.new.held _ _ _ _ _ front.0 _ c.from_residual.result c.from_residual.ensures.0
    front.1 c.loop-next.invariant.text c.in_err-push_number.ensures.text.err

pub loop-next-preserved : goal.loop-next-preserved
loop-next-preserved g c =
    let pair = c.args.self.now in
    let group = c.args.group in
    let next = c.loop-next.next in
    let further = c.next_number-next-in-loop-next.result in
    let before = c.loop-next.invariant in
    let call = c.push_number.ensures in
    let found = c.next_number-next-in-loop-next.ensures in
    let high = subst (λ n. next ≤ n) c.last_number-last.ensures c.loop-next-test.true in
    let same = unmarked_same group (shows pair.before.now group) (shows pair.after.now group) c.masks_of.result c.masks_of-2.result
    c.changed-marks.result c.changed-marks.ensures c.masks_of.ensures c.masks_of-2.ensures in
    let other = marked_other group (shows pair.before.now group) (shows pair.after.now group) c.masks_of.result c.masks_of-2.result
    c.changed-marks.result c.changed-marks.ensures c.masks_of.ensures c.masks_of-2.ensures in
    let low : 1 ≤ further = omega (arith, found.within.0) in
    record {
      within = (low, found.within.1);
      text = moves_next c.args.held.now c.loop-next.held c.push_number.new.held _ _ _ _ _ _
          (numbers_step pair.site.now pair.before.now pair.after.now group next further (last_of group) before.within.0 high (omega (arith, found.within.0))
          (λ n past less within. same n (omega (arith, past)) within (found.none n (omega (arith, past)) less))) before.text
          c.in_ok-push_number.ensures.text.ok;
      changed = λ up. other further low up (found.some (omega (arith, up, last_small group)));
      passed = λ n least. call.passed n (omega (arith, least, found.within.0));
      counted = omega (arith, before.counted, call.cause.later);
      left = call.left ∙ before.left;
      reads = call.reads ∙ before.reads;
    }

pub returns-clause-text : goal.returns-clause-text
returns-clause-text g c =
    let pair = c.args.self.now in
    let last = last_of c.args.group in
    let past = c.loop-next-test.false in
    let whole : min (c.loop-next.next - 1) last ≡ last = omega (arith, past, c.last_number-last.ensures) in
    puts_all c.args.held.now c.loop-next.held _ _ _ _ (ap (numbers_text pair.site.now pair.before.now pair.after.now c.args.group) (sym whole))
    c.loop-next.invariant.text
