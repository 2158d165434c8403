use Rattle.std.proofs.Common.{◌∙◌, arith, refl}
use Rattle.face_text.specs.declared.group.Group.TheVariants.{Zones}
use Rattle.face_text.specs.Changes.{group_text}
use Rattle.face_text.proofs.Holding.{moves_next, puts_broken}
use Rattle.face_text.proofs.Listing.{item_front, item_next}
use Rattle.face_text.proofs.Pages.{one_of}
use Rattle.face_text.proofs.face_pair.FacePair.push_each.Goals as goal

pub push_group-requires : goal.push_group-requires
push_group-requires g c = record {
  place = one_of c.args.groups.now c.loop-group.group-index (Zones 0) c.requires.places c.loop-group-test.true;
  passed = c.requires.passed;
}

pub returns-in_err-push_group-clause-text : goal.returns-in_err-push_group-clause-text
returns-in_err-push_group-clause-text g c =
    let text = group_text c.args.self.now.site.now c.args.self.now.before.now c.args.self.now.after.now in
    let k = c.loop-group.group-index in
    let groups = c.args.groups.now in
    puts_broken c.args.held.now c.loop-group.held c.push_group.new.held _ _ _ _ _ _ _ c.from_residual.result c.from_residual.ensures.0
    (item_front text groups groups k (Zones 0) _ refl c.loop-group-test.true refl) c.loop-group.invariant.text
    c.in_err-push_group.ensures.text.err

pub loop-group-preserved : goal.loop-group-preserved
loop-group-preserved g c =
    let text = group_text c.args.self.now.site.now c.args.self.now.before.now c.args.self.now.after.now in
    let k = c.loop-group.group-index in
    let groups = c.args.groups.now in
    let before = c.loop-group.invariant in
    let call = c.push_group.ensures in
    record {
      text = moves_next c.args.held.now c.loop-group.held c.push_group.new.held _ _ _ _ _ _
          (item_next text groups groups k (Zones 0) _ refl c.loop-group-test.true refl) before.text c.in_ok-push_group.ensures.text.ok;
      counted = omega (arith, before.counted, call.cause.later);
      left = call.left ∙ before.left;
      reads = call.reads ∙ before.reads;
    }
