use Rattle.std.proofs.Common.{◌+◌, ◌-◌, sym, ◌∙◌, ap, subst, arith}
use Rattle.answer_lanes.specs.Points.{answer_at, finding_at}
use Rattle.answer_lanes.specs.Runs.{items_of}
use Rattle.answer_lanes.proofs.Moving.{length_run}
use Rattle.tick_units.specs.Lane.{HasRoom}
use Rattle.coincidence.specs.Changes.{PutsFindings}
use Rattle.coincidence.specs.PlainZones.{KnowsZone}
use Rattle.coincidence.proofs.Passed.{all_found, all_taken, begun, can_reached, found_reached, passed, place_is, room_reached, told}
use Rattle.coincidence.proofs.Turned.{held_behind}
use Rattle.coincidence.proofs.decide.Decide.take_changing.Goals as goal

pub loop-left-init : goal.loop-left-init
loop-left-init c = record {
  passes = begun c.args.self.now c.args.run.now c.args.findings.now c.plain_group.result c.args.changing c.plain_group.ensures.plain
      c.requires.tells;
  fits = c.ranges.changing.fits;
  known = tt;
}

pub take_near-finding-requires-clause-can : goal.take_near-finding-requires-clause-can
take_near-finding-requires-clause-can c =
    let low = c.lowest_bit-bit.ensures in
    can_reached c.loop-left.invariant.passes c.lowest_bit-bit.result low.set low.none c.requires.can.may c.item.result c.item.ensures

pub take_near-finding-requires-clause-known : goal.take_near-finding-requires-clause-known
take_near-finding-requires-clause-known c =
    subst (λ a. KnowsZone a.stamp.0 c.loop-left.self c.loop-left.known) (sym c.item.ensures) c.loop-left.invariant.known

pub gather_at-requires-clause-own : goal.gather_at-requires-clause-own
gather_at-requires-clause-own c =
    let low = c.lowest_bit-bit.ensures in
    found_reached c.loop-left.invariant.passes c.lowest_bit-bit.result low.set low.none c.requires.can.may c.item.result c.item.ensures
    c.take_near-finding.result c.take_near-finding.ensures.found

pub gather_at-requires-clause-room : goal.gather_at-requires-clause-room
gather_at-requires-clause-room c =
    let low = c.lowest_bit-bit.ensures in
    room_reached c.loop-left.invariant.passes c.lowest_bit-bit.result low.set low.none c.requires.can.may c.requires.can.room

pub loop-left-preserved : goal.loop-left-preserved
loop-left-preserved c =
    let h = c.loop-left.invariant.passes in
    let bit = c.lowest_bit-bit.result in
    let low = c.lowest_bit-bit.ensures in
    let g = c.gather_at.ensures in
    let at = place_is h bit low.set low.none in
    record {
      passes = passed h bit low.set low.none c.requires.within c.item.result c.item.ensures c.take_near-finding.new.self c.take_near-finding.ensures.taken
          c.take_near-finding.ensures.others c.take_near-finding.result c.take_near-finding.ensures.found c.gather_at.new.found c.gather_at.new.findings g.put
          (g.place ∙ ap (λ n. n + 1) at) (λ k above. g.plain k (omega (arith, at, above))) c.with_bit_8-left.result c.with_bit_8-left.type_inv
          c.with_bit_8-left.ensures.this c.with_bit_8-left.ensures.others;
      fits = c.with_bit_8-left.type_inv;
      known = subst (λ a. KnowsZone a.stamp.0 c.take_near-finding.new.self c.take_near-finding.new.known) c.item.ensures c.take_near-finding.ensures.known;
    }

pub put_eight-requires-clause-room : goal.put_eight-requires-clause-room
put_eight-requires-clause-room c =
    let run = c.args.run.now in
    let l = c.loop-left in
    let count = length_run answer_at run in
    let end = run.taken + run.count in
    let held = told c.args.self.now l.self run c.args.findings.now l.findings l.found.first l.found.taken end in
    subst (HasRoom l.findings) (length_run finding_at (record { first = l.found.first; taken = l.found.taken; count = end - l.found.taken }))
    (held_behind c.args.self.now (items_of answer_at run) c.args.findings.now l.findings held run.count c.requires.can.may
    (all_found l.invariant.passes c.loop-left-test.false) c.requires.can.room (omega (arith, count)))

pub returns : goal.returns
returns c = record {
  taken = all_taken c.loop-left.invariant.passes c.loop-left-test.false;
  put = subst (PutsFindings c.args.self.now (items_of answer_at c.args.run.now) c.args.findings.now) (sym c.put_eight.ensures)
      (all_found c.loop-left.invariant.passes c.loop-left-test.false);
}
