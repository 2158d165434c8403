use Rattle.std.proofs.Common.{◌≡◌, ◌≤◌, ◌+◌, ◌*◌, refl, subst, sym, arith, length}
use Rattle.std.specs.Int.{trailing_zeros, w32}
use Rattle.marker_table.specs.Equations.{equation, values_of}
use Rattle.marker_table.specs.Table.{value_read}
use Rattle.cause_effect.proofs.Changing.{AreCarried, AreEvaluated, carried_all, carried_first, carried_on, carried_same, equal_facts, evaluated_all, evaluated_first}
use Rattle.cause_effect.proofs.Changing.{evaluated_on, rose_by_none}
use Rattle.cause_effect.proofs.Marking.{lowest_cleared, lowest_less}
use Rattle.cause_effect.proofs.Passing.{all_left_first, carried_to, evaluated_to, free_to, left_after, lowest, none_left_over}
use Rattle.cause_effect.proofs.plan.Plan.solve_changed.Goals as goal

pub returns-then-eq-clause-steps : goal.returns-then-eq-clause-steps
returns-then-eq-clause-steps g c site is =
    rose_by_none site c.args.before.now c.args.after.now c.args.steps.now (equal_facts c.args.before.now c.args.after.now c.if-eq.ensures)

pub loop-number-init : goal.loop-number-init
loop-number-init g c = record {
  has = c.of-readings.ensures.facts;
  carried = λ site is solves.
      carried_same site c.args.before.now c.args.after.now c.args.self.now.order 0 (values_of c.args.values.now) (value_read c.of-readings.result)
      c.of-readings.ensures.values
      (carried_first site c.args.before.now c.args.after.now c.args.self.now.order (values_of c.args.values.now) is.order solves);
  evaluated = λ site is. evaluated_first site c.args.before.now c.args.after.now c.args.self.now.order c.args.steps.now;
}

pub loop-left-init : goal.loop-left-init
loop-left-init g c = record {
  fits = c.word-left.type_inv;
  passed = 32 * c.loop-number.number;
  from = omega arith;
  most = omega arith;
  are =
      all_left_first (values_of c.marks_of-marks.result) (32 * c.loop-number.number) c.word-left.result c.word-left.ensures;
  has = c.loop-number.invariant.has;
  carried = λ site is held. held;
  evaluated = λ site start is held. held;
}

pub loop-left-smaller : goal.loop-left-smaller
loop-left-smaller g c =
    let cleared = c.with_bit_32-left.ensures in
    lowest_less c.loop-left.left c.with_bit_32-left.result c.loop-left-test.true c.loop-left.invariant.fits cleared.this cleared.others cleared.value

pub loop-left-preserved : goal.loop-left-preserved
loop-left-preserved g c =
    let before = c.args.before.now in
    let after = c.args.after.now in
    let order = c.args.self.now.order in
    let first = 32 * c.loop-number.number in
    let left = c.loop-left.left in
    let less = c.with_bit_32-left.result in
    let held = c.loop-left.invariant in
    let marks = values_of c.marks_of-marks.result in
    let v = value_read c.loop-left.readings in
    let bit = trailing_zeros w32 left in
    let without = c.with_bit_32-left.ensures in
    let cleared = lowest_cleared left less c.loop-left-test.true held.fits without.this without.others in
    let low = lowest marks first held.passed left held.are c.loop-left-test.true held.fits in
    record {
      fits = omega (arith, held.fits, lowest_less left less c.loop-left-test.true held.fits without.this without.others without.value);
      passed = (first + bit) + 1;
      from = omega arith;
      most = (let small = low.small in omega (arith, small));
      are = left_after marks first held.passed left bit less held.are low cleared;
      has = c.solve_at.ensures.facts after held.has;
      carried = λ site is begun.
          let marked = c.marks_of-marks.ensures site order is.table.valid is.order is.users in
          let one = marked.only (first + bit) low.marked in
          carried_on site before after order (first + bit) one.marker v (value_read c.solve_at.new.readings) (equation site after v one.marker) is.order one.at
          (record { this = c.solve_at.ensures.value site after one.marker is held.has one.at; others = λ other apart. c.solve_at.ensures.others one.marker other one.at apart })
          (carried_to site before after order held.passed (first + bit) v low.later
          (free_to site before after order marks first held.passed left bit marked held.are held.from (let small = low.small in omega (arith, small)) low.none)
          (held.carried site is begun)) refl;
      evaluated = λ site start is begun.
          let marked = c.marks_of-marks.ensures site order is.table.valid is.order is.users in
          let one = marked.only (first + bit) low.marked in
          subst (AreEvaluated site before after order ((first + bit) + 1) start) (sym (c.solve_at.ensures.step one.marker one.at))
          (evaluated_on site before after order (first + bit) one.marker start c.loop-left.steps is.order.once one.at
          (evaluated_to site before after order held.passed (first + bit) start c.loop-left.steps low.later
          (free_to site before after order marks first held.passed left bit marked held.are held.from (let small = low.small in omega (arith, small)) low.none)
          (held.evaluated site start is begun)) one.depends);
    }

pub loop-number-preserved : goal.loop-number-preserved
loop-number-preserved g c =
    let before = c.args.before.now in
    let after = c.args.after.now in
    let order = c.args.self.now.order in
    let first = 32 * c.loop-number.number in
    let held = c.loop-left.invariant in
    let marks = values_of c.marks_of-marks.result in
    let next : first + 32 ≡ 32 * (c.loop-number.number + 1) = omega arith in
    record {
      has = held.has;
      carried = λ site is solves.
          let marked = c.marks_of-marks.ensures site order is.table.valid is.order is.users in
          subst (λ n. AreCarried site before after order n (value_read c.loop-left.readings)) next
          (carried_to site before after order held.passed (first + 32) (value_read c.loop-left.readings) held.most
          (free_to site before after order marks first held.passed c.loop-left.left 32 marked held.are held.from (omega arith)
          (none_left_over c.loop-left.left c.loop-left-test.false))
          (held.carried site is (c.loop-number.invariant.carried site is solves)));
      evaluated = λ site is.
          let marked = c.marks_of-marks.ensures site order is.table.valid is.order is.users in
          subst (λ n. AreEvaluated site before after order n c.args.steps.now c.loop-left.steps) next
          (evaluated_to site before after order held.passed (first + 32) c.args.steps.now c.loop-left.steps held.most
          (free_to site before after order marks first held.passed c.loop-left.left 32 marked held.are held.from (omega arith)
          (none_left_over c.loop-left.left c.loop-left-test.false))
          (held.evaluated site c.args.steps.now is (c.loop-number.invariant.evaluated site is)));
    }

pub returns-clause-solution : goal.returns-clause-solution
returns-clause-solution g c site is solves =
    let before = c.args.before.now in
    let after = c.args.after.now in
    let order = c.args.self.now.order in
    let last = c.loop-number-test.false in
    let few = is.users.few in
    let done : length order ≤ 32 * c.loop-number.number = omega (arith, last, few) in
    carried_all site before after order (32 * c.loop-number.number) (values_of c.values.result) is.order done
    (carried_same site before after order (32 * c.loop-number.number) (value_read c.loop-number.readings) (values_of c.values.result)
    c.values.ensures (c.loop-number.invariant.carried site is solves))

pub returns-clause-steps : goal.returns-clause-steps
returns-clause-steps g c site is =
    let last = c.loop-number-test.false in
    let few = is.users.few in
    let done : length c.args.self.now.order ≤ 32 * c.loop-number.number = omega (arith, last, few) in
    evaluated_all site c.args.before.now c.args.after.now c.args.self.now.order (32 * c.loop-number.number) c.args.steps.now c.loop-number.steps
    is.order done (c.loop-number.invariant.evaluated site is)
