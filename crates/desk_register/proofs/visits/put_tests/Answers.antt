use Rattle.std.proofs.Common.{[], ◌∷◌, ◌++◌, ◌+◌, List, arith, drop, get_or, take, refl, subst, sym}
use Rattle.std.specs.Prelude.{Err}
use Rattle.std.proofs.lemmas.Result.{err_from_is_err_and}
use Rattle.service_keepers.specs.Keeping.{ChangesBy}
use Rattle.service_keepers.specs.Tables.{TestRow}
use Rattle.service_register.specs.Answers.{AcceptsTest, TestAnswered}
use Rattle.desk_register.specs.Puts.{PutsTests, test_at, tests_at}
use Rattle.desk_register.specs.Taken.{TestsTaken}
use Rattle.desk_register.proofs.InTurn.{all_taken, goes_on, stays, tests_around, tests_end_at, tests_more, tests_up_to}
use Rattle.desk_register.proofs.visits.put_tests.Goals as goal

pub loop-place-init : goal.loop-place-init
loop-place-init g c = record { put = stays (g.R.Keeper.tables c.args.keeper.now); counted = omega arith }

pub loop-place-preserved : goal.loop-place-preserved
loop-place-preserved g c =
    let site = c.args.site.now in
    let number = c.args.number in
    let places = c.args.places.now in
    let index = c.loop-place.place-index in
    let test = test_at site number (get_or places index 0) in
    let front = tests_at site number (take index places) in
    let old = g.R.Keeper.tables c.args.keeper.now in
    let middle = g.R.Keeper.tables c.loop-place.keeper in
    let new = g.R.Keeper.tables c.put_test.new.keeper in
    let taken = subst (λ result. ChangesBy (TestAnswered test result) middle new) c.in_ok-put_test.was c.put_test.ensures.takes in
    let puts = goes_on (PutsTests front) (AcceptsTest test) (PutsTests (front ++ test ∷ [])) (tests_more front test) old middle new
    c.loop-place.invariant.put taken in
    record {
      put = subst (λ (tests : List TestRow). ChangesBy (PutsTests tests) old new)
          (sym (tests_up_to site number places index (get_or places index 0) c.loop-place-test.true refl)) puts;
      counted = omega (arith, c.loop-place.invariant.counted, c.put_test.ensures.cause.later);
    }

pub returns-in_err-put_test-clause-takes : goal.returns-in_err-put_test-clause-takes
returns-in_err-put_test-clause-takes g c =
    let site = c.args.site.now in
    let number = c.args.number in
    let places = c.args.places.now in
    let index = c.loop-place.place-index in
    let place = get_or places index 0 in
    let test = test_at site number place in
    let front = tests_at site number (take index places) in
    let back = tests_at site number (drop (index + 1) places) in
    let why = c.in_err-put_test.field-0.0 in
    let old = g.R.Keeper.tables c.args.keeper.now in
    let middle = g.R.Keeper.tables c.loop-place.keeper in
    let new = g.R.Keeper.tables c.put_test.new.keeper in
    let taken = subst (λ result. ChangesBy (TestAnswered test result) middle new) c.in_err-put_test.was c.put_test.ensures.takes in
    let ends = goes_on (PutsTests front) (TestAnswered test (Err why)) (TestsTaken number (front ++ test ∷ back) (Err why))
    (tests_end_at site number place front back why c.in_err-put_test.ensures.refusals) old middle new c.loop-place.invariant.put taken in
    let p = err_from_is_err_and c.from_residual.result c.from_residual.ensures.1 in
    rw (p.1, p.2)
    (subst (λ (tests : List TestRow). ChangesBy (TestsTaken number tests (Err why)) old new)
    (sym (tests_around site number places index place c.loop-place-test.true refl)) ends)

pub returns-clause-takes : goal.returns-clause-takes
returns-clause-takes g c =
    all_taken c.args.site.now c.args.number c.args.places.now c.loop-place.place-index (g.R.Keeper.tables c.args.keeper.now)
    (g.R.Keeper.tables c.loop-place.keeper) c.loop-place-test.false c.loop-place.invariant.put
