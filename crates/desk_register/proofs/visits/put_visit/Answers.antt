use Rattle.std.proofs.Common.{subst}
use Rattle.std.specs.Prelude.{List, ℕ, Err}
use Rattle.std.proofs.lemmas.Result.{IfErr-weaker, err_from_is_err_and}
use Rattle.service_keepers.specs.Keeping.{ChangesBy}
use Rattle.service_keepers.specs.Rows.{visit_row}
use Rattle.service_register.specs.Answers.{AcceptsVisit, VisitAnswered}
use Rattle.desk_register.specs.Puts.{tests_at}
use Rattle.desk_register.specs.Taken.{IfOther, IsOfTests, IsOfVisitWithTests, TestsTaken, VisitTaken}
use Rattle.desk_register.proofs.InTurn.{goes_as, goes_on, visit_ends, visit_then}
use Rattle.desk_register.proofs.Replied.{if_other, no_other, test_or_visit, visit_or_test}
use Rattle.desk_register.proofs.visits.put_visit.Goals as goal

pub returns-in_err-visit-clause-takes : goal.returns-in_err-visit-clause-takes
returns-in_err-visit-clause-takes g c =
    let visit = visit_row c.args.visit.now.visit in
    let tests = tests_at c.args.site.now c.args.visit.now.visit.number c.args.visit.now.points.items in
    let why = c.in_err-visit.field-0.0 in
    let old = g.R.Keeper.tables c.args.keeper.now in
    let new = g.R.Keeper.tables c.visit.new.keeper in
    let taken = subst (λ result. ChangesBy (VisitAnswered visit result) old new) c.in_err-visit.was c.visit.ensures.answer in
    let p = err_from_is_err_and c.from_residual.result c.from_residual.ensures.1 in
    rw (p.1, p.2) (goes_as (VisitAnswered visit (Err why)) (VisitTaken visit tests (Err why)) (visit_ends visit tests why) old new taken)

pub returns-in_err-visit-clause-refusals : goal.returns-in_err-visit-clause-refusals
returns-in_err-visit-clause-refusals g c =
    let p = err_from_is_err_and c.from_residual.result c.from_residual.ensures.1 in
    rw (p.1, p.2) (visit_or_test c.in_err-visit.field-0.0 c.in_err-visit.ensures.refusals)

pub returns-in_err-visit-clause-other : goal.returns-in_err-visit-clause-other
returns-in_err-visit-clause-other g c =
    let p = err_from_is_err_and c.from_residual.result c.from_residual.ensures.1 in
    rw (p.1, p.2) (if_other _ c.in_err-visit.field-0.0 c.in_err-visit.ensures.err)

pub returns-clause-takes : goal.returns-clause-takes
returns-clause-takes g c =
    let visit = visit_row c.args.visit.now.visit in
    let tests = tests_at c.args.site.now c.args.visit.now.visit.number c.args.visit.now.points.items in
    let old = g.R.Keeper.tables c.args.keeper.now in
    let middle = g.R.Keeper.tables c.visit.new.keeper in
    let new = g.R.Keeper.tables c.put_tests.new.keeper in
    let taken = subst (λ (places : List ℕ). ChangesBy (TestsTaken visit.number (tests_at c.args.site.now visit.number places) c.put_tests.result) middle new)
    c.as_slice.ensures.value c.put_tests.ensures.takes in
    let accepts = subst (λ result. ChangesBy (VisitAnswered visit result) old middle) c.in_ok-visit.was c.visit.ensures.answer in
    goes_on (AcceptsVisit visit) (TestsTaken visit.number tests c.put_tests.result) (VisitTaken visit tests c.put_tests.result)
    (visit_then visit tests c.put_tests.result) old middle new accepts taken

pub returns-clause-refusals : goal.returns-clause-refusals
returns-clause-refusals g c = IfErr-weaker c.put_tests.result IsOfTests IsOfVisitWithTests test_or_visit c.put_tests.ensures.refusals

pub returns-clause-other : goal.returns-clause-other
returns-clause-other g c =
    IfErr-weaker c.put_tests.result IsOfTests
    (λ why. IfOther why _) (λ why of. no_other _ why of) c.put_tests.ensures.refusals
