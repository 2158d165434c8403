use Rattle.std.proofs.Common.{◌∙◌, ap, subst, sym}
use Rattle.std.specs.Prelude.{List, ℕ}
use Rattle.service_keepers.specs.Keeping.{ChangesBy}
use Rattle.service_register.specs.Answers.{TestAnswered, test_named}
use Rattle.service_register.specs.Points.{lists_point}
use Rattle.desk_register.specs.Puts.{name_of_point}
use Rattle.desk_register.proofs.SaidPlaces.{listed_refusal, read_at, site_lists}
use Rattle.desk_register.proofs.visits.put_test.Goals as goal

pub returns-clause-takes : goal.returns-clause-takes
returns-clause-takes g c =
    let points = c.args.site.now.points in
    let point = c.index-points-place.result in
    let at = read_at c.as_slice-points.result.now points c.args.place point c.as_slice-points.ensures c.requires.place c.index-points-place.is in
    subst (λ (name : List ℕ). ChangesBy (TestAnswered (test_named c.args.number name) c.tested.result) (g.R.Keeper.tables c.args.keeper.now)
    (g.R.Keeper.tables c.tested.new.keeper)) (c.as_str.ensures.value ∙ sym (ap name_of_point at)) c.tested.ensures.answer

pub returns-clause-refusals : goal.returns-clause-refusals
returns-clause-refusals g c =
    let points = c.args.site.now.points in
    let point = c.index-points-place.result in
    let at = read_at c.as_slice-points.result.now points c.args.place point c.as_slice-points.ensures c.requires.place c.index-points-place.is in
    listed_refusal c.tested.result c.as_str.result.now c.args.register.now
    (ap (λ (name : List ℕ). lists_point name c.args.register.now) c.as_str.ensures.value
    ∙ site_lists c.args.site.now c.args.register.now c.args.place point c.requires.listed at)
    c.tested.ensures.no_such_point c.tested.ensures.refusals
