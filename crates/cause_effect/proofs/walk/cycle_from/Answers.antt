use Rattle.std.proofs.Common.{length, ap, subst, ◌∙◌, arith, drop}
use Rattle.cause_effect.specs.Cycles.{IsCycle, IsFromLeast}
use Rattle.cause_effect.specs.Placed.{PlaceIs}
use Rattle.cause_effect.proofs.Placing.{few_of}
use Rattle.cause_effect.proofs.Walking.{walk_begins, walk_on, walked_none, none_is, path_fits, less_room, met_within, rest_is_there, ok_weaker, the_cycle, Walked}
use Rattle.cause_effect.proofs.walk.cycle_from.Goals as goal

pub loop-met-init : goal.loop-met-init
loop-met-init c =
    walk_begins c.args.site.now c.args.placed.now c.in_ok-path.path.items c.args.first c.requires.left c.requires.first c.in_ok-path.ensures.items

pub next_of-at-requires-clause-marker : goal.next_of-at-requires-clause-marker
next_of-at-requires-clause-marker c = c.loop-met.invariant.left

pub loop-met-preserved : goal.loop-met-preserved
loop-met-preserved c =
    walk_on c.args.site.now c.args.placed.now c.loop-met.path.items c.push.new.self.items c.loop-met.at c.next_of-at.result c.place_of-met.result
    (walked_none c.args.site.now c.args.placed.now c.loop-met.path.items c.loop-met.at c.loop-met.met c.loop-met.invariant
    (none_is c.loop-met.met c.is_none.result c.is_none.ensures c.loop-met-test.true))
    c.in_ok-push.ensures.items c.next_of-at.ensures.least c.next_of-at.ensures.left
    (subst (λ xs. PlaceIs xs c.next_of-at.result c.place_of-met.result) c.as_slice.ensures.value c.place_of-met.ensures)

pub loop-met-smaller : goal.loop-met-smaller
loop-met-smaller c =
    let few = few_of c.args.site.now c.requires.valid in
    let fits = path_fits c.args.site.now c.args.placed.now c.loop-met.path.items c.loop-met.at
    (walked_none c.args.site.now c.args.placed.now c.loop-met.path.items c.loop-met.at c.loop-met.met c.loop-met.invariant
    (none_is c.loop-met.met c.is_none.result c.is_none.ensures c.loop-met-test.true)) in
    less_room c.loop-met.path.items c.push.new.self.items c.loop-met.at c.in_ok-push.ensures.items (omega (arith, few, fits))

pub rest_from-requires : goal.rest_from-requires
rest_from-requires c =
    let within = met_within c.args.site.now c.args.placed.now c.loop-met.path.items c.loop-met.at c.in-Some.start c.loop-met.met c.loop-met.invariant
    c.in-Some.is in
    let long = ap length c.as_slice-in-Some.ensures.value in
    omega (arith, within, long)

pub from_least-requires : goal.from_least-requires
from_least-requires c =
    rest_is_there c.loop-met.path.items c.rest_from.result.now c.in-Some.start
    (c.rest_from.ensures ∙ ap (drop c.in-Some.start) c.as_slice-in-Some.ensures.value)
    (met_within c.args.site.now c.args.placed.now c.loop-met.path.items c.loop-met.at c.in-Some.start c.loop-met.met c.loop-met.invariant
    c.in-Some.is)

pub returns : goal.returns
returns c =
    let path = c.loop-met.path.items in
    let w = subst (Walked c.args.site.now c.args.placed.now path c.loop-met.at) c.in-Some.is c.loop-met.invariant in
    let rest = c.rest_from.ensures ∙ ap (drop c.in-Some.start) c.as_slice-in-Some.ensures.value in
    ok_weaker (IsFromLeast c.rest_from.result.now) (IsCycle c.args.site.now) c.from_least.result
    (λ markers turned. the_cycle c.args.site.now c.args.placed.now path c.loop-met.at c.in-Some.start markers w
    (subst (λ xs. IsFromLeast xs markers) rest turned))
    c.from_least.ensures
