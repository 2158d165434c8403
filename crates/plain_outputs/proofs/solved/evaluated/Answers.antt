use Rattle.std.proofs.Common.{◌≡◌, ◌<◌, ◌≤◌, ◌∙◌, length, get_or, subst, arith, List}
use Rattle.site_types.specs.declared.marker.Marker.{Marker}
use Rattle.marker_table.specs.Equations.{equation, values_of}
use Rattle.plain_outputs.proofs.Solving.{all_below, met_at, one_more}
use Rattle.plain_outputs.proofs.solved.evaluated.Goals as goal

pub loop-place-init : goal.loop-place-init
loop-place-init c = (λ m h. absurd (omega (arith, h)), λ m h. c.none-next.ensures m)

pub loop-place-preserved : goal.loop-place-preserved
loop-place-preserved c =
    let test = equation c.args.site.now c.args.facts.now (values_of c.args.values.now) in
    let within : c.loop-place.place < length c.args.site.now.markers =
    subst (λ (xs : List Marker). c.loop-place.place < length xs) c.as_slice-marker-items.ensures c.loop-place-test.true in
    one_more (values_of c.loop-place.next) (values_of c.set.new.self) test c.loop-place.place c.is_met.result c.set.ensures.this c.set.ensures.others
    (c.is_met.ensures ∙ met_at c.args.site.now c.args.facts.now (values_of c.args.values.now) c.loop-place.place c.marker-item.result within
    (subst (λ (xs : List Marker). c.marker-item.result ≡ get_or xs c.loop-place.place c.marker-item.result) c.as_slice-marker-items.ensures
    c.marker-item.is))
    c.loop-place.invariant

pub returns : goal.returns
returns c =
    let far : length c.args.site.now.markers ≤ c.loop-place.place =
    subst (λ (xs : List Marker). length xs ≤ c.loop-place.place) c.as_slice-marker-items.ensures c.loop-place-test.false in
    all_below c.args.site.now c.args.facts.now (values_of c.args.values.now) (values_of c.loop-place.next) c.loop-place.place far c.loop-place.invariant
