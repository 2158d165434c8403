use Rattle.std.proofs.Common.{◌≡◌, ◌<◌, ◌≤◌, refl, subst, get_or}
use Rattle.std.proofs.lemmas.List.{take_all}
use Rattle.site_types.specs.declared.zone.Zone.{Zone}
use Rattle.panel_audit.specs.Numbers.{AreZoneNumbers}
use Rattle.panel_audit.proofs.NumbersTaken.{one_more}
use Rattle.panel_audit.proofs.numbers.zone_numbers.Goals as goal

pub loop-place-preserved : goal.loop-place-preserved
loop-place-preserved c =
    let site = c.args.site.now in
    let place = c.loop-place.place in
    let zone = c.index-as_slice-place.result in
    let within = subst (λ n. place < n) c.len-place-end.ensures c.loop-place-test.true in
    let is = subst (λ all. zone ≡ get_or all place zone) c.as_slice.ensures c.index-as_slice-place.is in
    rw c.in_ok-push.ensures.items
    (one_more (λ (x : Zone). x.panel) (λ (x : Zone). x.number) site.zones place c.loop-place.things.items zone _ within is refl refl c.loop-place.invariant)

pub returns : goal.returns
returns c =
    let site = c.args.site.now in
    let end = subst (λ n. n ≤ c.loop-place.place) c.len-place-end.ensures c.loop-place-test.false in
    subst (λ all. AreZoneNumbers all c.loop-place.things.items) (take_all c.loop-place.place site.zones end) c.loop-place.invariant
