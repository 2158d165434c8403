use Rattle.face_reading.proofs.KnownNames.{both_are, stands_at, when_so, zone_is}
use Rattle.face_reading.proofs.known_names.guessed_zone.Goals as goal

pub returns : goal.returns
returns c =
    let zone = c.in_ok-zone.zone.now in
    let there = c.in_ok-zone.ensures.lookup in
    let at = stands_at c.as_slice.result.now c.args.site.now.zones c.zone.result zone c.as_slice.ensures there.3.0 (there.3.1 zone) in
    when_so _ zone.name c.then_some.result _ c.then_some.ensures
    (λ so.
    let same = both_are zone.panel c.args.panel zone.number c.args.number so in
    zone_is c.args.site.now c.requires c.args.panel c.args.number c.zone.result zone at same.0 same.1)
