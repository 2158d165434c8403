use Rattle.std.proofs.lemmas.Bool.{and_parts, eqb-true}
use Rattle.face_reading.proofs.KnownNames.{both_are, point_is, stands_at, when_so}
use Rattle.face_reading.proofs.known_names.guessed_point.Goals as goal

pub returns : goal.returns
returns c =
    let point = c.in_ok-point.point.now in
    let there = c.in_ok-point.ensures.lookup in
    let at = stands_at c.as_slice.result.now c.args.site.now.points c.point.result point c.as_slice.ensures there.3.0 (there.3.1 point) in
    when_so _ point.name c.then_some.result _ c.then_some.ensures
    (λ so.
    let parts = and_parts _ _ so in
    let same = both_are point.panel c.args.panel point.line c.args.line parts.0 in
    point_is c.args.site.now c.requires c.args.panel c.args.line c.args.address c.point.result point at same.0 same.1 (eqb-true point.address c.args.address parts.1))
