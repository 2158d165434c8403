use Rattle.std.proofs.Common.{◌∙◌, refl, ap, subst}
use Rattle.coincidence.specs.PlainZones.{KnowsZone}
use Rattle.coincidence.proofs.PlainZones.{point_same}
use Rattle.coincidence.proofs.Watched.{can_observe, fits_next, point_small}
use Rattle.coincidence.proofs.decide.Decide.zone_of.Goals as goal

pub at-point-requires : goal.at-point-requires
at-point-requires c =
    let q = c.requires.can in
    point_small q.stands c.args.answer.now.point (q.may.own 0 c.args.answer.now refl)

pub returns-in-Some : goal.returns-in-Some
returns-in-Some c =
    let q = c.requires.can in
    let answer = c.args.answer.now in
    record {
      known = subst (KnowsZone answer.stamp.0 c.args.self.now) c.in-Some.is c.requires.known;
      own = λ watch read. c.if-zone-point.true ∙ ap (λ w. w.zone)
          (point_same q.stands answer (fits_next q.site q.kept q.panel q.done q.taken answer q.may) c.at-point.result.now c.at-point.ensures watch read);
    }

pub plain_zone-requires-clause-may : goal.plain_zone-requires-clause-may
plain_zone-requires-clause-may c = can_observe c.args.self.now c.args.answer.now c.requires.can
