use Rattle.std.proofs.Common.{◌<◌, ◌∙◌, ◌||◌, refl, sym, ap, max, subst}
use Rattle.tick_units.specs.LastTicks.{last_at}
use Rattle.coincidence.specs.Parts.{switch_at}
use Rattle.coincidence.specs.PlainZones.{IsSaidAt}
use Rattle.coincidence.proofs.PlainZones.{point_same}
use Rattle.coincidence.proofs.Watched.{read_is, test_since, zone_off_since, zone_small}
use Rattle.coincidence.proofs.decide.Decide.plain_zone.Goals as goal

pub index-zone-requires : goal.index-zone-requires
index-zone-requires c =
    let q = c.requires.may in
    subst (λ n. c.args.point.now.zone < n) (sym c.args.self.now.zones.ok.0)
    (zone_small q.stands c.args.answer.now.point q.may.own c.args.point.now c.requires.read)

pub is_on-off-requires : goal.is_on-off-requires
is_on-off-requires c =
    let q = c.requires.may in
    zone_off_since q.stands c.args.answer.now q.may c.args.point.now
    c.index-zone.result.now c.requires.read c.index-zone.ensures

pub is_on-test-requires : goal.is_on-test-requires
is_on-test-requires c =
    let q = c.requires.may in
    test_since q.stands c.args.answer.now q.may c.args.point.now
    c.index-zone.result.now c.requires.read c.index-zone.ensures

pub returns : goal.returns
returns c =
    let q = c.requires.may in
    let answer = c.args.answer.now in
    let x = answer.stamp.0 in
    let r = c.args.point.now in
    let z = c.index-zone.result.now in
    let plain = c.is_plain.ensures c.if-not-is_plain.false in
    record {
      known = λ watch at.
          subst (IsSaidAt x c.args.self.now.reset _) (read_is c.args.self.now.zones.items r.zone z watch c.index-zone.ensures at)
          (record {
            rule = plain.0;
            partner = plain.1;
            number = refl;
            blocked = ap (λ b. b || c.is_on-test.result) c.is_on-off.ensures ∙ ap (λ b. switch_at x z.off || b) c.is_on-test.ensures;
            settled = c.is_settled-settled.ensures;
            floor = c.max.ensures ∙ ap (λ n. max n c.before-moved.result.0) c.before-reset.ensures
                ∙ ap (λ n. max (last_at x c.args.self.now.reset) n) c.before-moved.ensures;
          });
      own = λ watch read. ap (λ w. w.zone)
          (point_same q.stands answer q.may r c.requires.read watch read);
    }
