use Rattle.std.proofs.Common.{◌+◌, ◌<◌, length, get_or, refl, sym, ◌∙◌, ap, subst, arith}
use Rattle.answer_lanes.specs.Points.{answer_at}
use Rattle.coincidence.proofs.GoingOn.{cleared_smaller, confirms_again, fewer_go_on, more_in_front, one_in_front, told_by_bit}
use Rattle.coincidence.proofs.Watched.{number_fits, point_small, zone_small}
use Rattle.coincidence.specs.GoingOn.{IsFrontInZone}
use Rattle.coincidence.proofs.decide.Decide.part_going_on.Goals as goal
use Rattle.coincidence.proofs.decide.Decide.part_going_on.Goals.{After-one_bit}

pub at-point-requires : goal.at-point-requires
at-point-requires c =
    let run = c.args.run.now in
    let bit = c.lowest_bit-bit.result in
    let told = told_by_bit c.args.self.now run c.args.bits bit c.requires.within c.requires.going c.lowest_bit-bit.ensures.set c.requires.can in
    subst (λ n. n < length c.args.self.now.points) told.1 (point_small told.0.stands _ told.0.may.own)

pub index-zone-requires : goal.index-zone-requires
index-zone-requires c =
    let run = c.args.run.now in
    let bit = c.lowest_bit-bit.result in
    let told = told_by_bit c.args.self.now run c.args.bits bit c.requires.within c.requires.going c.lowest_bit-bit.ensures.set c.requires.can in
    let point = c.at-point.result.now in
    let read = c.at-point.ensures ∙ ap (λ n. get_or c.args.self.now.points n point) (sym told.1) in
    subst (λ n. point.zone < n) (sym c.args.self.now.zones.ok.0)
    (zone_small told.0.stands (answer_at run.first (run.taken + bit)).point told.0.may.own point read)

pub one_bit-requires : goal.one_bit-requires
one_bit-requires c =
    let point = c.at-point.result.now in
    let run = c.args.run.now in
    let bit = c.lowest_bit-bit.result in
    let told = told_by_bit c.args.self.now run c.args.bits bit c.requires.within c.requires.going c.lowest_bit-bit.ensures.set c.requires.can in
    let read = c.at-point.ensures ∙ ap (λ n. get_or c.args.self.now.points n point) (sym told.1) in
    number_fits told.0.stands (answer_at run.first (run.taken + bit)).point told.0.may.own point c.index-zone.result.now read c.index-zone.ensures

-- the first alarm by itself
one : (c : After-one_bit) → IsFrontInZone c.args.self.now c.args.run.now c.at-point.result.now.zone c.args.bits c.with_bit_8-others.result
one c =
    let run = c.args.run.now in
    let low = c.lowest_bit-bit in
    let others = c.with_bit_8-others in
    let point = c.at-point.result.now in
    let told = told_by_bit c.args.self.now run c.args.bits low.result c.requires.within c.requires.going low.ensures.set c.requires.can in
    one_in_front c.args.bits low.result others.result c.ranges.bits.fits low.ensures.set low.ensures.none
    (record { watch = point; read = c.at-point.ensures ∙ ap (λ n. get_or c.args.self.now.points n point) (sym told.1); own = refl })
    (cleared_smaller c.args.bits low.result others.result others.ensures.value low.ensures.set others.ensures.this) others.type_inv
    others.ensures.others others.ensures.this

pub bits_behind-requires-clause-going : goal.bits_behind-requires-clause-going
bits_behind-requires-clause-going c =
    fewer_go_on c.args.self.now c.args.run.now c.args.bits c.with_bit_8-others.result c.requires.going
    (one (goal.at.bits_behind-requires-clause-going c).After-one_bit).tail.among

pub returns : goal.returns
returns c =
    let run = c.args.run.now in
    let going = c.requires.going in
    let others = c.with_bit_8-others in
    let first = one (goal.at.returns c).After-one_bit in
    let front = more_in_front c.args.bits others.result c.bits_behind.result first c.bits_behind.ensures in
    let less = cleared_smaller c.args.bits c.lowest_bit-bit.result others.result others.ensures.value c.lowest_bit-bit.ensures.set others.ensures.this in
    let most = c.bits_behind.ensures.tail.most in
    record {
      again = λ k is gone.
          let marked = going.marked k (going.within k is) is in
          let there = front.in_zone k is gone in
          confirms_again c.args.self.now (answer_at run.first (run.taken + k)) c.at-point.result.now.zone
          (record { alarm = marked.alarm; has = marked.has; watch = there.watch; read = there.read; own = there.own; since = going.since })
          c.index-zone.result.now c.index-zone.ensures c.one_bit.result c.one_bit.type_inv c.one_bit.ensures;
      tail = front.tail;
      fewer = omega (arith, less, most);
    }
