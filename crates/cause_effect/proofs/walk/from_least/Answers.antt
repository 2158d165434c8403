use Rattle.cause_effect.proofs.Walking.{turned_items}
use Rattle.cause_effect.proofs.walk.from_least.Goals as goal

pub returns : goal.returns
returns c =
    let place = c.place_of_least-place in
    turned_items c.args.round.now c.from_vec.result c.in_ok-markers.markers.items c.extend_from_slice.new.self.items
    c.extend_from_slice-2.new.self.items place.result place.ensures.within place.ensures.least
    c.in_ok-markers.ensures.items c.in_ok-extend_from_slice.ensures.items c.in_ok-extend_from_slice-2.ensures.items c.from_vec.ensures
