use Rattle.cause_effect.proofs.Walking.{never_none, next_left, next_least, terms_there}
use Rattle.cause_effect.proofs.walk.next_of.Goals as goal

pub unreachable-requires : goal.unreachable-requires
unreachable-requires c =
    never_none c.args.site.now c.args.placed.now c.args.marker c.as_slice-2.result.now c.requires.left c.requires.marker
    (terms_there c.args.site.now.markers c.as_slice.result.now c.args.marker c.index-as_slice-marker.result c.as_slice-2.result.now
    c.requires.marker.within c.as_slice.ensures c.as_slice-2.ensures)
    c.in-None.ensures

pub returns-clause-least : goal.returns-clause-least
returns-clause-least c =
    next_least c.args.site.now c.requires.valid c.args.placed.now c.args.marker c.as_slice-2.result.now c.in-Some.next c.requires.left
    c.requires.marker
    (terms_there c.args.site.now.markers c.as_slice.result.now c.args.marker c.index-as_slice-marker.result c.as_slice-2.result.now
    c.requires.marker.within c.as_slice.ensures c.as_slice-2.ensures)
    c.in-Some.ensures

pub returns-clause-left : goal.returns-clause-left
returns-clause-left c =
    next_left c.args.site.now c.requires.valid c.args.placed.now c.args.marker c.as_slice-2.result.now c.in-Some.next c.requires.marker
    (terms_there c.args.site.now.markers c.as_slice.result.now c.args.marker c.index-as_slice-marker.result c.as_slice-2.result.now
    c.requires.marker.within c.as_slice.ensures c.as_slice-2.ensures)
    c.in-Some.ensures
