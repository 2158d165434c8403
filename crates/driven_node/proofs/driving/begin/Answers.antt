use Rattle.std.proofs.Common.{◌+◌, ap, arith}
use Rattle.site_types.specs.Changes.{nothing_retained}
use Rattle.driven_node.proofs.Driven.{begins}
use Rattle.driven_node.proofs.driving.begin.Goals as goal

pub returns : goal.returns
returns c =
    let own = c.args.own.now in
    let h = c.requires in
    let now = c.now-now.ensures h.site own.panel nothing_retained h.history h.stands in
    let few = c.if-now-ge-MOST.false in
    begins own _ h c.if-own.false (omega (arith, now, few))
    (c.begin.ensures.begins h.site own.panel nothing_retained h.history h.stands (ap (λ n. n + 1) now) (h.run, h.closed c.if-own.false))
