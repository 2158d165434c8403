use Rattle.std.proofs.Common.{◌+◌, ap, arith}
use Rattle.site_types.specs.Changes.{nothing_retained}
use Rattle.driven_panel.proofs.Driven.{begins, may_begin}
use Rattle.driven_panel.proofs.driving.begin.Goals as goal

pub returns : goal.returns
returns c =
    let h = c.requires in
    let now = c.now-now.ensures h.site nothing_retained h.before h.after.stands in
    let few = c.if-now-ge1000000.false in
    begins c.args.panels c.args.own.now _ h (omega (arith, now, few))
    (c.begin.ensures.begins h.site nothing_retained h.before h.after.stands (ap (λ n. n + 1) now) (h.after.run, h.all))

pub begin-requires : goal.begin-requires
begin-requires c = may_begin c.args.panels c.args.own.now c.requires
