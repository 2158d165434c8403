use Rattle.std.proofs.Common.{◌≡◌, ◌∙◌, true, subst, sym, arith}
use Rattle.site_types.specs.Changes.{nothing_retained}
use Rattle.site_types.specs.Events.{has_event}
use Rattle.driven_panel.proofs.Driven.{may_happen, happens}
use Rattle.driven_panel.proofs.driving.happen.Goals as goal

pub event-requires : goal.event-requires
event-requires c =
    let h = c.requires in
    let same = c.site.ensures h.site nothing_retained h.before h.after.stands in
    may_happen c.args.panels c.args.own.now c.args.event.now h
    (subst (λ site. has_event site c.args.event.now ≡ true) same (sym c.has_event.ensures ∙ c.if-not-has_event.false))

pub returns : goal.returns
returns c =
    let h = c.requires in
    happens c.args.panels c.args.own.now _ c.args.event.now h (let few = c.if-own-ge1000000.false in omega (arith, few))
    (c.event.ensures.takes h.site nothing_retained h.before h.after.stands)
