use Rattle.std.proofs.Common.{◌≡◌, ◌∙◌, true, subst, sym, arith}
use Rattle.site_types.specs.Changes.{nothing_retained}
use Rattle.site_types.specs.Events.{has_event}
use Rattle.node_inputs.specs.OwnEvents.{is_event_of}
use Rattle.driven_node.proofs.Driven.{happens, may_happen}
use Rattle.driven_node.proofs.driving.happen.Goals as goal

pub event-requires : goal.event-requires
event-requires c =
    let own = c.args.own.now in
    let event = c.args.event.now in
    let h = c.requires in
    may_happen own event h
    (subst (λ site. has_event site event ≡ true) (c.site.ensures h.site own.panel nothing_retained h.history h.stands)
    (sym c.has_event.ensures ∙ c.if-not-has_event.false))
    (subst (λ site. is_event_of site own.panel event ≡ true) (c.site-2.ensures h.site own.panel nothing_retained h.history h.stands)
    (sym c.is_own_event.ensures ∙ c.if-is_own_event.true))

pub returns-then-is_own_event : goal.returns-then-is_own_event
returns-then-is_own_event c =
    let own = c.args.own.now in
    let h = c.requires in
    happens own _ c.args.event.now h c.if-not-own.false (let few = c.if-own-ge-MOST.false in omega (arith, few))
    (c.event.ensures.takes h.site own.panel nothing_retained h.history h.stands)
