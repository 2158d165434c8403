use Rattle.std.proofs.Common.{refl}
use Rattle.site_types.specs.Changes.{nothing_retained}
use Rattle.panel_drill.proofs.Ticking.{began, before, made, may_begin, may_run, may_tell, may_turn, next_tick}
use Rattle.panel_drill.proofs.running.Running.run_tick.Goals as goal

pub begin-requires : goal.begin-requires
begin-requires c = let r = c.requires in may_begin r.site r.seed r.ticks c.args.self.now r.is_at

pub tell-requires : goal.tell-requires
tell-requires c =
    let r = c.requires in
    may_tell r.site r.seed r.ticks c.begin.new.self
    (c.begin.ensures.begins r.site nothing_retained (before r.site r.seed r.ticks) r.is_at.system
    (next_tick r.site r.seed r.ticks c.args.tick.0 r.next) (may_run r.site r.seed r.ticks))

pub turn_counted-requires-clause-may : goal.turn_counted-requires-clause-may
turn_counted-requires-clause-may c =
    let r = c.requires in
    let drew = c.next_tick-drawn.ensures r.seed r.ticks r.is_at.drawer in
    let stands =
    c.begin.ensures.begins r.site nothing_retained (before r.site r.seed r.ticks) r.is_at.system (next_tick r.site r.seed r.ticks c.args.tick.0 r.next)
    (may_run r.site r.seed r.ticks) in
    may_turn r.site r.seed r.ticks c.args.self.now _ c.next_tick-drawn.result r.is_at drew.drew r.few refl r.is_at.disk refl refl
    (c.tell.ensures r.site (began r.site r.seed r.ticks) stands)

pub returns : goal.returns
returns c site seed ticks h few is =
    let drew = c.next_tick-drawn.ensures seed ticks h.drawer in
    let stands =
    c.begin.ensures.begins site nothing_retained (before site seed ticks) h.system (next_tick site seed ticks c.args.tick.0 is) (may_run site seed ticks) in
    made site seed ticks c.args.self.now _ c.next_tick-drawn.result h drew.drew few refl h.disk refl refl
    (c.tell.ensures site (began site seed ticks) stands) c.turn_counted.new.self c.turn_counted.ensures.turns drew.stands
