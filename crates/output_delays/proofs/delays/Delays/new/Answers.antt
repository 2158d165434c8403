use Rattle.std.proofs.Common.{◌<◌, [], None, refl, ◌∙◌, ap, arith}
use Rattle.output_delays.specs.Stands.{timer_of}
use Rattle.output_lists.proofs.Listing.{all_listed, none_more, one_more}
use Rattle.output_delays.proofs.Requested.{timer_delayed, timer_undelayed}
use Rattle.output_delays.proofs.delays.Delays.new.Goals as goal
use Rattle.output_delays.proofs.delays.Delays.new.Goals.{then-delay-gt0, else-delay-gt0}

pub loop-place-preserved : goal.loop-place-preserved
loop-place-preserved c =
    let site = c.args.site.now in
    let panel = c.args.panel in
    let place = c.loop-place.place in
    let delay = c.delay_of-delay.result in
    let small : place < 32 = c.loop-place-test.true in
    elim c.if-delay-gt0.branch [
      | then-delay-gt0 w ↦
          one_more (λ timer. timer.place) (timer_of site panel []) place c.loop-place.timers.items c.if-delay-gt0.timers.items
          (record { place = place; delay = delay; since = None }) c.loop-place.invariant
          (timer_delayed site panel place delay c.delay_of-delay.ensures w.if-delay-gt0.true) small
          (ap (λ v. v.items) w.timers-is ∙ w.push.ensures.items)
      | else-delay-gt0 w ↦
          none_more (λ timer. timer.place) (timer_of site panel []) place c.loop-place.timers.items c.if-delay-gt0.timers.items
          c.loop-place.invariant (timer_undelayed site panel place delay c.delay_of-delay.ensures (omega (arith, w.if-delay-gt0.false)))
          (ap (λ v. v.items) w.timers-is)
    ]

pub returns : goal.returns
returns c = record {
  active = refl;
  timers =
      all_listed (λ timer. timer.place) (timer_of c.args.site.now c.args.panel []) c.loop-place.place c.loop-place.timers.items (omega arith)
      c.loop-place.invariant;
  overrides = record { latest = refl; before = refl; falling = tt };
}
