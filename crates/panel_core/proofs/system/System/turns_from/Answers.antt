use Rattle.std.proofs.Common.{◌≢◌, ◌+◌, [], ◌∷◌, refl, subst, sym, false, arith}
use Rattle.panel_rules.specs.Moments.{and_turns, IsRun}
use Rattle.panel_rules.proofs.Counting.{each_more}
use Rattle.tick_units.specs.declared.seat.Seat.{Seat}
use Rattle.tick_units.specs.declared.task.Task.TheVariants.{Keep}
use Rattle.panel_core.specs.Changes.{AreOfPanels, seats_between}
use Rattle.panel_core.specs.Marks.{AreMarked}
use Rattle.panel_core.specs.Stands.{StandsFor}
use Rattle.panel_core.specs.StepCounts.{RisesAt, RisesOver, facts_in_force}
use Rattle.panel_core.proofs.StepsCounted.{applied_over, rises_more}
use Rattle.panel_rules.specs.Run.{facts_of}
use Rattle.panel_core.proofs.Orders.{before_turns, between_more, between_none, turns_next, front_turns, turns_tick, seat_known}
use Rattle.panel_core.proofs.system.System.turns_from.Goals as goal

pub loop-place-init : goal.loop-place-init
loop-place-init g c = record {
  since = omega arith;
  panels = rw (between_none c.args.order.now c.args.from) tt;
  turns = λ site kept before h run. rw (between_none c.args.order.now c.args.from) h;
  marks = λ site kept before h run marked. rw (between_none c.args.order.now c.args.from) marked;
  steps = λ site kept before h run. rw (between_none c.args.order.now c.args.from) refl;
}

pub turn_of-requires : goal.turn_of-requires
turn_of-requires g c =
    let r = c.requires in
    let order = c.args.order.now in
    let from = c.args.from in
    let i = c.loop-place.place in
    let seat = c.seat-seat.result in
    let inv = c.loop-place.invariant in
    let test = c.loop-place-test.true in
    let count = c.len-place-end.ensures.count in
    record {
      site = r.site;
      kept = r.kept;
      before = and_turns false (seats_between from i order) r.before;
      stands =
          inv.turns r.site r.kept r.before r.stands (front_turns r.site.panels order from i r.before inv.since (omega (arith, test, count)) r.run);
      known = seat_known r.site.panels order i seat r.ordered c.seat-seat.ensures;
      panels = c.in_default.not-Keep;
      run =
          subst (IsRun r.site.panels) (turns_next order from i seat r.before inv.since c.seat-seat.ensures)
          (front_turns r.site.panels order from (i + 1) r.before (let since = inv.since in omega (arith, since)) (omega (arith, test, count)) r.run);
      few = rw (turns_tick false (seats_between from i order) r.before) r.few;
    }

pub loop-place-preserved : goal.loop-place-preserved
loop-place-preserved g c =
    let order = c.args.order.now in
    let from = c.args.from in
    let i = c.loop-place.place in
    let seat = c.seat-seat.result in
    let inv = c.loop-place.invariant in
    record {
      since = (let since = inv.since in omega (arith, since));
      panels =
          subst AreOfPanels (sym (between_more order from i seat inv.since c.seat-seat.ensures))
          (each_more (λ (s : Seat). s.task ≢ Keep) (seats_between from i order) seat inv.panels c.in_default.not-Keep);
      turns = λ site kept before h run. (
          let next = turns_next order from i seat before inv.since c.seat-seat.ensures in
          let turned = subst (IsRun site.panels) next run in
          subst (λ moments. StandsFor site kept moments c.turn_of.new.self) (sym next)
          (c.turn_of.ensures.turns site kept (and_turns false (seats_between from i order) before)
          (inv.turns site kept before h (before_turns site.panels false (seat ∷ []) (and_turns false (seats_between from i order) before) turned)) turned));
      marks = λ site kept before h run marked. (
          let next = turns_next order from i seat before inv.since c.seat-seat.ensures in
          let turned = subst (IsRun site.panels) next run in
          let so_far = and_turns false (seats_between from i order) before in
          let earlier = before_turns site.panels false (seat ∷ []) so_far turned in
          subst (λ moments. AreMarked site kept moments c.turn_of.new.self.changed) (sym next)
          (c.turn_of.ensures.marks site kept so_far (inv.turns site kept before h earlier) turned (inv.marks site kept before h earlier marked)));
      steps = λ site kept before h run. (
          let next = turns_next order from i seat before inv.since c.seat-seat.ensures in
          let turned = subst (IsRun site.panels) next run in
          let so_far = and_turns false (seats_between from i order) before in
          let earlier = before_turns site.panels false (seat ∷ []) so_far turned in
          let here =
          subst (λ done. RisesAt site (facts_of site kept done) seat.panel seat.task so_far c.loop-place.steps c.turn_of.new.steps)
          (applied_over site kept false (seats_between from i order) before)
          (c.turn_of.ensures.steps site kept so_far (inv.turns site kept before h earlier)) in
          subst (λ seats. RisesOver site (facts_in_force site kept before) false seats before c.args.steps.now c.turn_of.new.steps)
          (sym (between_more order from i seat inv.since c.seat-seat.ensures))
          (rises_more site (facts_in_force site kept before) false (seats_between from i order) seat before c.args.steps.now c.loop-place.steps
          c.turn_of.new.steps (inv.steps site kept before h earlier) here));
    }
