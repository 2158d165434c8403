use Rattle.std.proofs.Common.{◌≡◌, ◌∙◌, ◌-◌, length, ap, arith, refl, subst, sym}
use Rattle.std.specs.Vec.{with_items}
use Rattle.site_types.specs.Profile.{round_of}
use Rattle.panel_rules.specs.Moments.{tick_of}
use Rattle.blocked_points.specs.Operations.{done_newest_first}
use Rattle.zone_signals.specs.Known.{ArePointsKnown}
use Rattle.zone_signals.specs.Marks.{AreZonesMarked}
use Rattle.zone_signals.specs.Stands.{ZonesStand}
use Rattle.zone_signals.proofs.Marking.{all_marked}
use Rattle.zone_signals.proofs.MomentsOn.{knows, settled_before, stands_on}
use Rattle.zone_signals.proofs.PartlyTaken.{written}
use Rattle.zone_signals.proofs.zone_signals.ZoneSignals.take_tick.Goals as goal

pub returns : goal.returns
returns c kept before moments stands are next at =
    let site = c.args.site.now in
    let operations = c.args.done.now in
    let now = c.args.now.0 in
    let later = next.later in
    let floors = c.tick.ensures (tick_of before) (omega (arith, at, later)) stands.floors in
    let marked : AreZonesMarked site c.args.runs.now (now - round_of site.format) c.deref-2.result.now =
    (let long = ap length c.deref_mut.ensures.value in
    let as_long : length c.mark_zones.new.marks ≡ length c.args.self.now.marks.items = omega (arith, c.mark_zones.auto.marks, long) in
    subst (AreZonesMarked site c.args.runs.now (now - round_of site.format))
    (sym (c.deref-2.ensures.value ∙ written c.args.self.now.marks c.mark_zones.new.marks as_long))
    (subst (λ start. AreZonesMarked site c.args.runs.now start c.mark_zones.new.marks) c.round_start.ensures
    (all_marked site c.args.runs.now c.round_start.result c.mark_zones.new.marks c.mark_zones.ensures))) in
    let earlier = settled_before site kept operations before moments c.args.runs.now now c.args.self.now stands are next at in
    let taken =
    c.take_rounds.ensures kept (done_newest_first operations) before
    (subst (λ members. ArePointsKnown site kept (done_newest_first operations) before now members c.args.runs.now) (sym c.deref.ensures.value)
    (knows site kept operations before moments c.args.runs.now now c.args.self.now stands are next at))
    (c.rows.ensures site operations now floors) marked
    (subst (ZonesStand site kept (done_newest_first operations) before (now - 1)) (sym c.deref_mut-2.ensures.value) earlier) in
    stands_on site kept operations before moments c.args.runs.now now c.args.self.now stands are next at
    (record {
      floors = c.tick.new.self;
      members = c.args.self.now.members;
      settled = with_items c.args.self.now.settled c.take_rounds.new.settled;
      marks = with_items c.args.self.now.marks c.mark_zones.new.marks;
    }) refl floors
    (subst (ZonesStand site kept (done_newest_first operations) before now)
    (sym (written c.args.self.now.settled c.take_rounds.new.settled (taken.whole ∙ sym earlier.whole))) taken)
