-- What is kept after an operation stands for one more operation.
use Rattle.std.proofs.Common.{◌≡◌, ℕ, suc, ◌<◌, ◌≤◌, Bool, true, false, not, List, [], ◌∷◌, length, Option, Some}
use Rattle.std.proofs.Common.{None, slice_get, get_or, ◌==◌, ◌&&◌, nat_lt, if◌then◌else◌, refl, sym, ◌∙◌, ap}
use Rattle.std.proofs.Common.{subst, arith}
use Rattle.tick_units.specs.declared.tick.Tick.{Tick}
use Rattle.tick_units.specs.declared.switch.Switch.{Switch}
use Rattle.site_types.specs.declared.site.Site.{Site}
use Rattle.site_types.specs.declared.point.Point.{Point as PointPlan}
use Rattle.site_types.specs.declared.zone.Zone.{Zone as ZonePlan}
use Rattle.site_types.specs.declared.answer.Answer.{Answer}
use Rattle.site_types.specs.declared.rule.Rule.{Rule}
use Rattle.site_types.specs.declared.retained.Retained.{Retained}
use Rattle.site_types.specs.declared.operation.Operation.{Operation}
use Rattle.site_types.specs.Done.{Done, Setting, PointOff, ZoneOff, InTest, is_on, value_set, in_force, floor_before, cancels, AreBy}
use Rattle.site_types.proofs.Done.{lt_true, blocked-later, floor-yet}
use Rattle.coincidence_rules.specs.Counted.{is_alarm, is_counted}
use Rattle.coincidence_rules.specs.Places.{is_of, is_detector}
use Rattle.coincidence_rules.specs.Kept.{run_then, run_of, latest_besides, makes_pairs, may_pair}
use Rattle.coincidence.specs.declared.point_watch.PointWatch.{PointWatch}
use Rattle.coincidence.specs.declared.zone_watch.ZoneWatch.{ZoneWatch}
use Rattle.coincidence.specs.declared.decide.Decide.{Decide}
use Rattle.coincidence.specs.Parts.{switch_after}
use Rattle.tick_units.specs.LastTicks.{last_if}
use Rattle.coincidence.specs.ZoneMasks.{TellZonesOf}
use Rattle.coincidence.specs.Stands.{resets, moves, set_in, TellsSetting, WatchesPoint, WatchesZone, IsOwnZone, DecidesFor}
use Rattle.coincidence_rules.proofs.LastDone.{told_last}
use Rattle.coincidence_rules.specs.Applied.{NoneIn, TellsLast}
use Rattle.answer_lanes.specs.declared.place_set.PlaceSet.{PlaceSet}
use Rattle.answer_lanes.specs.Places.{HasNone}
use Rattle.coincidence.proofs.Marked.{none_going}
use Rattle.coincidence.specs.Premises.{IsOwn, MayApply}
use Rattle.coincidence.proofs.Watched.{read_is, watched, watched_zone}

abbrev pub done_now : Tick → ℕ → Operation → Done
done_now at panel operation = record { tick = at.0; panel = panel; operation = operation }

-- the last operation on a setting was before this tick
set_before : (tick : ℕ) (setting : Setting) (done : List Done) → 1 ≤ tick → AreBy tick done → NoneIn tick setting done → set_in setting done < tick
set_before tick setting [] one by' none = one
set_before tick setting (d ∷ ds) one by' none = go (is_on setting d) refl (set_before tick setting ds one by'.1 none.1)
  where
    go : (b : Bool) → is_on setting d ≡ b → set_in setting ds < tick → (if b then d.tick else set_in setting ds) < tick
    go true e rest = let apart = none.0 e in omega (arith, apart, by'.0)
    go false e rest = rest

module _ (at : Tick) (panel : ℕ) (operation : Operation) where
  abbrev d : Done
  d = done_now at panel operation

  abbrev switch_then : Setting → Switch → Switch
  switch_then setting switch = if is_on setting d then switch_after (value_set operation) at switch else switch

  abbrev pub point_then : ℕ → PointWatch → PointWatch
  point_then place watch = record watch { off = switch_then (PointOff place) watch.off }

  abbrev pub zone_then : ℕ → ZoneWatch → ZoneWatch
  zone_then place watch = record watch {
    off = switch_then (ZoneOff place) watch.off;
    test = switch_then (InTest place) watch.test;
    moved = last_if (moves place d) at watch.moved;
    cancelled = last_if (cancels place d) at watch.cancelled;
  }

module _ (site : Site) (kept : Retained) (done : List Done) (at : Tick) (panel : ℕ) (operation : Operation) (by' : AreBy at.0 done) where
  tells_then : (setting : Setting) (switch : Switch) → (is_on setting (done_now at panel operation) ≡ true → switch.since.0 < at.0)
      → TellsSetting site kept setting done switch
      → TellsSetting site kept setting (done_now at panel operation ∷ done) (switch_then at panel operation setting switch)
  tells_then setting switch before h = go (is_on setting (done_now at panel operation)) refl
    where
      go : (b : Bool) → is_on setting (done_now at panel operation) ≡ b
          → TellsSetting site kept setting (done_now at panel operation ∷ done) (if b then switch_after (value_set operation) at switch else switch)
      go false e = record {
        at = λ x since. ap (λ b. if b && nat_lt at.0 x then value_set operation else in_force site kept setting x done) e ∙ h.at x since;
        since = h.since ∙ sym (ap (λ b. if b then at.0 else set_in setting done) e);
      }
      go true e = record {
        at = λ x since.
            let earlier = before e in
            let later : switch.since.0 < x = omega (arith, earlier, since) in
            let was : in_force site kept setting x done ≡ switch.now =
            h.at x (omega (arith, later)) ∙ ap (λ b. if b then switch.now else switch.was) (lt_true switch.since.0 x later) in
            ap (λ b. if b && nat_lt at.0 x then value_set operation else in_force site kept setting x done) e ∙ ap
            (λ b. if nat_lt at.0 x then value_set operation else b) was;
        since = sym (ap (λ b. if b then at.0 else set_in setting done) e);
      }

  -- what the answers taken up to the tick meant is what they meant
  counted_yet : (a : Answer) → a.stamp.0 ≤ at.0 → is_counted site kept (done_now at panel operation ∷ done) a ≡ is_counted site kept done a
  counted_yet a le =
      ap (λ b. is_alarm a.heard && not b) (blocked-later site kept a.point a.stamp.0 ((done_now at panel operation) ∷ []) done (le, tt))

  run_yet : (zone point : ℕ) (first : Option Tick) (taken : List Answer) → ((k : ℕ) (a : Answer) → slice_get taken k ≡ Some a → a.stamp.0 ≤ at.0)
      → run_of (is_counted site kept done) (λ x. floor_before site zone x done) point first taken
      ≡ run_of (is_counted site kept (done_now at panel operation ∷ done)) (λ x. floor_before site zone x (done_now at panel operation ∷ done))
      point first taken
  run_yet zone point first [] late = refl
  run_yet zone point first (x ∷ xs) late =
      let le = late 0 x refl in
      run_yet zone point (if x.point == point then run_then (is_counted site kept done x) (floor_before site zone x.stamp.0 done) x.stamp first else
      first) xs (λ k a is. late (suc k) a is)
      ∙ ap (λ b. run_of (is_counted site kept (done_now at panel operation ∷ done)) (λ y. floor_before site zone y (done_now at panel operation ∷ done)) point (if x.point == point then run_then b (floor_before site zone x.stamp.0 done) x.stamp first else first) xs) (sym (counted_yet x le))
      ∙ ap (λ n. run_of (is_counted site kept (done_now at panel operation ∷ done)) (λ y. floor_before site zone y (done_now at panel operation ∷ done)) point (if x.point == point then run_then (is_counted site kept (done_now at panel operation ∷ done) x) n x.stamp first else first) xs) (sym (floor-yet site zone x.stamp.0 (done_now at panel operation) done le))

  besides_yet : (zone : ℕ) (rule : Rule) (point : ℕ) (stamp : Option Tick) (taken : List Answer)
      → ((k : ℕ) (a : Answer) → slice_get taken k ≡ Some a → a.stamp.0 ≤ at.0)
      → latest_besides (may_pair site kept done zone rule) point stamp taken
      ≡ latest_besides (may_pair site kept (done_now at panel operation ∷ done) zone rule) point stamp taken
  besides_yet zone rule point stamp [] late = refl
  besides_yet zone rule point stamp (x ∷ xs) late =
      besides_yet zone rule point (if may_pair site kept done zone rule x && not (x.point == point) then Some x.stamp else stamp) xs
      (λ k a is. late (suc k) a is)
      ∙ ap (λ b. latest_besides (may_pair site kept (done_now at panel operation ∷ done) zone rule) point
      (if (is_of site zone x.point && (b && makes_pairs rule (is_detector site x.point))) && not (x.point == point) then Some x.stamp else stamp)
      xs) (sym (counted_yet x (late 0 x refl)))

  module _ (taken : List Answer) (late : (k : ℕ) (a : Answer) → slice_get taken k ≡ Some a → a.stamp.0 ≤ at.0) (before : (setting : Setting)
      → is_on setting (done_now at panel operation) ≡ true → set_in setting done < at.0) where
    point_stands : (place : ℕ) (point : PointPlan) (watch : PointWatch) → WatchesPoint site kept done taken place point watch
        → WatchesPoint site kept (done_now at panel operation ∷ done) taken place point (point_then at panel operation place watch)
    point_stands place point watch h = record {
      zone = h.zone;
      manual = h.manual;
      off = tells_then (PointOff place) watch.off (λ e. subst (λ n. n < at.0) (sym h.off.since) (before (PointOff place) e)) h.off;
      silent = h.silent;
      few = h.few;
      run = h.run ∙ run_yet point.zone place None taken late;
    }

    zone_stands : (place : ℕ) (zone : ZonePlan) (watch : ZoneWatch) → WatchesZone site kept done taken place zone watch
        → WatchesZone site kept (done_now at panel operation ∷ done) taken place zone (zone_then at panel operation place watch)
    zone_stands place zone watch h = record {
      number = h.number;
      rule = h.rule;
      partner = h.partner;
      off = tells_then (ZoneOff place) watch.off (λ e. subst (λ n. n < at.0) (sym h.off.since) (before (ZoneOff place) e)) h.off;
      test = tells_then (InTest place) watch.test (λ e. subst (λ n. n < at.0) (sym h.test.since) (before (InTest place) e)) h.test;
      moved = told_last (moves place) (done_now at panel operation) done at watch.moved _ refl refl by' h.moved;
      cancelled = told_last (cancels place) (done_now at panel operation) done at watch.cancelled _ refl refl by' h.cancelled;
      recent = λ point. h.recent point ∙ besides_yet place zone.rule point None taken late;
    }

-- each part is what the operation makes of it
pub record IsAfter (at : Tick) (panel : ℕ) (operation : Operation) (old next : Decide) : Type 0 where
  pub same_panel : next.panel ≡ old.panel
  pub point_count : length next.points ≡ length old.points
  pub zone_count : length next.zones.items ≡ length old.zones.items
  pub points : (place : ℕ) (watch : PointWatch) → slice_get next.points place ≡ Some watch
      → (was : PointWatch) × (slice_get old.points place ≡ Some was) × (watch ≡ point_then at panel operation place was)
  pub zones : (place : ℕ) (watch : ZoneWatch) → slice_get next.zones.items place ≡ Some watch
      → (was : ZoneWatch) × (slice_get old.zones.items place ≡ Some was) × (watch ≡ zone_then at panel operation place was)
  pub reset : next.reset ≡ last_if (resets panel (done_now at panel operation)) at old.reset
  pub going_on : next.going_on ≡ old.going_on
  pub told : next.told.blocks.items ≡ old.told.blocks.items

pub stands_after : (site : Site) (kept : Retained) (panel : ℕ) (done : List Done) (taken : List Answer) (old next : Decide) (at : Tick) (operation :
    Operation) → DecidesFor site kept panel done taken old → MayApply site panel done taken operation at.0
    → HasNone old.going_on → IsAfter at panel operation old next
    → DecidesFor site kept panel (done_now at panel operation ∷ done) taken next
stands_after site kept panel done taken old next at operation stands may none after =
    let before = λ (setting : Setting) (e : is_on setting (done_now at panel operation) ≡ true).
    set_before at.0 setting done may.next.from_one may.next.since (may.next.once setting e) in
    record {
      wired = stands.wired;
      at = after.same_panel ∙ stands.at;
      point_count = after.point_count ∙ stands.point_count;
      zone_count = after.zone_count ∙ stands.zone_count;
      points = λ place watch point there is own.
          let was = after.points place watch there in
          subst (WatchesPoint site kept (done_now at panel operation ∷ done) taken place point) (sym was.2)
          (point_stands site kept done at panel operation may.next.since taken may.late before place point was.0
          (stands.points place was.0 point was.1 is own));
      zones = λ place watch zone there is own.
          let was = after.zones place watch there in
          subst (WatchesZone site kept (done_now at panel operation ∷ done) taken place zone) (sym was.2)
          (zone_stands site kept done at panel operation may.next.since taken may.late before place zone was.0
          (stands.zones place was.0 zone was.1 is own));
      reset =
          subst (TellsLast (resets panel) (done_now at panel operation ∷ done)) (sym after.reset)
          (told_last (resets panel) (done_now at panel operation) done at old.reset _ refl refl may.next.since stands.reset);
      going_on =
          let points = after.point_count in
          let places = ap (λ (o : PlaceSet). length o.bytes.items) after.going_on in
          let room = stands.going_on.room in
          none_going next.going_on (omega (arith, points, places, room)) (subst HasNone (sym after.going_on) none);
      order = stands.order;
      own = stands.own;
      told = subst (TellZonesOf site.points site.zones) (sym after.told) stands.told;
    }

-- a switch was last set before the tick
pub zone_since : {site : Site} {kept : Retained} {panel : ℕ} {done : List Done} {taken : List Answer} {decide : Decide}
    → DecidesFor site kept panel done taken decide → (operation : Operation) (at : Tick) → MayApply site panel done taken operation at.0
    → (place : ℕ) → IsOwnZone site panel place → (watch : ZoneWatch) → watch ≡ get_or decide.zones.items place watch
    → ((is_on (ZoneOff place) (done_now at panel operation) ≡ true) → watch.off.since.0 < at.0)
    × ((is_on (InTest place) (done_now at panel operation) ≡ true) → watch.test.since.0 < at.0)
zone_since {panel = panel} {done = done} {decide = decide} stands operation at may place own watch e =
    let w = watched_zone stands place own.zone own.is own.at in
    let same : watch ≡ w.zone_watch = read_is decide.zones.items place watch w.zone_watch e w.is_zone_watch in (
      λ on. subst (λ (o : ZoneWatch). o.off.since.0 < at.0) (sym same)
          (subst (λ n. n < at.0) (sym w.watches.off.since)
          (set_before at.0 (ZoneOff place) done may.next.from_one may.next.since (may.next.once (ZoneOff place) on))),
      λ on. subst (λ (o : ZoneWatch). o.test.since.0 < at.0) (sym same)
          (subst (λ n. n < at.0) (sym w.watches.test.since)
          (set_before at.0 (InTest place) done may.next.from_one may.next.since (may.next.once (InTest place) on))),
    )

pub point_since : {site : Site} {kept : Retained} {panel : ℕ} {done : List Done} {taken : List Answer} {decide : Decide}
    → DecidesFor site kept panel done taken decide → (operation : Operation) (at : Tick) → MayApply site panel done taken operation at.0
    → (place : ℕ) → IsOwn site panel place → (watch : PointWatch) → watch ≡ get_or decide.points place watch
    → (is_on (PointOff place) (done_now at panel operation) ≡ true) → watch.off.since.0 < at.0
point_since {panel = panel} {done = done} {decide = decide} stands operation at may place own watch e on =
    let w = watched stands place own in
    let same : watch ≡ w.watch = read_is decide.points place watch w.watch e w.is_watch in
    subst (λ (o : PointWatch). o.off.since.0 < at.0) (sym same)
    (subst (λ n. n < at.0) (sym w.watches.off.since)
    (set_before at.0 (PointOff place) done may.next.from_one may.next.since (may.next.once (PointOff place) on)))
