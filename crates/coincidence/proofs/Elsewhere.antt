-- An operation of another panel changes nothing of what this panel's answers mean, so that the part stands
-- for the operations of the whole site.
use Rattle.std.proofs.Common.{◌≡◌, ℕ, suc, Bool, true, false, not, List, [], ◌∷◌, Option, Some, None, slice_get, ◌==◌, ◌&&◌, ◌||◌, if◌then◌else◌, refl, sym, ◌∙◌, ap}
use Rattle.std.proofs.lemmas.Bool.{ne_eqb}
use Rattle.tick_units.specs.declared.tick.Tick.{Tick}
use Rattle.tick_units.specs.declared.switch.Switch.{Switch}
use Rattle.site_types.specs.declared.site.Site.{Site}
use Rattle.site_types.specs.declared.point.Point.{Point as PointPlan}
use Rattle.site_types.specs.declared.zone.Zone.{Zone as ZonePlan}
use Rattle.site_types.specs.declared.answer.Answer.{Answer}
use Rattle.site_types.specs.declared.rule.Rule.{Rule}
use Rattle.site_types.specs.declared.retained.Retained.{Retained}
use Rattle.site_types.specs.declared.item.Item.TheVariants.{Point, Zone, Output}
use Rattle.site_types.specs.declared.operation.Operation.{Operation}
use Rattle.site_types.specs.declared.operation.Operation.TheVariants.{Mute, Override, Silence, Resound, Reset, Cancel, Disable, Enable, Test, Untest, Delays, Clear}
use Rattle.site_types.specs.Valid.{HasZone}
use Rattle.site_types.specs.Done.{Done, Setting, PointOff, ZoneOff, InTest, is_on, in_force, is_floor, moves_floor, floor_before, cancels, is_zone_blocked}
use Rattle.coincidence_rules.specs.Places.{is_of, is_detector}
use Rattle.coincidence_rules.specs.Counted.{is_alarm, is_counted}
use Rattle.coincidence_rules.specs.Kept.{run_then, run_of, latest_besides, makes_pairs, may_pair}
use Rattle.coincidence_rules.proofs.Elsewhere.{IsElsewhere, force_same, latest_same, last_same}
use Rattle.coincidence.specs.declared.decide.Decide.{Decide}
use Rattle.coincidence.specs.Premises.{IsOwn}
use Rattle.coincidence.specs.Stands.{is_move, is_reset, moves, resets, set_in, TellsSetting, DecidesFor}

-- what is no floor of a zone is no disabling or test of it
moves_not : (site : Site) (place at : ℕ) (operation : Operation) → is_floor site place at operation ≡ false → is_move place operation ≡ false
moves_not site place at (Disable (Point p)) h = refl
moves_not site place at (Disable (Zone z)) h = h
moves_not site place at (Disable (Output o)) h = refl
moves_not site place at (Test z) h = h
moves_not site place at (Enable item) h = refl
moves_not site place at (Untest z) h = refl
moves_not site place at (Cancel z) h = refl
moves_not site place at (Delays on) h = refl
moves_not site place at Mute h = refl
moves_not site place at Override h = refl
moves_not site place at Silence h = refl
moves_not site place at Resound h = refl
moves_not site place at Reset h = refl
moves_not site place at Clear h = refl

and_false : (b : Bool) → (b && false) ≡ false
and_false true = refl
and_false false = refl

module _ (site : Site) (kept : Retained) (panel : ℕ) (done : List Done) (d : Done) (away : IsElsewhere site panel d) where
  reset_not : resets panel d ≡ false
  reset_not = ap (λ b. is_reset d.operation && b) (ne_eqb d.panel panel away.apart) ∙ and_false (is_reset d.operation)

  tells_same : (setting : Setting) (switch : Switch) → is_on setting d ≡ false → TellsSetting site kept setting done switch
      → TellsSetting site kept setting (d ∷ done) switch
  tells_same setting switch e h =
      record { at = λ x since. force_same done d site kept setting x e ∙ h.at x since; since = h.since ∙ sym (ap (λ b. if b then d.tick else set_in setting done) e) }

  module _ (zoned : (place : ℕ) (point : PointPlan) → slice_get site.points place ≡ Some point → HasZone site point.panel point.zone) where
    counted_same : (a : Answer) → IsOwn site panel a.point → is_counted site kept (d ∷ done) a ≡ is_counted site kept done a
    counted_same a own =
        let zone = zoned a.point own.point own.is in
        let x = a.stamp.0 in
        ap (λ o. is_alarm a.heard && not (in_force site kept (PointOff a.point) x (d ∷ done) || is_zone_blocked site kept (d ∷ done) o x)) own.is
        ∙ ap (λ b. is_alarm a.heard
        && not (b || (in_force site kept (ZoneOff own.point.zone) x (d ∷ done) || in_force site kept (InTest own.point.zone) x (d ∷ done))))
        (force_same done d site kept (PointOff a.point) x (away.points a.point own.point own.is own.at))
        ∙ ap (λ b. is_alarm a.heard
        && not (in_force site kept (PointOff a.point) x done || (b || in_force site kept (InTest own.point.zone) x (d ∷ done))))
        (force_same done d site kept (ZoneOff own.point.zone) x (away.offs own.point.zone zone.zone zone.is (zone.at_panel ∙ own.at)))
        ∙ ap (λ b. is_alarm a.heard
        && not (in_force site kept (PointOff a.point) x done || (in_force site kept (ZoneOff own.point.zone) x done || b)))
        (force_same done d site kept (InTest own.point.zone) x (away.tests own.point.zone zone.zone zone.is (zone.at_panel ∙ own.at)))
        ∙ ap (λ o. is_alarm a.heard && not (in_force site kept (PointOff a.point) x done || is_zone_blocked site kept done o x)) (sym own.is)

    run_same : (zone : ℕ) (plan : ZonePlan) → slice_get site.zones zone ≡ Some plan → plan.panel ≡ panel
        → (point : ℕ) (first : Option Tick) (taken : List Answer) → ((k : ℕ) (a : Answer) → slice_get taken k ≡ Some a → IsOwn site panel a.point)
        → run_of (is_counted site kept done) (λ x. floor_before site zone x done) point first taken ≡ run_of (is_counted site kept (d ∷ done))
        (λ x. floor_before site zone x (d ∷ done)) point first taken
    run_same zone plan is at point first [] own = refl
    run_same zone plan is at point first (x ∷ xs) own =
        run_same zone plan is at point (if x.point == point then run_then (is_counted site kept done x) (floor_before site zone x.stamp.0 done)
        x.stamp first else first) xs (λ k a h. own (suc k) a h)
        ∙ ap (λ b. run_of (is_counted site kept (d ∷ done)) (λ y. floor_before site zone y (d ∷ done)) point
        (if x.point == point then run_then b (floor_before site zone x.stamp.0 done) x.stamp first else first) xs)
        (sym (counted_same x (own 0 x refl)))
        ∙ ap (λ n. run_of (is_counted site kept (d ∷ done)) (λ y. floor_before site zone y (d ∷ done)) point
        (if x.point == point then run_then (is_counted site kept (d ∷ done) x) n x.stamp first else first) xs)
        (sym (latest_same done d (moves_floor site zone) x.stamp.0 (away.floors zone plan is at)))

    besides_same : (zone : ℕ) (rule : Rule) (point : ℕ) (stamp : Option Tick) (taken : List Answer)
        → ((k : ℕ) (a : Answer) → slice_get taken k ≡ Some a → IsOwn site panel a.point)
        → latest_besides (may_pair site kept done zone rule) point stamp taken ≡ latest_besides (may_pair site kept (d ∷ done) zone rule) point stamp
        taken
    besides_same zone rule point stamp [] own = refl
    besides_same zone rule point stamp (x ∷ xs) own =
        besides_same zone rule point (if may_pair site kept done zone rule x && not (x.point == point) then Some x.stamp else stamp) xs
        (λ k a h. own (suc k) a h)
        ∙ ap (λ b. latest_besides (may_pair site kept (d ∷ done) zone rule) point (if (is_of site zone x.point && (b && makes_pairs rule (is_detector site x.point))) && not (x.point == point) then Some x.stamp else stamp) xs) (sym (counted_same x (own 0 x refl)))

  pub stands_elsewhere : (taken : List Answer) (decide : Decide) → DecidesFor site kept panel done taken decide
      → DecidesFor site kept panel (d ∷ done) taken decide
  stands_elsewhere taken decide h = record {
    wired = h.wired;
    at = h.at;
    point_count = h.point_count;
    zone_count = h.zone_count;
    points = λ place watch point there is own.
        let w = h.points place watch point there is own in
        let zone = h.wired.zoned place point is in
        record {
          zone = w.zone;
          manual = w.manual;
          off = tells_same (PointOff place) watch.off (away.points place point is own) w.off;
          silent = w.silent;
          few = w.few;
          run = w.run ∙ run_same h.wired.zoned point.zone zone.zone zone.is (zone.at_panel ∙ own) place None taken h.own;
        };
    zones = λ place watch zone there is own.
        let w = h.zones place watch zone there is own in
        record {
          number = w.number;
          rule = w.rule;
          partner = w.partner;
          off = tells_same (ZoneOff place) watch.off (away.offs place zone is own) w.off;
          test = tells_same (InTest place) watch.test (away.tests place zone is own) w.test;
          moved = last_same done d (moves place) watch.moved (moves_not site place d.panel d.operation (away.floors place zone is own)) w.moved;
          cancelled = last_same done d (cancels place) watch.cancelled (away.cancelled place zone is own) w.cancelled;
          recent = λ point. w.recent point ∙ besides_same h.wired.zoned place zone.rule point None taken h.own;
        };
    reset = last_same done d (resets panel) decide.reset reset_not h.reset;
    going_on = h.going_on;
    order = h.order;
    own = h.own;
    told = h.told;
  }
