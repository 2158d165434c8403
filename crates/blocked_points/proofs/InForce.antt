-- What is in force at a tick is what the operations before it set.
use Rattle.std.proofs.Common.{◌≡◌, ℕ, zero, suc, ◌≤◌, ◌<◌, List, [], ◌∷◌, ◌++◌, take, Option, Some, None, slice_get, ◌||◌, refl, sym, ◌∙◌, ap, arith, if◌then◌else◌}
use Rattle.site_types.specs.declared.point.Point.{Point}
use Rattle.site_types.specs.declared.retained.Retained.{Retained}
use Rattle.site_types.specs.declared.site.Site.{Site}
use Rattle.site_types.specs.Done.{Done, Setting, PointOff, ZoneOff, InTest, in_force, is_blocked, is_on, is_zone_blocked, value_set}
use Rattle.site_types.proofs.Done.{in_force-then, in_force-yet}
use Rattle.blocked_points.specs.declared.blocked_points.BlockedPoints.{BlockedPoints}
use Rattle.blocked_points.specs.declared.done_operation.DoneOperation.{DoneOperation}
use Rattle.blocked_points.specs.Operations.{done_newest_first, and_later_done, as_done, is_blocked_after, is_zone_blocked_after, value_behind}
use Rattle.blocked_points.specs.Stands.{StandsFor}

pub and_done-append : (operations : List DoneOperation) (d : DoneOperation) (before : List Done)
    → and_later_done (operations ++ d ∷ []) before ≡ as_done d ∷ and_later_done operations before
and_done-append [] d before = refl
and_done-append (first ∷ rest) d before = and_done-append rest d (as_done first ∷ before)

module _ (site : Site) (kept : Retained) (tick : ℕ) (setting : Setting) where
  later_same : (operations : List DoneOperation) (before : List Done)
      → ((place : ℕ) (d : DoneOperation) → slice_get operations place ≡ Some d → tick ≤ d.tick.0)
      → in_force site kept setting tick (and_later_done operations before) ≡ in_force site kept setting tick before
  later_same [] before from = refl
  later_same (d ∷ rest) before from =
      later_same rest (as_done d ∷ before) (λ place e at. from (suc place) e at)
      ∙ in_force-yet site kept setting tick (as_done d) before (from 0 d refl)

  pub in_force_is : (operations : List DoneOperation) (n : ℕ) (before : List Done)
      → ((place : ℕ) (d : DoneOperation) → place < n → slice_get operations place ≡ Some d → d.tick.0 < tick)
      → ((place : ℕ) (d : DoneOperation) → n ≤ place → slice_get operations place ≡ Some d → tick ≤ d.tick.0)
      → in_force site kept setting tick before ≡ value_behind site kept before setting
      → in_force site kept setting tick (and_later_done operations before) ≡ value_behind site kept (and_later_done (take n operations) before) setting
  in_force_is [] zero before earlier later is = is
  in_force_is [] (suc n) before earlier later is = is
  in_force_is (d ∷ rest) zero before earlier later is =
      later_same (d ∷ rest) before (λ place e at. later place e (omega arith) at) ∙ is
  in_force_is (d ∷ rest) (suc n) before earlier later is =
      in_force_is rest n (as_done d ∷ before) (λ place e less at. earlier (suc place) e (omega (arith, less)) at)
      (λ place e more at. later (suc place) e (omega (arith, more)) at)
      (in_force-then site kept setting tick (as_done d) before (earlier 0 d (omega arith) refl)
      ∙ ap (λ v. if is_on setting (as_done d) then value_set d.operation else v) is)

module _ (site : Site) (kept : Retained) (operations : List DoneOperation) (tick : ℕ) (blocked : BlockedPoints) (stands :
    StandsFor site kept operations tick blocked) where
  now : (setting : Setting) → in_force site kept setting tick (done_newest_first operations)
      ≡ value_behind site kept (done_newest_first (take blocked.in_force operations)) setting
  now setting = in_force_is site kept tick setting operations blocked.in_force [] stands.earlier stands.later refl

  zone_blocked_is : (point : Option Point) → is_zone_blocked site kept (done_newest_first operations) point tick
      ≡ is_zone_blocked_after site kept (done_newest_first (take blocked.in_force operations)) point
  zone_blocked_is None = refl
  zone_blocked_is (Some p) =
      ap (λ b. b || in_force site kept (InTest p.zone) tick (done_newest_first operations)) (now (ZoneOff p.zone))
      ∙ ap (λ b. value_behind site kept (done_newest_first (take blocked.in_force operations)) (ZoneOff p.zone) || b) (now (InTest p.zone))

  pub blocked_is : (place : ℕ) → is_blocked site kept (done_newest_first operations) place tick
      ≡ is_blocked_after site kept (done_newest_first (take blocked.in_force operations)) place
  blocked_is place =
      ap (λ b. b || is_zone_blocked site kept (done_newest_first operations) (slice_get site.points place) tick) (now (PointOff place))
      ∙ ap (λ b. value_behind site kept (done_newest_first (take blocked.in_force operations)) (PointOff place) || b)
      (zone_blocked_is (slice_get site.points place))

-- where the same operations are in force at two ticks, the same points are blocked
pub same_blocked : (site : Site) (kept : Retained) (operations : List DoneOperation) (tick other : ℕ) (blocked : BlockedPoints)
    → StandsFor site kept operations tick blocked → StandsFor site kept operations other blocked
    → (place : ℕ) → is_blocked site kept (done_newest_first operations) place tick ≡ is_blocked site kept (done_newest_first operations) place other
same_blocked site kept operations tick other blocked one two place =
    blocked_is site kept operations tick blocked one place ∙ sym (blocked_is site kept operations other blocked two place)
