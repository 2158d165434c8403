-- What is kept of operations is what those before a tick leave.
use Rattle.std.proofs.Common.{◌≡◌, ℕ, zero, suc, ◌≤◌, ◌<◌, max, Bool, List}
use Rattle.std.proofs.Common.{[], ◌∷◌, take, length, Some, slice_get, refl, sym, ◌∙◌, ap, subst, arith, if◌then◌else◌}
use Rattle.site_types.specs.declared.site.Site.{Site}
use Rattle.site_types.specs.Done.{Done, cancels, latest_before, moves_floor}
use Rattle.site_types.proofs.Done.{latest-then, latest-yet}
use Rattle.blocked_points.specs.declared.done_operation.DoneOperation.{DoneOperation}
use Rattle.blocked_points.specs.Operations.{and_later_done, as_done, done_newest_first}
use Rattle.blocked_points.proofs.Counted.{earlier_on, later_on}
use Rattle.zone_signals.specs.declared.floors.Floors.{Floors}
use Rattle.zone_signals.specs.declared.zone_floor.ZoneFloor.{ZoneFloor}
use Rattle.zone_signals.specs.Floors.{AreFloors, FloorsStand, RowsStand, latest_in}

-- ---- operations before a tick

module _ (test : Done → Bool) (tick : ℕ) where
  later_same : (operations : List DoneOperation) (before : List Done)
      → ((place : ℕ) (d : DoneOperation) → slice_get operations place ≡ Some d → tick ≤ d.tick.0)
      → latest_before test tick (and_later_done operations before) ≡ latest_before test tick before
  later_same [] before from = refl
  later_same (d ∷ rest) before from =
      later_same rest (as_done d ∷ before) (λ place e at. from (suc place) e at) ∙ latest-yet test tick (as_done d) before (from 0 d refl)

  latest_is : (operations : List DoneOperation) (n : ℕ) (before : List Done)
      → ((place : ℕ) (d : DoneOperation) → place < n → slice_get operations place ≡ Some d → d.tick.0 < tick)
      → ((place : ℕ) (d : DoneOperation) → n ≤ place → slice_get operations place ≡ Some d → tick ≤ d.tick.0)
      → latest_before test tick before ≡ latest_in test before
      → latest_before test tick (and_later_done operations before) ≡ latest_in test (and_later_done (take n operations) before)
  latest_is [] zero before earlier later is = is
  latest_is [] (suc n) before earlier later is = is
  latest_is (d ∷ rest) zero before earlier later is =
      later_same (d ∷ rest) before (λ place e at. later place e (omega arith) at) ∙ is
  latest_is (d ∷ rest) (suc n) before earlier later is =
      latest_is rest n (as_done d ∷ before) (λ place e less at. earlier (suc place) e (omega (arith, less)) at)
      (λ place e more at. later (suc place) e (omega (arith, more)) at)
      (latest-then test tick (as_done d) before (earlier 0 d (omega arith) refl)
      ∙ ap (λ v. if test (as_done d) then max d.tick.0 v else v) is)

pub floors_known : (site : Site) (operations : List DoneOperation) (tick : ℕ) (floors : Floors) → FloorsStand site operations tick floors
    → AreFloors site (done_newest_first operations) tick floors.rows.items
floors_known site operations tick floors stands = record {
  whole = stands.known.whole;
  each = λ zone row at.
      let is = stands.known.each zone row at in
      record {
        floor = is.floor ∙ sym (latest_is (moves_floor site zone) tick operations floors.taken [] stands.earlier stands.later refl);
        cancelled = is.cancelled ∙ sym (latest_is (cancels zone) tick operations floors.taken [] stands.earlier stands.later refl);
      };
}

-- ---- the tick goes on

pub floors_go_on : (site : Site) (operations : List DoneOperation) (tick now end : ℕ) (old new : Floors) → new.taken ≡ end
    → FloorsStand site operations tick old → tick ≤ now → old.taken ≤ end → end ≤ length operations
    → ((place : ℕ) (d : DoneOperation) → old.taken ≤ place → place < end → slice_get operations place ≡ Some d → d.tick.0 < now)
    → ((d : DoneOperation) → slice_get operations end ≡ Some d → now ≤ d.tick.0)
    → RowsStand site (done_newest_first (take end operations)) new.rows.items → FloorsStand site operations now new
floors_go_on site operations tick now end old new is stands up from within earlier later rows = record {
  in_order = stands.in_order;
  within = omega (arith, is, within);
  earlier = subst (λ n. (place : ℕ) (d : DoneOperation) → place < n → slice_get operations place ≡ Some d → d.tick.0 < now) (sym is)
      (earlier_on operations old.taken end tick now up stands.earlier earlier);
  later = subst (λ n. (place : ℕ) (d : DoneOperation) → n ≤ place → slice_get operations place ≡ Some d → now ≤ d.tick.0) (sym is)
      (later_on operations end now stands.in_order later);
  known = subst (λ n. RowsStand site (done_newest_first (take n operations)) new.rows.items) (sym is) rows;
}
