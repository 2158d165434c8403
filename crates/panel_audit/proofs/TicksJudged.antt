-- What the parts of an auditor owe one another when a tick is taken.
use Rattle.std.proofs.Common.{◌≡◌, ◌∙◌, ◌+◌, ◌<◌, ◌↔◌, ℕ, zero, suc, List, [], ◌∷◌, refl, sym, subst, arith, length, get_or, Option, Some, None, slice_get, set, ◌⊎◌, ◌≢◌, inl, inr, take}
use Rattle.std.proofs.Common.{◌++◌}
use Rattle.std.proofs.lemmas.List.{take_all, take-append-le}
use Rattle.site_types.specs.declared.retained.Retained.{Retained}
use Rattle.site_types.specs.declared.site.Site.{Site}
use Rattle.site_types.specs.Done.{Done}
use Rattle.site_types.specs.Profile.{round_of}
use Rattle.panel_rules.specs.Due.{IsDue, IsDueByHand, IsDueOut}
use Rattle.panel_rules.specs.Moments.{Moment, TickBlock, moments}
use Rattle.run_text.proofs.TickTimes.{tick_moments, up_to_earlier}
use Rattle.blocked_points.specs.declared.done_operation.DoneOperation.{DoneOperation}
use Rattle.blocked_points.specs.Operations.{done_newest_first}
use Rattle.point_runs.specs.declared.point_run.PointRun.{PointRun}
use Rattle.point_runs.specs.Runs.{RunStands}
use Rattle.signal_points.specs.Signalling.{signals_at}
use Rattle.signal_points.specs.Stands.{AreSignalRuns}
use Rattle.signal_points.proofs.Tests.{signals_by_test, test_of_signals}
use Rattle.zone_signals.specs.StandsFor.{IsDueSince, IsNextTick, AreRunsOfSignals as AreRunsOf}
use Rattle.due_zones.specs.Deciding.{AreDecisive}
use Rattle.due_zones.specs.Reaching.{IsDueFrom}

got : {X : Type 0} (xs : List X) (k : ℕ) (x d : X) → slice_get xs k ≡ Some x → (k < length xs) × (get_or xs k d ≡ x)
got [] k x d is = cc
got (y ∷ ys) zero x d is = (omega arith, some_is is)
  where
    some_is : Some y ≡ Some x → y ≡ x
    some_is e = cc
got (y ∷ ys) (suc k) x d is = (let rest = got ys k x d is in let low = rest.0 in (omega (arith, low), rest.1))

-- the runs of points are those that zones are judged by
pub runs_told : (site : Site) (kept : Retained) (operations : List DoneOperation) (ticks : List TickBlock) (runs : List PointRun)
    → AreSignalRuns site kept operations ticks runs → AreRunsOf site kept operations (moments ticks) runs
runs_told site kept operations ticks runs are =
    let test = signals_at site kept (done_newest_first operations) (moments ticks) in
    record {
      signals = test;
      tells = λ point tick. (
        signals_by_test site kept (done_newest_first operations) (moments ticks) point tick,
        test_of_signals site kept (done_newest_first operations) (moments ticks) point tick,
      );
      whole = are.size;
      each = λ point run is. (
          let at = got runs point run run is in
          let low = at.0 in
          let size = are.size in
          subst (λ n. RunStands (test point) (round_of site.format) n run) (sym (tick_moments ticks))
          (subst (λ r. RunStands (test point) (round_of site.format) (length ticks) r) at.1 (are.each point run (omega (arith, low, size)))));
    }

-- a tick comes after the others
pub comes_next : (tick : TickBlock) (ticks : List TickBlock) → IsNextTick (moments ticks) (moments (tick ∷ ticks))
comes_next tick ticks =
    let before = tick_moments ticks in
    let now = tick_moments (tick ∷ ticks) in
    record {
      later = omega (arith, before, now);
      past = λ t by. up_to_earlier tick ticks t (omega (arith, before, by));
    }

pub now_is : (tick : TickBlock) (ticks : List TickBlock) (now : ℕ) → now ≡ length ticks + 1 → (now ≡ length (tick ∷ ticks))
now_is tick ticks now is = omega (arith, is)

pub since_from : (site : Site) (kept : Retained) (done : List Done) (moments : List Moment) (zone panel : ℕ) (settled : Option ℕ)
    → IsDueSince site kept done moments zone panel settled ↔ IsDueFrom site kept done moments zone panel settled
since_from site kept done moments zone panel None = (λ h. h, λ h. h)
since_from site kept done moments zone panel (Some settled) = (λ h. h, λ h. h)

-- ---- rows

pub cut_back : {X : Type 0} (xs ys : List X) (n : ℕ) → n ≡ length xs → take n (xs ++ ys) ≡ xs
cut_back xs ys n is = take-append-le n xs ys (omega (arith, is)) ∙ take_all n xs (omega (arith, is))

-- what stands at a place once another one was written
pub row_is : {X : Type 0} (rows : List X) (place : ℕ) (x : X) (other : ℕ) (row : X) → slice_get (set rows place x) other ≡ Some row
    → ((other ≡ place) × (x ≡ row)) ⊎ ((other ≢ place) × (slice_get rows other ≡ Some row))
row_is [] place x other row is = cc
row_is (r ∷ rows) zero x zero row is = inl (refl, some_is is)
  where
    some_is : Some x ≡ Some row → x ≡ row
    some_is e = cc
row_is (r ∷ rows) zero x (suc other) row is = inr (λ e. omega (arith, e), is)
row_is (r ∷ rows) (suc place) x zero row is = inr (λ e. omega (arith, e), is)
row_is (r ∷ rows) (suc place) x (suc other) row is =
    elim (row_is rows place x other row is) [
      | inl h ↦ (let same = h.0 in inl (omega (arith, same), h.1))
      | inr h ↦ inr (λ e. h.0 (omega (arith, e)), h.1)
    ]

pub row_within : {X : Type 0} (rows : List X) (k : ℕ) (x : X) → slice_get rows k ≡ Some x → k < length rows
row_within rows k x is = (got rows k x x is).0

through : {A B C : Type 0} → A ↔ B → B ↔ C → A ↔ C
through one other = (λ a. other.0 (one.0 a), λ c. one.1 (other.1 c))

module _ (site : Site) (kept : Retained) (done : List Done) (moments : List Moment) (zone : ℕ) where
  pub decisive_by : (a b c : Option ℕ) → ((panel : ℕ) → IsDue site kept done moments zone panel ↔ IsDueSince site kept done moments zone panel a)
      → ((panel : ℕ) → IsDueOut site kept done moments zone panel ↔ IsDueSince site kept done moments zone panel b)
      → ((panel : ℕ) → IsDueByHand site kept done moments zone panel ↔ IsDueSince site kept done moments zone panel c)
      → AreDecisive site kept done moments zone (record { shown = a; out = b; by_hand = c })
  decisive_by a b c shown out by_hand = record {
    shown = λ panel. through (shown panel) (since_from site kept done moments zone panel a);
    out = λ panel. through (out panel) (since_from site kept done moments zone panel b);
    by_hand = λ panel. through (by_hand panel) (since_from site kept done moments zone panel c);
  }
