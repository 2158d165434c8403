use Rattle.std.proofs.Common.{◌≡◌, ◌==◌, ℕ, length}
use Rattle.std.specs.List.{IsDistinct}
use Rattle.std.specs.Prelude.{count_by, not}
use Rattle.cause_effect.specs.Orders.{IsRising}
use Rattle.cause_effect.specs.Cycles.{is_among}
use Rattle.cause_effect.specs.Placed.{is_placed}
use Rattle.cause_effect.proofs.arranged.Arranged.of.Given as goal

abbrev pub invariant-loop-place : goal.invariant-loop-place
invariant-loop-place l = record {
  size : length l.placed ≡ 256;
  same : (m : ℕ) → is_placed l.placed m ≡ is_among m l.order.items;
  once : IsDistinct (λ x y. x == y) l.order.items;
  rising : IsRising l.site l.order.items;
}

abbrev pub decreases-loop-place : goal.decreases-loop-place
decreases-loop-place l = count_by not l.placed
