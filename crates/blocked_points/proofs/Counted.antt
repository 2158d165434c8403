-- How far the operations that were done before a tick go, in the order that they were done in.
use Rattle.std.proofs.Common.{◌≡◌, ◌∙◌, ℕ, zero, suc, ◌+◌, ◌≤◌, ◌<◌, List, [], ◌∷◌, take, length, get_or, Some, slice_get, inl, inr, refl, ap, arith}
use Rattle.std.proofs.lemmas.Bool.{cases_lt}
use Rattle.std.proofs.lemmas.List.{take_more}
use Rattle.std.proofs.lemmas.Option.{slice_get_within}
use Rattle.blocked_points.specs.declared.done_operation.DoneOperation.{DoneOperation}
use Rattle.blocked_points.specs.Operations.{AreDoneInOrder, as_done, done_newest_first}
use Rattle.blocked_points.proofs.InForce.{and_done-append}

some_at : (operations : List DoneOperation) (place : ℕ) → place < length operations → (d : DoneOperation) × (slice_get operations place ≡ Some d)
some_at [] place less = absurd (omega (arith, less))
some_at (d ∷ rest) zero less = (d, refl)
some_at (d ∷ rest) (suc place) less = some_at rest place (omega (arith, less))

-- one more of them is the newest
pub one_more_done : (operations : List DoneOperation) (place : ℕ) (other : DoneOperation) → place < length operations
    → done_newest_first (take (place + 1) operations) ≡ as_done (get_or operations place other) ∷ done_newest_first (take place operations)
one_more_done operations place other less =
    ap done_newest_first (take_more operations place other less) ∙ and_done-append (take place operations) (get_or operations place other) []

-- those up to a place were done before an earlier tick, and those behind them up to an end before this one
pub earlier_on : (operations : List DoneOperation) (from end tick now : ℕ) → tick ≤ now
    → ((place : ℕ) (d : DoneOperation) → place < from → slice_get operations place ≡ Some d → d.tick.0 < tick)
    → ((place : ℕ) (d : DoneOperation) → from ≤ place → place < end → slice_get operations place ≡ Some d → d.tick.0 < now)
    → (place : ℕ) (d : DoneOperation) → place < end → slice_get operations place ≡ Some d → d.tick.0 < now
earlier_on operations from end tick now up before behind place d less at =
    elim (cases_lt place from) [
      | inl l ↦ (let b = before place d l at in omega (arith, b, up))
      | inr l ↦ behind place d l less at
    ]

-- the one at the end wasn't, nor was one behind it
pub later_on : (operations : List DoneOperation) (end now : ℕ) → AreDoneInOrder operations
    → ((d : DoneOperation) → slice_get operations end ≡ Some d → now ≤ d.tick.0)
    → (place : ℕ) (d : DoneOperation) → end ≤ place → slice_get operations place ≡ Some d → now ≤ d.tick.0
later_on operations end now in_order later place d more at =
    let inside = slice_get_within operations place d at in
    let first = some_at operations end (omega (arith, more, inside)) in
    let low = later first.0 first.1 in
    let order = in_order end place first.0 d more first.1 at in
    omega (arith, low, order)
