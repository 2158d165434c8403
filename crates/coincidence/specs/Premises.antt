-- What may come next: which answers may be taken after those taken, and which operation may be applied after
-- those done.
use Rattle.std.specs.Prelude.{◌≡◌, ◌≤◌, ℕ, true, List, ◌++◌, Some, slice_get}
use Rattle.site_types.specs.declared.site.Site.{Site}
use Rattle.site_types.specs.declared.point.Point.{Point}
use Rattle.site_types.specs.declared.answer.Answer.{Answer}
use Rattle.site_types.specs.declared.operation.Operation.{Operation}
use Rattle.site_types.specs.Events.{has_operands}
use Rattle.site_types.specs.Done.{Done, AreBy}
use Rattle.coincidence_rules.specs.Applied.{MayBeDone}
use Rattle.coincidence_rules.specs.InOrder.{AreInOrder}

-- the point is of the panel
pub record IsOwn (site : Site) (panel place : ℕ) : Type 0 where
  pub point : Point
  pub is : slice_get site.points place ≡ Some point
  pub at : point.panel ≡ panel

-- answers may be taken after these: all are of the panel, their stamps never fall, no point gives two in one
-- tick, and none is stamped before the tick of an operation done
pub record MayTake (site : Site) (panel : ℕ) (done : List Done) (taken answers : List Answer) : Type 0 where
  pub own : (k : ℕ) (answer : Answer) → slice_get answers k ≡ Some answer → IsOwn site panel answer.point
  pub order : AreInOrder (taken ++ answers)
  pub since : (k : ℕ) (answer : Answer) → slice_get answers k ≡ Some answer → AreBy answer.stamp.0 done

-- an operation may be applied in a tick: it is of the panel, may be done after those done, and is not earlier
-- than the answers taken
pub record MayApply (site : Site) (panel : ℕ) (done : List Done) (taken : List Answer) (operation : Operation)
    (tick : ℕ) : Type 0 where
  pub own : has_operands site panel operation ≡ true
  pub next : MayBeDone panel done operation tick
  pub late : (k : ℕ) (answer : Answer) → slice_get taken k ≡ Some answer → answer.stamp.0 ≤ tick
