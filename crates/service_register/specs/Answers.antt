-- What the register answers to a visit and to a test, by what is kept.
use Rattle.std.specs.Prelude.{◌≡◌, ◌≢◌, ℕ, ◌≤◌, List, Some, None, Result, Ok, Err, MatchOption, ⊤}
use Rattle.panel_edges.specs.Faults.{Rose}
use Rattle.service_keepers.specs.Keeping.{AddsVisit, PutsTest}
use Rattle.service_keepers.specs.Rows.{visit_row}
use Rattle.service_keepers.specs.Tables.{Tables, TestRow, VisitRow, visit_numbered}
use Rattle.service_keepers.specs.declared.keep_fault.KeepFault.{KeepFault}
use Rattle.service_keepers.specs.declared.keep_fault.KeepFault.TheVariants.{Failed, NoMemory as IsFull}
use Rattle.service_register.specs.declared.refusal.RegisterRefusal.{RegisterRefusal}
use Rattle.service_register.specs.declared.refusal.RegisterRefusal.TheVariants.{Differs, KeeperFault, NoMemory}
use Rattle.service_register.specs.declared.refusal.RegisterRefusal.TheVariants.{NoSuchPoint, NoSuchVisit}

-- ---- a visit

-- the number is new and the visit is added, or the same visit is kept and nothing changes
abbrev pub AcceptsVisit : VisitRow → Tables → Tables → Type 0
AcceptsVisit visit old new =
    MatchOption (visit_numbered visit.number old.visits) (AddsVisit visit old new)
    (λ kept. (kept ≡ visit) × (new ≡ old))

-- another visit has the number
pub record HasOtherVisit (visit other : VisitRow) (kept : Tables) : Type 0 where
  pub found : visit_numbered visit.number kept.visits ≡ Some other
  pub apart : other ≢ visit

-- What is answered to a visit: Ok where it is accepted, Differs where another has the number, which is handed
-- back. A fault of the keeper and want of memory are free.
abbrev pub VisitAnswered : VisitRow → Result (Unit {0}) RegisterRefusal → Tables → Tables → Type 0
VisitAnswered visit (Ok done) old new = AcceptsVisit visit old new
VisitAnswered visit (Err (Differs other)) old new = HasOtherVisit visit (visit_row other) old × (new ≡ old)
VisitAnswered visit (Err NoSuchPoint) old new = ⊥
VisitAnswered visit (Err NoSuchVisit) old new = ⊥
VisitAnswered visit (Err KeeperFault) old new = new ≡ old
VisitAnswered visit (Err NoMemory) old new = new ≡ old

-- ---- a test

-- a test by the number of its visit and the name of its point
abbrev pub test_named : ℕ → List ℕ → TestRow
test_named visit point = record { visit = visit; point = point }

-- the visit is kept and the test is put
pub record AcceptsTest (test : TestRow) (old new : Tables) : Type 0 where
  pub visit : VisitRow
  pub found : visit_numbered test.visit old.visits ≡ Some visit
  pub puts : PutsTest test old new

-- What is answered to a test of a point: Ok where its visit is kept, NoSuchVisit where it isn't. Whether the
-- point is the site's doesn't depend on what is kept.
abbrev pub TestAnswered : TestRow → Result (Unit {0}) RegisterRefusal → Tables → Tables → Type 0
TestAnswered test (Ok done) old new = AcceptsTest test old new
TestAnswered test (Err NoSuchVisit) old new = (visit_numbered test.visit old.visits ≡ None) × (new ≡ old)
TestAnswered test (Err (Differs other)) old new = ⊥
TestAnswered test (Err NoSuchPoint) old new = new ≡ old
TestAnswered test (Err KeeperFault) old new = new ≡ old
TestAnswered test (Err NoMemory) old new = new ≡ old

-- ---- which refusals a call has, whether or not the keeper tells its tables

-- of a call that only asks the keeper
abbrev pub IsOfKeeper : RegisterRefusal → Type 0
IsOfKeeper NoSuchPoint = ⊥
IsOfKeeper (Differs other) = ⊥
IsOfKeeper NoSuchVisit = ⊥
IsOfKeeper KeeperFault = ⊤
IsOfKeeper NoMemory = ⊤

abbrev pub IsOfVisit : RegisterRefusal → Type 0
IsOfVisit NoSuchPoint = ⊥
IsOfVisit (Differs other) = ⊤
IsOfVisit NoSuchVisit = ⊥
IsOfVisit KeeperFault = ⊤
IsOfVisit NoMemory = ⊤

abbrev pub IsOfTest : RegisterRefusal → Type 0
IsOfTest NoSuchPoint = ⊤
IsOfTest (Differs other) = ⊥
IsOfTest NoSuchVisit = ⊤
IsOfTest KeeperFault = ⊤
IsOfTest NoMemory = ⊤

-- what a fault of the keeper is to the register
abbrev pub refusal_by : KeepFault → RegisterRefusal
refusal_by Failed = KeeperFault
refusal_by IsFull = NoMemory

-- The keeper's count of faults never falls, and a call that answered KeeperFault has raised it.
pub record HasRegisterCause {T : Type 0} (before after : ℕ) (result : Result T RegisterRefusal) : Type 0 where
  pub later : before ≤ after
  pub failed : result ≡ Err KeeperFault → Rose before after
