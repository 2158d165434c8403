-- How a visit and its tests are taken by the register, by what is kept.
use Rattle.std.specs.Prelude.{◌≡◌, ℕ, List, None, Result, Ok, Err, ⊤}
use Rattle.service_keepers.specs.Rows.{visit_row}
use Rattle.service_keepers.specs.Tables.{Tables, TestRow, VisitRow, visit_numbered}
use Rattle.service_register.specs.Answers.{HasOtherVisit}
use Rattle.service_register.specs.declared.refusal.RegisterRefusal.{RegisterRefusal}
use Rattle.service_register.specs.declared.refusal.RegisterRefusal.TheVariants.{Differs, KeeperFault, NoMemory}
use Rattle.service_register.specs.declared.refusal.RegisterRefusal.TheVariants.{NoSuchPoint, NoSuchVisit}
use Rattle.desk_register.specs.Puts.{PutsFirstTests, PutsInPart, PutsTests, PutsVisitAndTests}

-- All tests are put, or the visit of their number isn't kept. Where the keeper failed or memory ran out, some first
-- tests are put.
abbrev pub TestsTaken : ℕ → List TestRow → Result (Unit {0}) RegisterRefusal → Tables → Tables → Type 0
TestsTaken number tests (Ok done) old new = PutsTests tests old new
TestsTaken number tests (Err NoSuchPoint) old new = ⊥
TestsTaken number tests (Err (Differs other)) old new = ⊥
TestsTaken number tests (Err NoSuchVisit) old new = visit_numbered number old.visits ≡ None
TestsTaken number tests (Err KeeperFault) old new = PutsFirstTests tests old new
TestsTaken number tests (Err NoMemory) old new = PutsFirstTests tests old new

-- The visit is put and then all its tests, or another visit has the number. Where the keeper failed or memory ran out,
-- nothing is put, or the visit and some first tests.
abbrev pub VisitTaken : VisitRow → List TestRow → Result (Unit {0}) RegisterRefusal → Tables → Tables → Type 0
VisitTaken visit tests (Ok done) old new = PutsVisitAndTests visit tests old new
VisitTaken visit tests (Err NoSuchPoint) old new = ⊥
VisitTaken visit tests (Err (Differs other)) old new = HasOtherVisit visit (visit_row other) old × (new ≡ old)
VisitTaken visit tests (Err NoSuchVisit) old new = ⊥
VisitTaken visit tests (Err KeeperFault) old new = PutsInPart visit tests old new
VisitTaken visit tests (Err NoMemory) old new = PutsInPart visit tests old new

-- which refusals tests of points of the site have, whether or not the keeper tells its tables
abbrev pub IsOfTests : RegisterRefusal → Type 0
IsOfTests NoSuchPoint = ⊥
IsOfTests (Differs other) = ⊥
IsOfTests NoSuchVisit = ⊤
IsOfTests KeeperFault = ⊤
IsOfTests NoMemory = ⊤

-- which refusals a visit with tests of points of the site has, whether or not the keeper tells its tables
abbrev pub IsOfVisitWithTests : RegisterRefusal → Type 0
IsOfVisitWithTests NoSuchPoint = ⊥
IsOfVisitWithTests (Differs other) = ⊤
IsOfVisitWithTests NoSuchVisit = ⊤
IsOfVisitWithTests KeeperFault = ⊤
IsOfVisitWithTests NoMemory = ⊤

-- a fact where another visit has the number
abbrev pub IfOther : RegisterRefusal → Type 0 → Type 0
IfOther NoSuchPoint fact = ⊤
IfOther (Differs other) fact = fact
IfOther NoSuchVisit fact = ⊤
IfOther KeeperFault fact = ⊤
IfOther NoMemory fact = ⊤
