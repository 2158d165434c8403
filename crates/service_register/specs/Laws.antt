-- A call that is made twice acts once.
use Rattle.std.specs.Prelude.{◌≡◌, Result, Ok, Err, ⊤}
use Rattle.service_keepers.specs.Tables.{Tables, TestRow, VisitRow}
use Rattle.service_register.specs.Answers.{IsOfKeeper, TestAnswered, VisitAnswered}
use Rattle.service_register.specs.declared.refusal.RegisterRefusal.{RegisterRefusal}

-- Ok, or a fault of the keeper or want of memory
abbrev pub IsOkOrFault : Result (Unit {0}) RegisterRefusal → Type 0
IsOkOrFault (Ok done) = ⊤
IsOkOrFault (Err refusal) = IsOfKeeper refusal

-- a visit that was put and is put again
pub record VisitsActOnce : Type 0 where
  pub changes : (visit : VisitRow) (again : Result (Unit {0}) RegisterRefusal) (a b c : Tables)
      → VisitAnswered visit (Ok tt) a b → VisitAnswered visit again b c → c ≡ b
  pub answer : (visit : VisitRow) (again : Result (Unit {0}) RegisterRefusal) (a b c : Tables)
      → VisitAnswered visit (Ok tt) a b → VisitAnswered visit again b c → IsOkOrFault again

-- a test that was put and is put again, of a point of the site
pub record TestsActOnce : Type 0 where
  pub changes : (test : TestRow) (again : Result (Unit {0}) RegisterRefusal) (a b c : Tables)
      → TestAnswered test (Ok tt) a b → TestAnswered test again b c → c ≡ b
