-- What a visit and a test can hold: numbers of 32 bits, and a text that fits a label.
use Rattle.std.specs.Prelude.{◌≡◌, ℕ, ◌<◌, ◌≤◌, ◌^◌, pos, List, length, IsUtf8}
use Rattle.arrayvec.specs.ArrayString.{ArrayString}
use Rattle.service_keepers.specs.Tables.{TestRow, VisitRow}
use Rattle.sqlite.specs.declared.types.Value.{Value}
use Rattle.sqlite.specs.declared.types.Value.TheVariants.{Int, Text}

-- a value is this number, which has 32 bits
abbrev pub IsVisitNumber : Value → ℕ → Type 0
IsVisitNumber value number = (value ≡ Int (pos number)) × (number < 2 ^ 32)

-- a value is this text, which a label holds
abbrev pub IsVisitLabel : Value → List ℕ → Type 0
IsVisitLabel value text = (value ≡ Text text) × IsUtf8 text × (length text ≤ 16)

-- the row of a visit on a day by the engineer that a label names
abbrev pub visit_by : ℕ → ℕ → ArrayString → VisitRow
visit_by number day engineer = record { number = number; day = day; engineer = engineer.bytes }

-- a visit's row is one of a visit
pub record IsVisitRow (visit : VisitRow) : Type 0 where
  pub number : visit.number < 2 ^ 32
  pub day : visit.day < 2 ^ 32
  pub text : IsUtf8 visit.engineer
  pub short : length visit.engineer ≤ 16

-- a test's row is one of a test
pub record IsTestRow (test : TestRow) : Type 0 where
  pub visit : test.visit < 2 ^ 32
  pub short : length test.point ≤ 16
