-- What the texts of a call were answered, one after another, and what the call makes of it: an error is told exactly
-- where the database gave it in place of running a text.
use Rattle.std.specs.Prelude.{◌≡◌, ◌⊎◌, ℕ, List, [], ◌∷◌, Option, Some, None, Result, Ok, Err, slice_get, option_map}
use Rattle.sqlite_value.specs.Order.{Row, column}
use Rattle.sqlite.specs.Held.{Held, state}
use Rattle.sqlite.specs.State.{Executes, FailsToQuery, Shown, State}
use Rattle.sqlite.specs.Store.{Ghosts}
use Rattle.sqlite.specs.declared.error.Error.{Error}
use Rattle.service_keepers.specs.declared.visit.Visit.{Visit}
use Rattle.register_sqlite.specs.Days.{later_or}
use Rattle.register_sqlite.specs.Texts.{create_tests_text, create_visits_text, number_params, point_params}
use Rattle.register_sqlite.specs.Texts.{select_tests_text, select_visit_text}
use Rattle.register_sqlite.specs.Values.{IsVisitLabel, IsVisitNumber}
use Rattle.register_sqlite.specs.declared.trouble.Trouble.{Trouble}
use Rattle.register_sqlite.specs.declared.trouble.Trouble.TheVariants.{Text, Value}

-- a text that writes was run, or the call tells the error with which it was refused
abbrev pub RunsText : List ℕ → Row → State → State → Result (Unit {0}) Trouble → Type 0
RunsText sql params old new result =
    ((error : Error) × Executes sql params old new (Err error) × (result ≡ Err (Text error)))
    ⊎ ((count : ℕ) × Executes sql params old new (Ok count) × (result ≡ Ok tt))

-- ---- a visit

-- a row has this day and this engineer
abbrev pub HasVisit : Row → ℕ → List ℕ → Type 0
HasVisit row day engineer = IsVisitNumber (column row 0) day × IsVisitLabel (column row 1) engineer

-- of the rows that are shown the first is the visit of the number, or has what no visit holds
abbrev pub ReadsVisit : ℕ → Option Row → Result (Option Visit) Trouble → Type 0
ReadsVisit number None result = result ≡ Ok None
ReadsVisit number (Some row) (Ok None) = ⊥
ReadsVisit number (Some row) (Ok (Some visit)) = (visit.number ≡ number) × HasVisit row visit.day visit.engineer.bytes
ReadsVisit number (Some row) (Err trouble) =
    (trouble ≡ Value) × ((day : ℕ) (engineer : List ℕ) → ¬ HasVisit row day engineer)

-- the visit of a number is read from what its text shows, or the call tells the error with which that was refused
abbrev pub LooksUp : ℕ → State → State → Result (Option Visit) Trouble → Type 0
LooksUp number old new result =
    ((error : Error) × FailsToQuery select_visit_text (number_params number) old new error
    × (result ≡ Err (Text error)))
    ⊎ ((rows : List Row) × Shown select_visit_text (number_params number) old new rows
    × ReadsVisit number (slice_get rows 0) result)

-- ---- the last day of a point

-- the day of the visit that a look-up found, where there is one
abbrev pub day_told : Result (Option Visit) Trouble → Result (Option ℕ) Trouble
day_told (Ok visit) = Ok (option_map (λ (v : Visit). v.day) visit)
day_told (Err trouble) = Err trouble

module _ {S : Type 0} (store : Ghosts S) where
  -- the visit whose number a row has is looked up for its day, unless the row has no such number
  abbrev pub LooksUpDay : Row → Held S → Held S → Result (Option ℕ) Trouble → Type 0
  LooksUpDay row old new result =
      ((new ≡ old) × (result ≡ Err Value) × ((number : ℕ) → ¬ IsVisitNumber (column row 0) number))
      ⊎ ((number : ℕ) × IsVisitNumber (column row 0) number × (found : Result (Option Visit) Trouble)
      × LooksUp number (state store old) (state store new) found × (result ≡ day_told found))

  -- The days of some rows are looked up in turn, and the latest of them and of this one is the answer. A row that is
  -- not answered is the last, and the call tells what was told of it.
  abbrev pub LooksUpEach : List Row → Option ℕ → Held S → Held S → Result (Option ℕ) Trouble → Type 0
  LooksUpEach [] last old new result = (new ≡ old) × (result ≡ Ok last)
  LooksUpEach (row ∷ rest) last old new result =
      ((trouble : Trouble) × LooksUpDay row old new (Err trouble) × (result ≡ Err trouble))
      ⊎ ((after : Held S) × (day : Option ℕ) × LooksUpDay row old after (Ok day)
      × LooksUpEach rest (later_or last day) after new result)

  -- the tests of a point are shown, and then each of their visits is looked up
  abbrev pub LooksUpDays : List ℕ → Held S → Held S → Result (Option ℕ) Trouble → Type 0
  LooksUpDays point old new result =
      ((error : Error)
      × FailsToQuery select_tests_text (point_params point) (state store old) (state store new) error
      × (result ≡ Err (Text error)))
      ⊎ ((after : Held S) × (rows : List Row)
      × Shown select_tests_text (point_params point) (state store old) (state store after) rows
      × LooksUpEach rows None after new result)

  -- the text of the first table is run and then that of the second
  abbrev pub MakesTables : Held S → Held S → Result (Unit {0}) Trouble → Type 0
  MakesTables old new result =
      ((error : Error) × Executes create_visits_text [] (state store old) (state store new) (Err error)
      × (result ≡ Err (Text error)))
      ⊎ ((after : Held S) × (count : ℕ)
      × Executes create_visits_text [] (state store old) (state store after) (Ok count)
      × RunsText create_tests_text [] (state store after) (state store new) result)

-- a row shows the number of a visit
abbrev pub HasNumber : Row → Type 0
HasNumber row = (number : ℕ) × IsVisitNumber (column row 0) number
