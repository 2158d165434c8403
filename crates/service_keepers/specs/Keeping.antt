-- What a call of a keeper does to what it keeps, and when it may fail.
use Rattle.std.specs.Prelude.{◌≡◌, ℕ, ◌≤◌, List, ◌∷◌, ◌++◌, Option, Some, None, Result, Err, MatchBool, MatchOption}
use Rattle.std.specs.Prelude.{⊤}
use Rattle.panel_edges.specs.Faults.{Rose}
use Rattle.service_keepers.specs.Tables.{Tables, TestRow, VisitRow, has_test, visit_numbered}
use Rattle.service_keepers.specs.declared.keep_fault.KeepFault.{KeepFault}
use Rattle.service_keepers.specs.declared.keep_fault.KeepFault.TheVariants.{Failed}

-- a list gained an item, at any place
pub record Gains {X : Type 0} (item : X) (old new : List X) : Type 0 where
  pub front : List X
  pub back : List X
  pub before : old ≡ front ++ back
  pub after : new ≡ front ++ item ∷ back

pub record AddsVisit (visit : VisitRow) (old new : Tables) : Type 0 where
  pub visits : Gains visit old.visits new.visits
  pub tests : new.tests ≡ old.tests

pub record AddsTest (test : TestRow) (old new : Tables) : Type 0 where
  pub visits : new.visits ≡ old.visits
  pub tests : Gains test old.tests new.tests

-- a visit is added where none of its number is kept, and else nothing changes
abbrev pub PutsVisit : VisitRow → Tables → Tables → Type 0
PutsVisit visit old new =
    MatchOption (visit_numbered visit.number old.visits) (AddsVisit visit old new) (λ kept. new ≡ old)

-- a test is added where it isn't kept, and else nothing changes
abbrev pub PutsTest : TestRow → Tables → Tables → Type 0
PutsTest test old new = MatchBool (has_test test old.tests) (new ≡ old) (AddsTest test old new)

-- Tables that are told go on being told, and came from the old ones by a step. Nothing is said where nothing
-- was told.
abbrev pub ChangesBy : (Tables → Tables → Type 0) → Option Tables → Option Tables → Type 0
ChangesBy step None new = ⊤
ChangesBy step (Some old) None = ⊥
ChangesBy step (Some old) (Some new) = step old new

-- The count of faults never falls, and a call that answered Failed has raised it. Want of memory is no fault.
pub record HasKeepCause {T : Type 0} (before after : ℕ) (result : Result T KeepFault) : Type 0 where
  pub later : before ≤ after
  pub failed : result ≡ Err Failed → Rose before after
