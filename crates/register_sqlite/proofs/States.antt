-- What stays of a register whatever a text did that failed or only read.
use Rattle.std.proofs.Common.{◌≡◌, inl, inr, ℕ, false, List, append-nil, map, Some, None, Err, Option, sym, ap, subst, ◌∙◌, IsTrue}
use Rattle.std.proofs.lemmas.Bool.{cases_Bool}
use Rattle.std.specs.List.{AllByRecursion}
use Rattle.sqlite_value.specs.Order.{Row}
use Rattle.sqlite_schema.specs.declared.command.Returning.{Returning}
use Rattle.sqlite.specs.declared.error.Error.{Error}
use Rattle.sqlite.specs.Clock.{timed}
use Rattle.sqlite.specs.Effect.{Database}
use Rattle.sqlite.specs.Given.{IsPlain}
use Rattle.sqlite.specs.Listing.{understood}
use Rattle.sqlite.specs.State.{Executes, ExecutesIn, Fails, FailsToQuery, FailsToShow, IsNotRun, IsRolledBack, IsUnchanged, RunsCommand, Shown, State, shows_rows}
use Rattle.service_keepers.specs.Tables.{AreDistinct}
use Rattle.register_sqlite.specs.Schema.{register_schema}
use Rattle.register_sqlite.specs.Values.{IsTestRow, IsVisitRow}
use Rattle.register_sqlite.specs.Stored.{IsRegister, KeepsRegister, stored_tests, stored_visit, tables_in}

module _ (old new : State) (register : IsRegister old) (open_now : IsTrue new.is_open) (limit : new.step_limit ≡ old.step_limit) where
  stays : IsTrue old.is_open → new.now ≡ old.now → new.committed ≡ old.now → new.in_transaction ≡ false → KeepsRegister old new
  stays was now committed autocommit = record {
    register = record {
      schema = ap (λ (d : Database). d.schema) now ∙ register.schema;
      settled = committed ∙ sym now;
      autocommit = autocommit;
      visits = subst (λ (d : Database). d.trees 0 ≡ map stored_visit (tables_in d.trees).visits) (sym now) register.visits;
      tests = subst (λ (d : Database). d.trees 1 ≡ stored_tests 1 (tables_in d.trees).tests) (sym now) register.tests;
      distinct = subst (λ (d : Database). AreDistinct (tables_in d.trees)) (sym now) register.distinct;
      of_visits = subst (λ (d : Database). AllByRecursion IsVisitRow (tables_in d.trees).visits) (sym now) register.of_visits;
      of_tests = subst (λ (d : Database). AllByRecursion IsTestRow (tables_in d.trees).tests) (sym now) register.of_tests;
      unlimited = limit ∙ register.unlimited;
    };
    same = now;
    was_open = was;
  }

  pub unchanged : IsUnchanged old new → KeepsRegister old new
  unchanged h = stays h.0.was_open h.0.now_is (h.0.committed_is ∙ register.settled) (h.0.mode ∙ register.autocommit)

  rolled_back : IsRolledBack old new → KeepsRegister old new
  rolled_back h =
      let undone = h.undone open_now in
      stays (h.was_open open_now) (undone.0 ∙ register.settled) (undone.1 ∙ register.settled) h.autocommit

  failed : (big : Type 0) (e : Error) → Fails old new big e → KeepsRegister old new
  failed big e h = rolled_back h.3

  not_run : (sql : List ℕ) (params : Row) (e : Error) → IsNotRun old new sql params e → KeepsRegister old new
  unfolding IsNotRun
  not_run sql params e (inl h) = unchanged h.1
  not_run sql params e (inr h) = failed ⊥ e h

  pub execute_fails : (sql : List ℕ) (params : Row) (e : Error) → Executes sql params old new (Err e) → KeepsRegister old new
  unfolding ExecutesIn
  execute_fails sql params e (inl h) = not_run sql params e h
  execute_fails sql params e (inr h) = elim (cases_Bool (shows_rows false h.0)) [
    | inl shows ↦ unchanged ((rw shows at h.2).1)
    | inr runs ↦ command_fails (rw runs at h.2)
  ]
    where
      command_fails : RunsCommand old new sql h.0 (timed params h.0.formats h.1.now) (Err e) → KeepsRegister old new
      command_fails (inl refused) = unchanged refused.1
      command_fails (inr stopped) = failed _ e stopped

  pub query_fails : (sql : List ℕ) (params : Row) (e : Error) → FailsToQuery sql params old new e → KeepsRegister old new
  unfolding FailsToQuery
  query_fails sql params e (inl h) = not_run sql params e h
  query_fails sql params e (inr h) = refused h.0.returning h.2
    where
      refused : (returning : Option Returning) → FailsToShow old new sql h.0 (timed params h.0.formats h.1.now) e returning → KeepsRegister old new
      refused None shown = unchanged shown.3
      refused (Some what) (inl stopped) = unchanged stopped.1
      refused (Some what) (inr stopped) = failed _ e stopped

  -- a text that reads changes nothing
  pub read : (sql : List ℕ) (params : Row) → IsPlain (understood register_schema sql) → (rows : List Row) → Shown sql params old new rows → KeepsRegister old new
  unfolding Shown
  read sql params plain rows h =
      let known = sym h.1.is ∙ ap (λ s. understood s sql) register.schema in
      let bare = subst IsPlain (sym known) plain in
      let it = rw (bare.0, bare.1, append-nil params) at h.2 in
      unchanged it.3
